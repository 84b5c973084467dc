-- The magnitudes of what a scale gives add up to 1.
use Rattle.std.proofs.Common.{◌≡◌, ℕ, zero, suc, ◌+◌, ◌*◌, ◌<◌, ◌≤◌, ℤ, pos, ◌-ℤ◌, ◌*ℤ◌, List, [], ◌∷◌, length, unsigned_abs, arith, refl, sum_by}
use Rattle.std.proofs.lemmas.Int.{ints, unsigned_abs-mul}
use Rattle.std.proofs.lemmas.List.Sums.{sum_by-cons}
use Rattle.pl_spec.specs.Rounding.{MILLION, div_round, quot}
use Rattle.pl_spec.proofs.Nearest.{div_round-is_nearest}
use Rattle.pl_spec.proofs.Within.{to_cell-within}
use Rattle.pl_pipeline.specs.Cross.{Entry, values, cross}
use Rattle.pl_invariance.specs.Lines.{ScalesAddUp}
use Rattle.pl_invariance.proofs.Lines.{less-factor}

-- x over the sum, in millionths
abbrev share : ℕ → ℤ → ℤ
share sum x = quot (x *ℤ pos MILLION) (pos sum)

-- a times b is near c times d
record IsNear (a b c d : ℕ) : Type 0 where
  pub low : 2 * (c * d) ≤ 2 * (a * b) + b
  pub high : 2 * (a * b) ≤ 2 * (c * d) + b

one-share : (x : ℤ) (sum : ℕ) → unsigned_abs x ≤ suc sum → IsNear (unsigned_abs (share (suc sum) x)) (suc sum) (unsigned_abs x) MILLION
unfolding quot
one-share x sum few =
    let s = suc sum in
    let d = div_round (x *ℤ pos MILLION) s in
    let near = (div_round-is_nearest (x *ℤ pos MILLION) s (omega arith)).near in
    let left : unsigned_abs (x *ℤ pos MILLION) ≡ unsigned_abs x * MILLION = unsigned_abs-mul x (pos MILLION) in
    let right : unsigned_abs (d *ℤ pos s) ≡ unsigned_abs d * s = unsigned_abs-mul d (pos s) in
    let low = triangle (x *ℤ pos MILLION) (d *ℤ pos s) s near in
    let high = triangle-back (x *ℤ pos MILLION) (d *ℤ pos s) s near in
    let all : 2 * (unsigned_abs x * MILLION) ≤ 2 * (unsigned_abs d * s) + s = omega (arith, low, left, right) in
    let none : 2 * (unsigned_abs d * s) ≤ 2 * (unsigned_abs x * MILLION) + s = omega (arith, high, left, right) in
    let most : 2 * unsigned_abs d ≤ 2 * MILLION + 1 = less-factor s (2 * unsigned_abs d) (2 * MILLION + 1) (omega arith) (omega (arith, none, few)) in
    rw (to_cell-within d (omega (arith, most))) (record { low = all; high = none })
  where
    triangle : (a b : ℤ) (s : ℕ) → 2 * unsigned_abs (a -ℤ b) ≤ s → 2 * unsigned_abs a ≤ 2 * unsigned_abs b + s
    triangle a b s h = omega (arith, ints, h)

    triangle-back : (a b : ℤ) (s : ℕ) → 2 * unsigned_abs (a -ℤ b) ≤ s → 2 * unsigned_abs b ≤ 2 * unsigned_abs a + s
    triangle-back a b s h = omega (arith, ints, h)

-- the same of sums over a list
record AreNear (sum shares all n : ℕ) : Type 0 where
  pub low : 2 * (all * MILLION) ≤ 2 * (shares * sum) + n * sum
  pub high : 2 * (shares * sum) ≤ 2 * (all * MILLION) + n * sum

shares-near : (sum : ℕ) (list : List Entry) → sum_by unsigned_abs (values list) ≤ suc sum
    → AreNear (suc sum) (sum_by (λ e. unsigned_abs (share (suc sum) e.1)) list) (sum_by unsigned_abs (values list)) (length list)
shares-near sum [] few = record { low = omega arith; high = omega arith }
shares-near sum (e ∷ list) few =
    let s = suc sum in
    let a = sum_by-cons unsigned_abs e.1 (values list) in
    let b = sum_by-cons (λ (e : Entry). unsigned_abs (share s e.1)) e list in
    let rest = shares-near sum list (omega (arith, few, a)) in
    let here = one-share e.1 sum (omega (arith, few, a)) in
    rw (a, b) (record { low = omega (arith, rest.low, here.low); high = omega (arith, rest.high, here.high) })

added : (sum : ℕ) (list : List Entry) → 0 < sum → sum_by unsigned_abs (values list) ≡ sum
    → let shares = sum_by (λ e. unsigned_abs (share sum e.1)) list in
    (2 * MILLION ≤ 2 * shares + length list) × (2 * shares ≤ 2 * MILLION + length list)
added zero list some e = absurd (omega arith)
added (suc sum) list some e =
    let s = suc sum in
    let shares = sum_by (λ (e : Entry). unsigned_abs (share s e.1)) list in
    let near = shares-near sum list (omega (arith, e)) in
    let low : 2 * (s * MILLION) ≤ 2 * (shares * s) + length list * s = rw e at near.low in
    let high : 2 * (shares * s) ≤ 2 * (s * MILLION) + length list * s = rw e at near.high in (
      less-factor s (2 * MILLION) (2 * shares + length list) some (omega (arith, low)),
      less-factor s (2 * shares) (2 * MILLION + length list) some (omega (arith, high)),
    )

pub scales-add-up : ScalesAddUp
unfolding cross
scales-add-up list some = added (sum_by unsigned_abs (values list)) list some refl
