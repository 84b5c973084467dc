-- Values that are not all equal have a spread, so they explain themselves.
use Rattle.std.proofs.Common.{◌≡◌, ◌≢◌, ℕ, zero, suc, ◌*◌, ◌^◌, false, nat_lt, inl, inr, ℤ, pos, negsuc, neg_ℤ, ◌-ℤ◌, ◌*ℤ◌, List, [], ◌∷◌, length, map, unsigned_abs, arith, refl, ap, ◌∙◌}
use Rattle.std.proofs.lemmas.Int.{ints}
use Rattle.std.proofs.lemmas.Bool.Decides.{nat_tests}
use Rattle.std.proofs.Math.IntN.{*ℤ_comm, negsuc-*ℤ-pos}
use Rattle.pl_spec.specs.Cells.{total, present_values}
use Rattle.pl_spec.specs.Rounding.{MILLION, quot}
use Rattle.pl_spec.proofs.Members.{In, contains-in, map-in}
use Rattle.pl_pipeline.specs.Formula.{sums_of_pairs, spread_x, spread_y, joint_spread, square, root_quot, with_sign, correlation, slope, formula}
use Rattle.pl_invariance.specs.Varied.{VariedValuesExplainThemselves}
use Rattle.pl_invariance.proofs.Exact.{cancel}
use Rattle.pl_invariance.proofs.Paired.{twice, own-pairs, map-twice, own-joint, one, turned-back, root-one}
use Rattle.pl_invariance.proofs.Schwarz.{size, own-spread, spread-not-below}

-- ---- a sum of squares that is 0

no-square : (n : ℕ) → n * n ≡ 0 → n ≡ 0
no-square zero e = refl
no-square (suc n) e = absurd (omega (arith, e))

no-value : (z : ℤ) → unsigned_abs z ≡ 0 → z ≡ pos 0
no-value z e = omega (arith, ints, e)

none-in : (f : ℤ × ℤ → ℤ) (qs : List (ℤ × ℤ)) (q : ℤ × ℤ) → size f qs ≡ 0 → In q qs → f q ≡ pos 0
none-in f [] q e i = absurd i
none-in f (p ∷ qs) q e (inl g) = ap f g ∙ no-value (f p) (no-square (unsigned_abs (f p)) (omega (arith, e)))
none-in f (p ∷ qs) q e (inr i) = none-in f qs q (omega (arith, e)) i

none-of : (n m : ℕ) (z : ℤ) → z ≡ pos 0 → pos n *ℤ z ≡ pos m → m ≡ 0
none-of n m z e h = let g : pos n *ℤ pos 0 ≡ pos m = rw e at h in omega (arith, ints, g)

meet : (a b c : ℤ) → a -ℤ c ≡ pos 0 → b -ℤ c ≡ pos 0 → a ≡ b
meet a b c e f = omega (arith, ints, e, f)

varied : (vs : List ℤ) (x y : ℤ) → In x vs → In y vs → x ≢ y → spread_x (sums_of_pairs (map twice vs)) ≡ pos 0 → ⊥
varied [] x y i j apart e = absurd i
varied (v ∷ vs) x y i j apart e =
    let ps = map twice vs in
    let qs = twice v ∷ ps in
    let n = suc (length ps) in
    let s = sums_of_pairs qs in
    let f : ℤ × ℤ → ℤ = λ q. (pos n *ℤ q.0) -ℤ s.x in
    let none : size f qs ≡ 0 = none-of n (size f qs) (spread_x s) e (own-spread (twice v) ps) in
    let a : f (twice x) ≡ pos 0 = none-in f qs (twice x) none (map-in twice (v ∷ vs) x i) in
    let b : f (twice y) ≡ pos 0 = none-in f qs (twice y) none (map-in twice (v ∷ vs) y j) in
    let same : x *ℤ pos n ≡ y *ℤ pos n = *ℤ_comm x (pos n) ∙ meet (pos n *ℤ x) (pos n *ℤ y) s.x a b ∙ *ℤ_comm (pos n) y in
    apart (cancel x y n (omega arith) same)

-- ---- what is divided by it

quot-is-one : (a b : ℤ) → b ≡ a → (a ≡ pos 0 → ⊥) → quot (b *ℤ pos MILLION) a ≡ pos MILLION
unfolding quot
quot-is-one (pos zero) b e f = absurd (f refl)
quot-is-one (pos (suc n)) b e f = rw e (one n)
quot-is-one (negsuc n) b e f =
    let turned : neg_ℤ (negsuc n *ℤ pos MILLION) ≡ pos (suc n * MILLION) = ap neg_ℤ (negsuc-*ℤ-pos n MILLION) ∙ turned-back (suc n * MILLION) in
    rw (e, turned) (one n)

root-is-one : (a : ℤ) → (a ≡ pos 0 → ⊥) → ((n : ℕ) → a ≡ negsuc n → ⊥) → (j y : ℤ) → j ≡ a → y ≡ a
    → with_sign j (root_quot (square j * 10 ^ 12) (unsigned_abs a * unsigned_abs y)) ≡ pos MILLION
root-is-one (pos zero) f h j y e g = absurd (f refl)
root-is-one (pos (suc m)) f h j y e g = let no : nat_lt (suc m) 0 ≡ false = grind (arith, nat_tests) in rw (e, g, no) (root-one m)
root-is-one (negsuc n) f h j y e g = absurd (h n refl)

explained : (vs : List ℤ) → (spread_x (sums_of_pairs (map twice vs)) ≡ pos 0 → ⊥)
    → (correlation (sums_of_pairs (map twice vs)) ≡ pos MILLION) × (slope (sums_of_pairs (map twice vs)) ≡ pos MILLION)
unfolding correlation slope
explained vs some =
    let s = sums_of_pairs (map twice vs) in
    let y = ap total (map-twice (λ x y. y) (λ x y. x) (λ x. refl) vs) in
    let yy = ap total (map-twice (λ x y. y *ℤ y) (λ x y. x *ℤ x) (λ x. refl) vs) in
    let same : spread_y s ≡ spread_x s = rw (y, yy) refl in (
      root-is-one (spread_x s) some (spread-not-below (map twice vs)) (joint_spread s) (spread_y s) (own-joint vs) same,
      quot-is-one (spread_x s) (joint_spread s) (own-joint vs) some,
    )

pub varied-values-explain-themselves : VariedValuesExplainThemselves
unfolding formula
varied-values-explain-themselves xs zs x y i j apart =
    let vs = present_values xs in
    rw (own-pairs xs) (explained vs (varied vs x y (contains-in vs x i) (contains-in vs y j) apart))
