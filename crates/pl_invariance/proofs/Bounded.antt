-- A correlation is at most 1 in magnitude.
use Rattle.std.proofs.Common.{◌≡◌, ℕ, zero, suc, ◌+◌, ◌*◌, ◌/◌, ◌^◌, ◌<◌, ◌≤◌, ◌==◌, Bool, true, false, if◌then◌else◌, nat_le, ◌⊎◌, inl, inr, ℤ, pos, List, unsigned_abs, arith, refl}
use Rattle.std.specs.Int.RustNames.{int_lt}
use Rattle.std.proofs.lemmas.Nat.{mul-le, div_below}
use Rattle.std.proofs.lemmas.Bool.{cases_lt}
use Rattle.std.proofs.lemmas.Bool.Decides.{nat_tests}
use Rattle.std.proofs.Math.Nat.{div-le_of_le-mul}
use Rattle.pl_spec.specs.Rounding.{MISSING, MILLION, LIMIT, IsRoot, isqrt, neg, to_cell}
use Rattle.pl_spec.proofs.Roots.{isqrt-is_root}
use Rattle.pl_spec.proofs.Signed.{unsigned_abs-neg}
use Rattle.pl_pipeline.specs.Formula.{present_pairs, sums_of_pairs, spread_x, spread_y, joint_spread, square, near_root, root_quot, correlation}
use Rattle.pl_invariance.specs.Paired.{IsWithinOne, CorrelationsAreBounded}
use Rattle.pl_invariance.proofs.Schwarz.{cauchy-schwarz}

-- half the root of what is at most 4
root-small : (v : ℕ) → v ≤ 4 * 10 ^ 12 → near_root v ≤ MILLION
root-small v h =
    let root : IsRoot v (isqrt v) = isqrt-is_root v in
    let few : isqrt v ≤ 2 * MILLION = elim (cases_lt (2 * MILLION) (isqrt v)) [
      | inl above ↦
          let square : (2 * MILLION + 1) * (2 * MILLION + 1) ≤ isqrt v * isqrt v = mul-le (2 * MILLION + 1) (2 * MILLION + 1) (isqrt v) (isqrt v) (omega arith) (omega arith) in
          absurd (omega (arith, square, root.within))
      | inr low ↦ low
    ] in
    let half : (isqrt v + 1) / 2 < MILLION + 1 = div_below (isqrt v + 1) 2 (MILLION + 1) (omega arith) (omega (arith, few)) in
    omega arith

-- a cell from 0 to 1
record IsSmall (v : ℤ) : Type 0 where
  pub size : ℕ
  pub few : size ≤ MILLION
  pub is : v ≡ pos size

small-cell : (q : ℕ) → q ≤ MILLION → to_cell (pos q) ≡ pos q
unfolding to_cell
small-cell q h = let t : nat_le q LIMIT ≡ true = grind (arith, nat_tests) in rw t refl

quotient-small : (c d : ℕ) → c ≤ d → (root_quot (c * 10 ^ 12) d ≡ MISSING) ⊎ IsSmall (root_quot (c * 10 ^ 12) d)
quotient-small c zero h = inl refl
quotient-small c (suc d) h =
    let most : 4 * (c * 10 ^ 12) ≤ suc d * (4 * 10 ^ 12) = omega (arith, h) in
    let few : 4 * (c * 10 ^ 12) / suc d ≤ 4 * 10 ^ 12 = div-le_of_le-mul (suc d) most in
    let small = root-small (4 * (c * 10 ^ 12) / suc d) few in
    let no : (suc d == 0) ≡ false = grind (arith, nat_tests) in
    inr (record { size = near_root (4 * (c * 10 ^ 12) / suc d); few = small; is = rw no (small-cell (near_root (4 * (c * 10 ^ 12) / suc d)) small) })

turned-by : (v : ℤ) (b : Bool) → (v ≡ MISSING) ⊎ IsSmall v → IsWithinOne (if b then neg v else v)
unfolding neg
turned-by v true (inl e) = inl (rw e refl)
turned-by v true (inr k) = let few = k.few in inr (rw k.is (omega (arith, unsigned_abs-neg (pos k.size))))
turned-by v false (inl e) = inl e
turned-by v false (inr k) = let few = k.few in inr (rw k.is (omega arith))

pub bounded-pairs : (ps : List (ℤ × ℤ)) → IsWithinOne (correlation (sums_of_pairs ps))
unfolding correlation
bounded-pairs ps =
    let s = sums_of_pairs ps in
    let d = unsigned_abs (spread_x s) * unsigned_abs (spread_y s) in
    turned-by (root_quot (square (joint_spread s) * 10 ^ 12) d) (int_lt (joint_spread s) (pos 0)) (quotient-small (square (joint_spread s)) d (cauchy-schwarz ps))

pub correlations-are-bounded : CorrelationsAreBounded
correlations-are-bounded xs ys = bounded-pairs (present_pairs xs ys)
