-- What the formulas give, by what the code computes.
use Rattle.std.proofs.Common.{◌≡◌, ℕ, ◌+◌, ◌-◌, ◌*◌, ◌/◌, ◌^◌, ◌<◌, true, false, ◌==◌, ℤ, pos, unsigned_abs, arith, refl, ap, ap₂, ◌∙◌}
use Rattle.std.specs.Int.RustNames.{int_lt}
use Rattle.std.proofs.lemmas.Bool.Decides.{nat_tests}
use Rattle.std.proofs.Math.Nat.{mul-pos}
use Rattle.pl_spec.specs.Rounding.{MISSING, isqrt, neg, to_cell}
use Rattle.pl_pipeline.specs.Formula.{PairSums, spread_x, spread_y, joint_spread, root_quot, correlation, slope_error}

-- ---- a root

pub root_none : (a b : ℕ) → b ≡ 0 → MISSING ≡ root_quot a b
root_none a b e = rw e refl

pub root_some : (a b : ℕ) (v : ℤ) → 0 < b → v ≡ to_cell (pos ((isqrt (4 * a / b) + 1) / 2)) → v ≡ root_quot a b
root_some a b v some e =
    let no : (b == 0) ≡ false = grind (arith, nat_tests) in
    rw no e

-- ---- the correlation

-- what the code computes of the sums: the root of one number over another
pub record IsCorrelated (s : PairSums) (size : ℤ) (square divisor : ℕ) : Type 0 where
  pub root : size ≡ root_quot square divisor
  pub square_is : square ≡ unsigned_abs (joint_spread s) * unsigned_abs (joint_spread s) * 10 ^ 12
  pub divisor_is : divisor ≡ unsigned_abs (spread_x s) * unsigned_abs (spread_y s)

size_is : (s : PairSums) (size : ℤ) (square divisor : ℕ) → IsCorrelated s size square divisor
    → size ≡ root_quot (unsigned_abs (joint_spread s) * unsigned_abs (joint_spread s) * 10 ^ 12) (unsigned_abs (spread_x s) * unsigned_abs (spread_y s))
size_is s size square divisor h = h.root ∙ ap₂ root_quot h.square_is h.divisor_is

pub correlated_below : (s : PairSums) (size : ℤ) (square divisor : ℕ) → IsCorrelated s size square divisor → int_lt (joint_spread s) (pos 0) ≡ true → neg size ≡ correlation s
unfolding correlation
correlated_below s size square divisor h e = rw e (ap neg (size_is s size square divisor h))

pub correlated_above : (s : PairSums) (size : ℤ) (square divisor : ℕ) → IsCorrelated s size square divisor → int_lt (joint_spread s) (pos 0) ≡ false → size ≡ correlation s
unfolding correlation
correlated_above s size square divisor h e = rw e (size_is s size square divisor h)

-- the same of the spreads themselves, which are not 0
pub correlated : (s : PairSums) (size : ℤ) (a x y : ℕ) → a ≡ unsigned_abs (joint_spread s) → x ≡ unsigned_abs (spread_x s) → y ≡ unsigned_abs (spread_y s)
    → 0 < x → 0 < y → size ≡ to_cell (pos ((isqrt (4 * (a * a * 10 ^ 12) / (x * y)) + 1) / 2)) → IsCorrelated s size (a * a * 10 ^ 12) (x * y)
correlated s size a x y j u v some_x some_y e = record {
  root = root_some (a * a * 10 ^ 12) (x * y) size (mul-pos some_x some_y) e;
  square_is = rw j refl;
  divisor_is = rw (u, v) refl;
}

-- ---- the standard error

pub record IsErring (s : PairSums) (square divisor : ℕ) : Type 0 where
  pub square_is : square ≡ (unsigned_abs (spread_x s) * unsigned_abs (spread_y s) - unsigned_abs (joint_spread s) * unsigned_abs (joint_spread s)) * 10 ^ 12
  pub divisor_is : divisor ≡ unsigned_abs (spread_x s) * unsigned_abs (spread_x s) * (s.number - 2)

pub erring : (s : PairSums) (square divisor : ℕ) → IsErring s square divisor → root_quot square divisor ≡ slope_error s
unfolding slope_error
erring s square divisor h = ap₂ root_quot h.square_is h.divisor_is
