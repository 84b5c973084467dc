-- Formulas over powers of prices, and roots of them, in another unit.
use Rattle.std.specs.Prelude.{◌≡◌, ◌⊎◌, false, ℕ, ◌-◌, ◌*◌, ◌^◌, ℤ, ◌-ℤ◌, ◌*ℤ◌, List, length, map}
use Rattle.std.specs.Int.RustNames.{unsigned_abs}
use Rattle.std.specs.List.{list_any}
use Rattle.pl_spec.specs.Cells.{total}
use Rattle.pl_spec.specs.Rounding.{Fraction, is_missing, scaled}
use Rattle.pl_pipeline.specs.declared.WindowKind.{WindowKind}
use Rattle.pl_pipeline.specs.declared.WindowKind.TheVariants.{MaxDrawdown, WindowSkewness, WindowKurtosis, ExponentialWeightedMovingStdDev, RegressionError}
use Rattle.pl_pipeline.specs.Formula.{FINE, products, weights, weighted_squares, square, root_quot, PairSums, pair_sums, spread_x, spread_y, joint_spread, formula}
use Rattle.pl_invariance.specs.Ranked.{IsExact}
use Rattle.pl_invariance.specs.Units.{IsRatio, AreExact, HasUnit}

-- The root of the quotient of a and b is a cell without a rest, and the ratio does not round it; or there is
-- nothing to divide by.
abbrev pub IsRootExact : Fraction → ℕ → ℕ → Type 0
IsRootExact r a b = (b ≡ 0) ⊎ (IsExact r (root_quot a b) × (square (root_quot a b) * b ≡ a))

-- what a deviation with weights is the root of the quotient of
abbrev pub IsFadedExact : Fraction → List ℤ → List ℤ → Type 0
IsFadedExact r ws xs =
    let v = total ws in
    let first = total (products ws xs) in
    IsRootExact r (unsigned_abs ((v *ℤ weighted_squares ws xs) -ℤ (first *ℤ first)))
    (unsigned_abs ((v *ℤ v) -ℤ total (products ws ws)))

-- and the error of a slope
abbrev pub IsErrorExact : Fraction → PairSums → Type 0
IsErrorExact r s =
    let xx = unsigned_abs (spread_x s) in
    let yy = unsigned_abs (spread_y s) in
    IsRootExact r ((xx * yy - square (joint_spread s)) * 10 ^ 12) (xx * xx * (s.number - 2))

-- of prices that a ratio above 0 does not round the formula gives the same in both units
abbrev pub HasNoUnit : WindowKind → Type 0
HasNoUnit kind = (r : Fraction) (xs ys zs : List ℤ) → IsRatio r → AreExact r xs
    → formula kind (map (scaled r) xs) ys zs ≡ formula kind xs ys zs

pub record ShapesHaveNoUnit : Type 0 where
  pub drawdown : HasNoUnit MaxDrawdown
  pub skewness : HasNoUnit WindowSkewness
  pub kurtosis : HasNoUnit WindowKurtosis
  -- the error of the slope of prices on prices
  pub error : (r : Fraction) (ys xs zs : List ℤ) → IsRatio r → AreExact r ys → AreExact r xs
      → formula RegressionError (map (scaled r) ys) (map (scaled r) xs) zs ≡ formula RegressionError ys xs zs

-- These are multiplied by the ratio, where the roots have no rest.
pub record RootsHaveUnits : Type 0 where
  pub faded_deviation : (r : Fraction) (decay : ℤ) (xs ys zs : List ℤ) → IsRatio r → AreExact r xs
      → (list_any is_missing xs ≡ false → IsFadedExact r (weights FINE decay (length xs)) xs)
      → HasUnit r (ExponentialWeightedMovingStdDev decay) xs ys zs
  -- the error of a slope whose first input, y, is a price
  pub error : (r : Fraction) (ys xs zs : List ℤ) → IsRatio r → AreExact r ys
      → IsErrorExact r (pair_sums xs ys) → HasUnit r RegressionError ys xs zs
