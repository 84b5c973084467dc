-- Correlations and regressions of values in another unit.
use Rattle.std.specs.Prelude.{◌≡◌, ◌*◌, ◌*ℤ◌, ℤ, pos, List, map}
use Rattle.std.specs.Int.RustNames.{unsigned_abs}
use Rattle.pl_spec.specs.Rounding.{MILLION, Fraction, scaled}
use Rattle.pl_pipeline.specs.declared.WindowKind.{WindowKind}
use Rattle.pl_pipeline.specs.declared.WindowKind.TheVariants.{Correlation, RankCorrelation, Covariance, RegressionSlope, WindowRSquared}
use Rattle.pl_pipeline.specs.Formula.{pair_sums, spread_x, joint_spread, formula}
use Rattle.pl_invariance.specs.Units.{IsRatio, AreExact, IsUnrounded, HasUnit}

-- The formula of two windows is the same where the values of one side are multiplied by a ratio above 0 that
-- rounds none of them. What is missing stays so.
pub record HasNoScale (kind : WindowKind) : Type 0 where
  pub first : (r : Fraction) (ys xs zs : List ℤ) → IsRatio r → AreExact r ys
      → formula kind (map (scaled r) ys) xs zs ≡ formula kind ys xs zs
  pub second : (r : Fraction) (ys xs zs : List ℤ) → IsRatio r → AreExact r xs
      → formula kind ys (map (scaled r) xs) zs ≡ formula kind ys xs zs

pub record CorrelationsHaveNoScale : Type 0 where
  pub correlation : HasNoScale Correlation
  pub ranks : HasNoScale RankCorrelation
  -- so is the share of the variance that the line through the values at their places explains
  pub r_squared : (r : Fraction) (xs ys zs : List ℤ) → IsRatio r → AreExact r xs
      → formula WindowRSquared (map (scaled r) xs) ys zs ≡ formula WindowRSquared xs ys zs

-- A covariance and a slope are of the unit of y: they are multiplied by the ratio, where the quotient that
-- each rounds has no rest, and what it gives is not rounded by the ratio.
pub record RegressionsHaveUnits : Type 0 where
  pub covariance : (r : Fraction) (ys xs zs : List ℤ) → IsRatio r → AreExact r ys
      → let s = pair_sums xs ys in IsUnrounded r (joint_spread s) (s.number * s.number * MILLION)
      → HasUnit r Covariance ys xs zs
  pub slope : (r : Fraction) (ys xs zs : List ℤ) → IsRatio r → AreExact r ys
      → let s = pair_sums xs ys in IsUnrounded r (joint_spread s *ℤ pos MILLION) (unsigned_abs (spread_x s))
      → HasUnit r RegressionSlope ys xs zs
