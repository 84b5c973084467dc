-- Correlations and regressions of values to which a constant is added.
use Rattle.std.specs.Prelude.{◌≡◌, ◌⊎◌, false, ℤ, List, map}
use Rattle.pl_spec.specs.Each.{Each}
use Rattle.pl_spec.specs.Rounding.{MISSING, is_missing, add}
use Rattle.pl_pipeline.specs.declared.WindowKind.{WindowKind}
use Rattle.pl_pipeline.specs.declared.WindowKind.TheVariants.{Correlation, RankCorrelation, Covariance, RegressionSlope, RegressionError}
use Rattle.pl_pipeline.specs.Formula.{formula}

-- each value is missing, or its sum with the constant is a cell
abbrev pub AreMoved : ℤ → List ℤ → Type 0
AreMoved c xs = Each (λ x. (x ≡ MISSING) ⊎ (is_missing (add c x) ≡ false)) xs

-- the formula of two windows is the same where a constant is added to the present values of one side
pub record HasNoOrigin (kind : WindowKind) : Type 0 where
  pub first : (c : ℤ) (ys xs zs : List ℤ) → AreMoved c ys
      → formula kind (map (add c) ys) xs zs ≡ formula kind ys xs zs
  pub second : (c : ℤ) (ys xs zs : List ℤ) → AreMoved c xs
      → formula kind ys (map (add c) xs) zs ≡ formula kind ys xs zs

pub record PairsHaveNoOrigin : Type 0 where
  pub correlation : HasNoOrigin Correlation
  pub ranks : HasNoOrigin RankCorrelation
  pub covariance : HasNoOrigin Covariance
  pub slope : HasNoOrigin RegressionSlope
  pub error : HasNoOrigin RegressionError
