-- The kinds that are computed from the sums of pairs.
use Rattle.std.specs.Prelude.{ℕ, ℤ, Bool, true, false, List}
use Rattle.pl_spec.specs.Rounding.{MISSING}
use Rattle.pl_pipeline.specs.Kind.{Kind}
use Rattle.pl_pipeline.specs.Kind.Kind.{Window}
use Rattle.pl_pipeline.specs.declared.WindowKind.TheVariants.{Correlation, Covariance, RegressionSlope, RegressionIntercept, RegressionError}
use Rattle.pl_pipeline.specs.Formula.{PairSums, pair_sums, correlation, covariance, slope, intercept, slope_error}
use Rattle.pl_factors.specs.Lanes.{window_at}

abbrev pub is_regression : Kind → Bool
is_regression (Window Correlation) = true
is_regression (Window Covariance) = true
is_regression (Window RegressionSlope) = true
is_regression (Window RegressionIntercept) = true
is_regression (Window RegressionError) = true
is_regression k = false

-- what such a kind gives
unfoldable pub regression_of : Kind → PairSums → ℤ
regression_of (Window Correlation) s = correlation s
regression_of (Window Covariance) s = covariance s
regression_of (Window RegressionSlope) s = slope s
regression_of (Window RegressionIntercept) s = intercept s
regression_of (Window RegressionError) s = slope_error s
regression_of k s = MISSING

-- the sums of the windows of a place, of the second input by the first
unfoldable pub sums_at : ℕ → List ℤ → List ℤ → ℕ → PairSums
sums_at size a b j = pair_sums (window_at size j b) (window_at size j a)

unfoldable pub regression_at : Kind → ℕ → List ℤ → List ℤ → ℕ → ℤ
regression_at k size a b j = regression_of k (sums_at size a b j)
