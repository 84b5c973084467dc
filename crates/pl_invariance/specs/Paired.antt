-- Correlations are at most 1, and have no order of their two inputs; values explain themselves.
use Rattle.std.specs.Prelude.{◌≡◌, ◌≤◌, ◌⊎◌, ℤ, pos, List}
use Rattle.std.specs.Int.RustNames.{unsigned_abs}
use Rattle.pl_spec.specs.Rounding.{MISSING, MILLION}
use Rattle.pl_pipeline.specs.Formula.{pair_sums, correlation, covariance, slope}

-- at most 1 in magnitude, in millionths, unless it is missing
abbrev pub IsWithinOne : ℤ → Type 0
IsWithinOne v = (v ≡ MISSING) ⊎ (unsigned_abs v ≤ MILLION)

abbrev pub CorrelationsAreBounded : Type 0
CorrelationsAreBounded = (xs ys : List ℤ) → IsWithinOne (correlation (pair_sums xs ys))

pub record PairsHaveNoOrder : Type 0 where
  pub correlation : (xs ys : List ℤ) → correlation (pair_sums ys xs) ≡ correlation (pair_sums xs ys)
  pub covariance : (xs ys : List ℤ) → covariance (pair_sums ys xs) ≡ covariance (pair_sums xs ys)

-- 1, in millionths, unless it is missing
abbrev pub IsOne : ℤ → Type 0
IsOne v = (v ≡ MISSING) ⊎ (v ≡ pos MILLION)

pub record ValuesExplainThemselves : Type 0 where
  pub correlation : (xs : List ℤ) → IsOne (correlation (pair_sums xs xs))
  pub slope : (xs : List ℤ) → IsOne (slope (pair_sums xs xs))
