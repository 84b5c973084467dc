-- The line of a regression, and the sum of what a scale gives.
use Rattle.std.specs.Prelude.{◌≡◌, ◌<◌, ◌≤◌, ℕ, ◌+◌, ◌*◌, ℤ, pos, ◌+ℤ◌, ◌-ℤ◌, ◌*ℤ◌, false, List, length, sum_by}
use Rattle.std.specs.Int.RustNames.{unsigned_abs}
use Rattle.pl_spec.specs.Rounding.{MILLION, is_missing, quot}
use Rattle.pl_pipeline.specs.declared.WindowKind.TheVariants.{RegressionSlope, RegressionIntercept}
use Rattle.pl_pipeline.specs.Formula.{PairSums, pair_sums, formula}
use Rattle.pl_pipeline.specs.Kind.CrossKind.{Scale}
use Rattle.pl_pipeline.specs.Cross.{Entry, values, cross}

-- The slope is rise / width, and the intercept start / width over the number of pairs, each rounded once.
-- Without the rounding the line is at the mean of y where x is at its mean: each side is times width and the
-- number of pairs.
pub record IsThroughMeans (s : PairSums) (slope intercept : ℤ) : Type 0 where
  pub rise : ℤ
  pub start : ℤ
  pub width : ℤ
  pub slope_is : slope ≡ quot (rise *ℤ pos MILLION) width
  pub intercept_is : intercept ≡ quot start (pos s.number *ℤ width)
  pub through : (start +ℤ (rise *ℤ s.x)) ≡ (s.y *ℤ width)

-- a million times the number of pairs, times how far the line lies from the mean of y where x is at its mean
abbrev pub off_means : PairSums → ℤ → ℤ → ℤ
off_means s slope intercept =
    ((pos (s.number * MILLION) *ℤ intercept) +ℤ (slope *ℤ s.x)) -ℤ (pos MILLION *ℤ s.y)

pub record LinesGoThroughMeans : Type 0 where
  pub exactly : (ys xs zs : List ℤ)
      → IsThroughMeans (pair_sums xs ys)
      (formula RegressionSlope ys xs zs) (formula RegressionIntercept ys xs zs)
  -- half a millionth for the intercept, and half a millionth of the mean of x for the slope
  pub rounded : (ys xs zs : List ℤ) → is_missing (formula RegressionSlope ys xs zs) ≡ false
      → is_missing (formula RegressionIntercept ys xs zs) ≡ false
      → let s = pair_sums xs ys in
      2 * unsigned_abs (off_means s (formula RegressionSlope ys xs zs) (formula RegressionIntercept ys xs zs))
      ≤ s.number * MILLION + unsigned_abs s.x

-- the sum of the magnitudes that a scale gives, in millionths
abbrev pub scaled_sum : List Entry → ℕ
scaled_sum list = sum_by (λ e. unsigned_abs (cross Scale list e.0 e.1)) list

-- 1, within half a millionth for each value, where not all values are 0
abbrev pub ScalesAddUp : Type 0
ScalesAddUp = (list : List Entry) → 0 < sum_by unsigned_abs (values list)
    → (2 * MILLION ≤ 2 * scaled_sum list + length list) × (2 * scaled_sum list ≤ 2 * MILLION + length list)
