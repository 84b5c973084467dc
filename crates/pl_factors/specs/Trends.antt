-- The kinds that are computed from the sums of values at their places.
use Rattle.std.specs.Prelude.{ℕ, ℤ, pos, Bool, true, false, List, length, if◌then◌else◌}
use Rattle.pl_spec.specs.Rounding.{MISSING, is_missing}
use Rattle.pl_pipeline.specs.Kind.{Kind}
use Rattle.pl_pipeline.specs.Kind.Kind.{Window}
use Rattle.pl_pipeline.specs.declared.WindowKind.TheVariants.{WindowSlope, WindowResidual, WindowRSquared}
use Rattle.pl_pipeline.specs.Formula.{PairSums, trend_sums, newest, steepness, residual, r_squared}
use Rattle.pl_pipeline.specs.Formula as formulas
use Rattle.pl_factors.specs.Lanes.{window_at}

abbrev pub is_trend : Kind → Bool
is_trend (Window WindowSlope) = true
is_trend (Window WindowResidual) = true
is_trend (Window WindowRSquared) = true
is_trend k = false

-- how far the newest value lies above the line
abbrev pub newest_residual : PairSums → List ℤ → ℤ
newest_residual s a = if is_missing (newest a) then MISSING else residual s (pos (length a)) (newest a)

-- what such a kind gives, by the sums of its window
unfoldable pub trend_of : Kind → PairSums → List ℤ → ℤ
trend_of (Window WindowSlope) s a = steepness s
trend_of (Window WindowResidual) s a = newest_residual s a
trend_of (Window WindowRSquared) s a = r_squared s
trend_of k s a = MISSING

unfoldable pub trend_at : Kind → ℕ → List ℤ → ℕ → ℤ
trend_at k size a j = trend_of k (trend_sums (window_at size j a)) (window_at size j a)

-- the average and the deviation of the window of a place, with weights that fade
unfoldable pub faded_mean_at : ℕ → ℤ → ℕ → List ℤ → ℕ → ℤ
faded_mean_at one decay size a j = formulas.faded_mean one decay (window_at size j a)

unfoldable pub faded_deviation_at : ℤ → ℕ → List ℤ → ℕ → ℤ
faded_deviation_at decay size a j = formulas.faded_deviation decay (window_at size j a)
