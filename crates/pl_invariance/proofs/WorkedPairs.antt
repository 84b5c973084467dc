-- Worked rows of the laws of pairs, of scales and of one asset, each computed from the definitions.
use Rattle.std.specs.Prelude.{◌≡◌, ℕ, ℤ, pos, negsuc, refl, List, [], ◌∷◌, map}
use Rattle.pl_spec.specs.declared.Column.TheVariants.{Close}
use Rattle.pl_spec.specs.Rounding.{MISSING, scaled, add}
use Rattle.pl_pipeline.specs.declared.WindowKind.{WindowKind}
use Rattle.pl_pipeline.specs.declared.WindowKind.TheVariants.{Correlation, RankCorrelation, Covariance, RegressionSlope, RegressionIntercept}
use Rattle.pl_pipeline.specs.Kind.CrossKind.{Scale}
use Rattle.pl_pipeline.specs.Cross.{Entry, cross, summary}
use Rattle.pl_pipeline.specs.Formula.{formula, pair_sums, correlation, covariance, slope, intercept}
use Rattle.pl_pipeline.specs.Value.{Value, value}
use Rattle.pl_pipeline.specs.Value.Value.{Number}
use Rattle.pl_laws.proofs.Worked.Worlds.{opened, units, three_bars, latest}
use Rattle.pl_invariance.specs.Fitted.{misses}
use Rattle.pl_invariance.specs.Lines.{off_means, scaled_sum}
use Rattle.pl_invariance.specs.OneAsset.{of_asset}
use Rattle.pl_invariance.proofs.Worked.{cents}

-- ---- pairs, one of which has no x

abbrev first : List ℤ
first = units 1 ∷ units 3 ∷ units 7 ∷ units 2 ∷ units 5 ∷ []

abbrev second : List ℤ
second = units 1 ∷ units 2 ∷ MISSING ∷ units 3 ∷ units 4 ∷ []

abbrev in_cents : List ℤ → List ℤ
in_cents = map (scaled cents)

abbrev in_each_unit : WindowKind → List ℤ
in_each_unit kind = formula kind first second [] ∷ formula kind (in_cents first) second [] ∷ formula kind first (in_cents second) [] ∷ []

-- 5.5 over the root of 5 times 8.75
correlations_in_each_unit : in_each_unit Correlation ≡ pos 831522 ∷ pos 831522 ∷ pos 831522 ∷ []
unfolding opened correlation
correlations_in_each_unit = refl

-- the ranks of y are 1, 3, 2 and 4
rank_correlations_in_each_unit : in_each_unit RankCorrelation ≡ pos 800000 ∷ pos 800000 ∷ pos 800000 ∷ []
unfolding opened correlation
rank_correlations_in_each_unit = refl

covariances_in_each_unit : in_each_unit Covariance ≡ pos 1375000 ∷ pos 137500000 ∷ pos 137500000 ∷ []
unfolding opened covariance
covariances_in_each_unit = refl

-- one of y for each of x: more where y is in cents, less where x is
slopes_in_each_unit : in_each_unit RegressionSlope ≡ pos 1100000 ∷ pos 110000000 ∷ pos 11000 ∷ []
unfolding opened slope
slopes_in_each_unit = refl

-- ---- the line through (0, 0), (1, 1) and (3, 1): 2/7 + 2/7 x

abbrev line_x : List ℤ
line_x = units 0 ∷ units 1 ∷ units 3 ∷ []

abbrev line_y : List ℤ
line_y = units 0 ∷ units 1 ∷ units 1 ∷ []

abbrev whole_pairs : List (ℤ × ℤ)
whole_pairs = (pos 0, pos 0) ∷ (pos 1, pos 1) ∷ (pos 3, pos 1) ∷ []

line_is : formula RegressionSlope line_y line_x [] ∷ formula RegressionIntercept line_y line_x [] ∷ [] ≡ pos 285714 ∷ pos 285714 ∷ []
unfolding opened slope intercept
line_is = refl

-- two thirds of a millionth below 2/3 at 4/3, within a half and two thirds
line_off : off_means (pair_sums line_x line_y) (pos 285714) (pos 285714) ≡ negsuc 1999999
line_off = refl

-- Its squares, of what is taken times 42, and those of (1 + x) / 3, times 3: 504 times 9 is less than 3 times
-- 42 times 42.
line_misses : misses (pos 42) (pos 12) (pos 12) whole_pairs ∷ misses (pos 3) (pos 1) (pos 1) whole_pairs ∷ [] ≡ 504 ∷ 3 ∷ []
line_misses = refl

-- ---- closes and volumes to which a constant is added

-- from 1 below: 0, 2, 6, 1 and 4
moved_in_each : formula Correlation (map (add (negsuc 999999)) first) second [] ∷ formula RegressionSlope first (map (add (units 1)) second) [] ∷ [] ≡ pos 831522 ∷ pos 1100000 ∷ []
unfolding opened correlation slope
moved_in_each = refl

-- ---- a scale of three equal values, each a third

abbrev thirds : List Entry
thirds = (1, units 5) ∷ (2, negsuc 4999999) ∷ (3, units 5) ∷ []

scaled_thirds : map (λ (e : Entry). cross Scale thirds e.0 e.1) thirds ≡ pos 333333 ∷ negsuc 333332 ∷ pos 333333 ∷ []
unfolding opened
scaled_thirds = refl

sum_of_thirds : scaled_sum thirds ≡ 999999
unfolding opened
sum_of_thirds = refl

-- ---- closes of 3, 1 and 3 on the second session: that of one asset, and of one that is not there

abbrev of_each : ℕ → List Value
of_each sid = map (λ a. value three_bars [] (of_asset 1 sid (latest Close)) a (pos 1)) (1 ∷ 2 ∷ 3 ∷ [])

of_the_second : of_each 2 ≡ Number (units 1) ∷ Number (units 1) ∷ Number (units 1) ∷ []
unfolding opened summary
of_the_second = refl

of_none : of_each 9 ≡ Number MISSING ∷ Number MISSING ∷ Number MISSING ∷ []
unfolding opened summary
of_none = refl
