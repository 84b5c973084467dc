-- The formulas over windows.
use Rattle.std.specs.Prelude.{◌≡◌, pos, negsuc, refl, [], ◌∷◌, map, neg_ℤ}
use Rattle.pl_spec.specs.Rounding.{MISSING, LIMIT}
use Rattle.pl_spec.specs.declared.Column.TheVariants.{High, Low, Close, Volume}
use Rattle.pl_pipeline.specs.declared.WindowKind.TheVariants as kind
use Rattle.pl_pipeline.specs.Formula.{formula, correlation, covariance, slope, intercept, slope_error, drawdown, steepness, residual, r_squared, weighted_deviation, skewness, kurtosis}
use Rattle.pl_pipeline.specs.Term.Term.{column}
use Rattle.pl_pipeline.specs.Value.Value.{Number}
use Rattle.pl_laws.proofs.Worked.Worlds.{opened, units, bar, alone, plain, gap, no_tables, window, at_close, by_session, on}

-- ---- on 2024-01-09, after closes of 100, 102, 51, 52 and 53

later_closes_weigh_more : on plain 5 (at_close kind.LinearWeightedMovingAverage 5 ∷ []) ≡ Number (units 62) ∷ []
unfolding opened
later_closes_weigh_more = refl

-- from 100 to 53
change_over_the_window : on plain 5 (at_close kind.Returns 5 ∷ at_close kind.PercentChange 5 ∷ at_close kind.RateOfChangePercentage 5 ∷ []) ≡ Number (negsuc 469999) ∷ Number (negsuc 469999) ∷ Number (negsuc 46999999) ∷ []
unfolding opened
change_over_the_window = refl

-- a gain of 4 and a loss of 51
strength_is_the_gains_part : on plain 5 (at_close kind.RSI 5 ∷ []) ≡ Number (pos 7272727) ∷ []
unfolding opened
strength_is_the_gains_part = refl

-- of 52 and 53
deviation_and_its_bands : on plain 5 (at_close kind.WindowStd 2 ∷ at_close kind.BollingerMiddle 2 ∷ at_close (kind.BollingerUpper (units 2)) 2 ∷ at_close (kind.BollingerLower (units 2)) 2 ∷ [])
    ≡ Number (pos 500000) ∷ Number (pos 52500000) ∷ Number (pos 53500000) ∷ Number (pos 51500000) ∷ []
unfolding opened
deviation_and_its_bands = refl

weights_fade_by_half : on plain 5 (at_close (kind.ExponentialWeightedMovingAverage (pos 500000)) 2 ∷ []) ≡ Number (pos 52666667) ∷ []
unfolding opened
weights_fade_by_half = refl

-- the greatest high is the second of five, the least low the third
places_of_the_extremes : on plain 5 (window kind.AroonUp 5 (column High ∷ []) ∷ window kind.AroonDown 5 (column Low ∷ []) ∷ []) ≡ Number (units 25) ∷ Number (units 50) ∷ []
unfolding opened
places_of_the_extremes = refl

-- 53 between 51 and 102
close_within_the_range : on plain 5 (window kind.FastStochasticOscillator 5 (column Close ∷ column Low ∷ column High ∷ []) ∷ []) ≡ Number (pos 3921569) ∷ []
unfolding opened
close_within_the_range = refl

range_with_the_close_before : on plain 5 (window kind.TrueRange 2 (column High ∷ column Low ∷ column Close ∷ []) ∷ []) ≡ Number (units 1) ∷ []
unfolding opened
range_with_the_close_before = refl

dollar_volume_and_price_by_volume : on plain 5 (window kind.AverageDollarVolume 5 (column Close ∷ column Volume ∷ []) ∷ window kind.VWAP 5 (column Close ∷ column Volume ∷ []) ∷ []) ≡ Number (units 716) ∷ Number (pos 71600000) ∷ []
unfolding opened
dollar_volume_and_price_by_volume = refl

sum_least_and_greatest : on plain 5 (at_close kind.WindowSum 5 ∷ at_close kind.WindowMin 5 ∷ at_close kind.WindowMax 5 ∷ at_close kind.SimpleMovingAverage 5 ∷ []) ≡ Number (units 358) ∷ Number (units 51) ∷ Number (units 102) ∷ Number (pos 71600000) ∷ []
unfolding opened
sum_least_and_greatest = refl

-- ---- a window over a term

returns_of_two_days : by_session plain (at_close kind.Returns 2) (4 ∷ 5 ∷ []) ≡ Number (pos 19608) ∷ Number (pos 19231) ∷ []
unfolding opened
returns_of_two_days = refl

mean_of_returns : on plain 5 (window kind.SimpleMovingAverage 2 (at_close kind.Returns 2 ∷ []) ∷ []) ≡ Number (pos 19420) ∷ []
unfolding opened
mean_of_returns = refl

-- ---- no bar on 2024-01-03

mean_leaves_out_what_is_missing : on gap 3 (at_close kind.SimpleMovingAverage 3 ∷ []) ≡ Number (pos 75500000) ∷ []
unfolding opened
mean_leaves_out_what_is_missing = refl

mean_of_nothing_is_missing : on gap 2 (at_close kind.SimpleMovingAverage 1 ∷ at_close kind.WindowSum 1 ∷ at_close kind.WindowMax 1 ∷ at_close kind.WindowStd 1 ∷ []) ≡ Number MISSING ∷ Number MISSING ∷ Number MISSING ∷ Number MISSING ∷ []
unfolding opened
mean_of_nothing_is_missing = refl

-- the ends of the range of cells, and one that is missing
extremes_of_what_is_present : formula kind.WindowMin (pos LIMIT ∷ MISSING ∷ neg_ℤ (pos LIMIT) ∷ []) [] [] ∷ formula kind.WindowMax (pos LIMIT ∷ MISSING ∷ neg_ℤ (pos LIMIT) ∷ []) [] [] ∷ [] ≡ neg_ℤ (pos LIMIT) ∷ pos LIMIT ∷ []
unfolding opened
extremes_of_what_is_present = refl

some_sums_of_nothing_are_zero : on gap 2 (at_close kind.LinearWeightedMovingAverage 1 ∷ window kind.AverageDollarVolume 1 (column Close ∷ column Volume ∷ []) ∷ []) ≡ Number (pos 0) ∷ Number (pos 0) ∷ []
unfolding opened
some_sums_of_nothing_are_zero = refl

faded_mean_wants_every_value : on gap 3 (at_close (kind.ExponentialWeightedMovingAverage (pos 500000)) 3 ∷ at_close kind.Returns 2 ∷ []) ≡ Number MISSING ∷ Number MISSING ∷ []
unfolding opened
faded_mean_wants_every_value = refl

-- the previous close is missing
range_of_what_is_present : formula kind.TrueRange (units 5 ∷ units 9 ∷ []) (units 4 ∷ units 6 ∷ []) (MISSING ∷ units 7 ∷ []) ≡ units 3
unfolding opened
range_of_what_is_present = refl

-- from 4 up to 9, past the day's own range from 8 to 9
range_over_a_gap_in_price : formula kind.TrueRange (units 5 ∷ units 9 ∷ []) (units 4 ∷ units 8 ∷ []) (units 4 ∷ units 9 ∷ []) ≡ units 5
unfolding opened
range_over_a_gap_in_price = refl

no_volume_gives_no_price : on (alone (bar 1 0 (units 100) (pos 0) ∷ bar 1 1 (units 102) (pos 0) ∷ []) no_tables) 2 (window kind.VWAP 2 (column Close ∷ column Volume ∷ []) ∷ []) ≡ Number MISSING ∷ []
unfolding opened
no_volume_gives_no_price = refl

-- weights of 1, 3 and a missing value of weight 4
all_present_weights_divide : formula kind.WeightedAverageValue (units 10 ∷ units 20 ∷ MISSING ∷ []) (units 1 ∷ units 3 ∷ units 4 ∷ []) [] ≡ pos 8750000
unfolding opened
all_present_weights_divide = refl

-- ---- gains alone, and neither gains nor losses

strength_without_losses : formula kind.RSI (units 1 ∷ units 2 ∷ units 4 ∷ []) [] [] ∷ formula kind.RSI (units 3 ∷ units 3 ∷ []) [] [] ∷ [] ≡ units 100 ∷ MISSING ∷ []
unfolding opened
strength_without_losses = refl

-- the first of equal extremes counts
first_of_equal_extremes : formula kind.AroonUp (units 1 ∷ units 3 ∷ units 3 ∷ []) [] [] ∷ formula kind.AroonDown (units 1 ∷ units 3 ∷ units 1 ∷ []) [] [] ∷ [] ≡ units 50 ∷ pos 0 ∷ []
unfolding opened
first_of_equal_extremes = refl

-- percent change is over the magnitude of the first value, returns over the value
change_of_a_negative_value : formula kind.PercentChange (negsuc 3999999 ∷ units 2 ∷ []) [] [] ∷ formula kind.Returns (negsuc 3999999 ∷ units 2 ∷ []) [] [] ∷ [] ≡ pos 1500000 ∷ negsuc 1499999 ∷ []
unfolding opened
change_of_a_negative_value = refl

-- ---- filters over windows

some_all_and_many : map (λ k. formula k (pos 1 ∷ pos 0 ∷ pos 1 ∷ []) [] []) (kind.All ∷ kind.Any ∷ kind.AtLeastN 2 ∷ kind.AtLeastN 3 ∷ []) ≡ pos 0 ∷ pos 1 ∷ pos 1 ∷ pos 0 ∷ []
unfolding opened
some_all_and_many = refl

-- ---- pairs

-- 1, 4 and 5 with 2, 9 and 10: one side of two pairs is missing
line_through_three_pairs : map (λ k. formula k (units 2 ∷ units 4 ∷ MISSING ∷ units 9 ∷ units 10 ∷ []) (units 1 ∷ MISSING ∷ units 3 ∷ units 4 ∷ units 5 ∷ []) [])
    (kind.Correlation ∷ kind.Covariance ∷ kind.RegressionSlope ∷ kind.RegressionIntercept ∷ kind.RegressionError ∷ [])
    ≡ pos 991870 ∷ units 6 ∷ pos 2076923 ∷ pos 76923 ∷ pos 266469 ∷ []
unfolding opened correlation covariance slope intercept slope_error
line_through_three_pairs = refl

-- of a constant there is a slope, and no correlation; by a constant there is neither
one_side_that_stands : map (λ k. formula k (units 7 ∷ units 7 ∷ []) (units 1 ∷ units 2 ∷ []) []) (kind.Correlation ∷ kind.RegressionSlope ∷ [])
    ≡ MISSING ∷ pos 0 ∷ []
unfolding opened correlation slope
one_side_that_stands = refl

by_one_that_stands : map (λ k. formula k (units 1 ∷ units 2 ∷ []) (units 7 ∷ units 7 ∷ []) []) (kind.Correlation ∷ kind.RegressionSlope ∷ kind.RegressionIntercept ∷ [])
    ≡ MISSING ∷ MISSING ∷ MISSING ∷ []
unfolding opened correlation slope intercept
by_one_that_stands = refl

-- a root to the nearest, of the other sign: -2 / 3
correlation_below_zero : formula kind.Correlation (pos 0 ∷ units 1 ∷ pos 0 ∷ units 1 ∷ units 1 ∷ []) (units 1 ∷ pos 0 ∷ units 1 ∷ pos 0 ∷ units 1 ∷ []) [] ≡ neg_ℤ (pos 666667)
unfolding opened correlation
correlation_below_zero = refl

-- ---- by order

-- of 100, 50, a missing value, 10 and 14
values_by_order : map (λ k. formula k (units 100 ∷ units 50 ∷ MISSING ∷ units 10 ∷ units 14 ∷ []) [] [])
    (kind.WindowPercentile 5000 ∷ kind.WindowPercentile 3333 ∷ kind.WindowRank ∷ kind.WindowArgMax ∷ kind.WindowArgMin ∷ kind.WindowFirst ∷ kind.MaxDrawdown ∷ [])
    ≡ units 32 ∷ pos 13999600 ∷ pos 500000 ∷ units 1 ∷ units 4 ∷ units 100 ∷ units 9 ∷ []
unfolding opened drawdown
values_by_order = refl

-- equal values share a rank, and the first of equal extremes and falls counts
ties_by_order : map (λ k. formula k (units 100 ∷ units 120 ∷ units 90 ∷ units 120 ∷ units 90 ∷ []) [] [])
    (kind.WindowRank ∷ kind.WindowArgMax ∷ kind.WindowArgMin ∷ kind.MaxDrawdown ∷ [])
    ≡ pos 300000 ∷ units 2 ∷ units 3 ∷ pos 333333 ∷ []
unfolding opened drawdown
ties_by_order = refl

-- the oldest and the newest value are missing
gaps_at_the_ends : map (λ k. formula k (MISSING ∷ units 10 ∷ MISSING ∷ []) [] [])
    (kind.WindowPercentile 0 ∷ kind.WindowRank ∷ kind.WindowArgMax ∷ kind.WindowFirst ∷ kind.MaxDrawdown ∷ [])
    ≡ units 10 ∷ MISSING ∷ units 2 ∷ MISSING ∷ pos 0 ∷ []
unfolding opened drawdown
gaps_at_the_ends = refl

-- a fall to 0 has no measure, and nothing has no fall
falls_to_nothing : map (λ xs. formula kind.MaxDrawdown xs [] []) ((units 1 ∷ pos 0 ∷ []) ∷ (MISSING ∷ MISSING ∷ []) ∷ []) ≡ MISSING ∷ MISSING ∷ []
unfolding opened drawdown
falls_to_nothing = refl

-- 1, 1, 2, 2 and 3 with 5, 6, 5, 6 and 6
correlation_of_ranks : formula kind.RankCorrelation (units 5 ∷ units 6 ∷ units 5 ∷ units 6 ∷ units 6 ∷ []) (units 1 ∷ units 1 ∷ units 2 ∷ units 2 ∷ units 3 ∷ []) [] ≡ pos 304290
unfolding opened correlation
correlation_of_ranks = refl

-- ---- lines, moments, weights that fade

-- the line of 100, 50, 10 and 14 at places 1, 2, 4 and 5, and their moments
line_with_a_gap : map (λ k. formula k (units 100 ∷ units 50 ∷ MISSING ∷ units 10 ∷ units 14 ∷ []) [] [])
    (kind.WindowSlope ∷ kind.WindowRSquared ∷ kind.WindowResidual ∷ kind.WindowSkewness ∷ kind.WindowKurtosis ∷ [])
    ≡ neg_ℤ (pos 21200000) ∷ pos 859843 ∷ pos 12900000 ∷ pos 621162 ∷ neg_ℤ (pos 1212541) ∷ []
unfolding opened steepness r_squared residual skewness kurtosis
line_with_a_gap = refl

-- a constant has a line, and neither a correlation nor a moment
line_of_a_constant : map (λ k. formula k (units 7 ∷ units 7 ∷ []) [] [])
    (kind.WindowSlope ∷ kind.WindowRSquared ∷ kind.WindowResidual ∷ kind.WindowSkewness ∷ kind.WindowKurtosis ∷ [])
    ≡ pos 0 ∷ MISSING ∷ pos 0 ∷ MISSING ∷ MISSING ∷ []
unfolding opened steepness r_squared residual skewness kurtosis
line_of_a_constant = refl

-- the line goes on without the newest value, and one value has no line
line_wants_two : formula kind.WindowSlope (units 1 ∷ units 3 ∷ MISSING ∷ []) [] [] ∷ formula kind.WindowResidual (units 1 ∷ units 3 ∷ MISSING ∷ []) [] []
    ∷ formula kind.WindowSlope (MISSING ∷ units 3 ∷ []) [] [] ∷ formula kind.WindowResidual (MISSING ∷ units 3 ∷ []) [] [] ∷ []
    ≡ units 2 ∷ MISSING ∷ MISSING ∷ MISSING ∷ []
unfolding opened steepness residual
line_wants_two = refl

-- the largest cells
moments_of_the_largest : map (λ k. formula k (pos LIMIT ∷ pos 0 ∷ pos LIMIT ∷ pos 0 ∷ pos LIMIT ∷ []) [] [])
    (kind.WindowSkewness ∷ kind.WindowKurtosis ∷ kind.WindowResidual ∷ kind.ExponentialWeightedMovingStdDev (pos 333333) ∷ [])
    ≡ neg_ℤ (pos 408248) ∷ neg_ℤ (pos 1833333) ∷ units 40000000000 ∷ pos 61321541662716680 ∷ []
unfolding opened residual skewness kurtosis weighted_deviation
moments_of_the_largest = refl

-- with coarse weights the oldest of three counts for nothing at such a decay
fine_weights_go_on : formula (kind.ExponentialWeightedMovingMean (pos 1)) (pos LIMIT ∷ pos 0 ∷ pos 0 ∷ []) [] [] ∷ formula (kind.ExponentialWeightedMovingAverage (pos 1)) (pos LIMIT ∷ pos 0 ∷ pos 0 ∷ []) [] [] ∷ []
    ≡ pos 100000 ∷ pos 0 ∷ []
unfolding opened
fine_weights_go_on = refl

deviations_that_fade : map (λ xs. formula (kind.ExponentialWeightedMovingStdDev (pos 333333)) xs [] []) ((units 10 ∷ units 20 ∷ units 30 ∷ units 40 ∷ units 50 ∷ []) ∷ (units 10 ∷ MISSING ∷ []) ∷ (units 10 ∷ []) ∷ [])
    ≡ pos 11416237 ∷ MISSING ∷ MISSING ∷ []
unfolding opened weighted_deviation
deviations_that_fade = refl
