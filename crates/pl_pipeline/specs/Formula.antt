-- The formulas over a window: each is a sum, a greatest or least, a count or a quotient over plain lists,
-- oldest first.
use Rattle.std.specs.Prelude.{ℕ, zero, suc, ◌+◌, ◌-◌, ◌*◌, ◌/◌, ◌^◌, ◌&&◌, if◌then◌else◌, ◌==◌, nat_le, ℤ, pos, ◌+ℤ◌, ◌-ℤ◌, ◌*ℤ◌, neg_ℤ, List, [], ◌∷◌, length, map, filter, drop, take, unwrap_or, sum_by, count_by, get_or, position, zip}
use Rattle.std.specs.List.{list_any, list_all, range_with_len}
use Rattle.std.specs.Int.RustNames.{unsigned_abs, int_lt}
use Rattle.std.specs.Ordering.{int_eq}
use Rattle.pl_spec.specs.Rounding.{MISSING, MILLION, is_missing, is_present, to_cell, quot, of_both, add, sub, mul, neg, div_round, isqrt}
use Rattle.pl_spec.specs.Window.{downward}
use Rattle.pl_pipeline.specs.declared.WindowKind.{WindowKind}
use Rattle.pl_pipeline.specs.declared.WindowKind.TheVariants.{Latest, SimpleMovingAverage, LinearWeightedMovingAverage, WindowSum, WindowMax, WindowMin, WindowStd, BollingerMiddle, BollingerLower, BollingerUpper, Returns, PercentChange, RateOfChangePercentage, RSI, VWAP, AverageDollarVolume, WeightedAverageValue, FastStochasticOscillator, TrueRange, ExponentialWeightedMovingAverage, AroonUp, AroonDown, Correlation, Covariance, RegressionSlope, RegressionIntercept, RegressionError, WindowPercentile, WindowRank, WindowArgMax, WindowArgMin, WindowFirst, MaxDrawdown, RankCorrelation, All, Any, AtLeastN, AllPresent, WindowSlope, WindowResidual, WindowRSquared, ExponentialWeightedMovingMean, ExponentialWeightedMovingStdDev, WindowSkewness, WindowKurtosis}
use Rattle.pl_spec.specs.Cells.{truth, is_true, present_values, total, count, greatest, least}
use Rattle.pl_pipeline.specs.Order.{twice_rank, percentile}

-- a hundred, in millionths
abbrev pub HUNDRED : ℤ
HUNDRED = pos 100000000

abbrev pub oldest : List ℤ → ℤ
oldest xs = get_or xs 0 MISSING

abbrev pub newest : List ℤ → ℤ
newest xs = get_or xs (length xs - 1) MISSING

abbrev pub mean : List ℤ → ℤ
mean xs = quot (total (present_values xs)) (pos (count xs))

-- v, where a value is present
abbrev pub if_any : List ℤ → ℤ → ℤ
if_any xs v = if count xs == 0 then MISSING else v

abbrev pub square : ℤ → ℕ
square x = unsigned_abs x * unsigned_abs x

-- the standard deviation: the root of the mean square of what lies between the values and their mean
abbrev pub spread : List ℤ → ℕ
spread xs = let m = div_round (total xs) (length xs) in isqrt (sum_by (λ x. square (x -ℤ m)) xs / length xs)

abbrev pub deviation : List ℤ → ℤ
deviation xs = if_any xs (to_cell (pos (spread (present_values xs))))

-- the change over the window, times a scale, over what it is measured by
abbrev pub change : List ℤ → ℤ → ℤ → ℤ
change xs scale base = of_both (oldest xs) (newest xs) (quot ((newest xs -ℤ oldest xs) *ℤ scale) base)

-- the pairs of values at one place, where both are present
abbrev pub present_pairs : List ℤ → List ℤ → List (ℤ × ℤ)
present_pairs xs ys = filter (λ p. is_present p.0 && is_present p.1) (zip xs ys)

abbrev pub products : List ℤ → List ℤ → List ℤ
products xs ys = map (λ p. p.0 *ℤ p.1) (present_pairs xs ys)

abbrev pub weighted_mean : List ℤ → List ℤ → ℤ
weighted_mean xs ws = quot (total (products xs ws)) (total (present_values ws))

-- how much each value lies above the one before it, where both are present
abbrev pub differences : List ℤ → List ℤ
differences xs = map (λ p. p.1 -ℤ p.0) (present_pairs xs (drop 1 xs))

abbrev pub gains : List ℤ → ℤ
gains ds = total (filter (λ x. int_lt (pos 0) x) ds)

abbrev pub losses : List ℤ → ℤ
losses ds = neg_ℤ (total (filter (λ x. int_lt x (pos 0)) ds))

-- the places in a window, from 1 for the oldest
abbrev pub places : List ℤ → List ℤ
places xs = map pos (range_with_len 1 (length xs))

-- the unit of fine weights
abbrev pub FINE : ℕ
FINE = 10 ^ 12

-- the weight of the value n sessions before the newest, whose own weight is one unit
abbrev pub faded : ℕ → ℤ → ℕ → ℤ
faded one decay zero = pos one
faded one decay (suc n) = div_round (faded one decay n *ℤ decay) MILLION

-- the weights of a window of n values, oldest first
abbrev pub weights : ℕ → ℤ → ℕ → List ℤ
weights one decay n = map (faded one decay) (downward n)

abbrev pub faded_mean : ℕ → ℤ → List ℤ → ℤ
faded_mean one decay xs =
    let ws = weights one decay (length xs) in
    if list_any is_missing xs then MISSING else quot (total (products ws xs)) (total ws)

-- how far apart two cells are
abbrev pub gap : ℤ → ℤ → ℤ
gap x y = of_both x y (pos (unsigned_abs (x -ℤ y)))

-- the place of the first value that equals x, in hundredths of the way from the oldest to the newest
abbrev pub place_of : ℤ → List ℤ → ℤ
place_of x xs =
    let place : ℕ = unwrap_or (position (λ y. int_eq y x) xs) 0 in
    if_any xs (quot (pos place *ℤ HUNDRED) (pos (length xs - 1)))

-- v, unless x, y or z is missing
abbrev pub of_all : ℤ → ℤ → ℤ → ℤ → ℤ
of_all x y z v = of_both x y (of_both y z v)

-- ---- the correlation and the regression of pairs of values, from their sums

-- the sum of what f makes of the values of each pair
abbrev pub pair_total : (ℤ → ℤ → ℤ) → List (ℤ × ℤ) → ℤ
pair_total f ps = total (map (λ p. f p.0 p.1) ps)

-- how many pairs there are, the sums of their values, of the squares and of the products
pub record PairSums : Type 0 where
  pub number : ℕ
  pub x : ℤ
  pub y : ℤ
  pub xx : ℤ
  pub yy : ℤ
  pub xy : ℤ

abbrev pub sums_of_pairs : List (ℤ × ℤ) → PairSums
sums_of_pairs ps = record {
  number = length ps;
  x = pair_total (λ x y. x) ps;
  y = pair_total (λ x y. y) ps;
  xx = pair_total (λ x y. x *ℤ x) ps;
  yy = pair_total (λ x y. y *ℤ y) ps;
  xy = pair_total (λ x y. x *ℤ y) ps;
}

-- the sums of the pairs of values at one place of two windows, where both are present
abbrev pub pair_sums : List ℤ → List ℤ → PairSums
pair_sums xs ys = sums_of_pairs (present_pairs xs ys)

-- the square of the number of pairs, times the variance of x, that of y, and the covariance
abbrev pub spread_x : PairSums → ℤ
spread_x s = (pos s.number *ℤ s.xx) -ℤ (s.x *ℤ s.x)

abbrev pub spread_y : PairSums → ℤ
spread_y s = (pos s.number *ℤ s.yy) -ℤ (s.y *ℤ s.y)

abbrev pub joint_spread : PairSums → ℤ
joint_spread s = (pos s.number *ℤ s.xy) -ℤ (s.x *ℤ s.y)

-- the whole number nearest to half the root of v
abbrev pub near_root : ℕ → ℕ
near_root v = (isqrt v + 1) / 2

-- the whole number nearest to the root of a / b, as a cell; MISSING where b is 0
abbrev pub root_quot : ℕ → ℕ → ℤ
root_quot a b = if b == 0 then MISSING else to_cell (pos (near_root (4 * a / b)))

-- v with the sign of a
abbrev pub with_sign : ℤ → ℤ → ℤ
with_sign a v = if int_lt a (pos 0) then neg v else v

-- Pearson's correlation, in millionths
unfoldable pub correlation : PairSums → ℤ
correlation s =
    with_sign (joint_spread s)
    (root_quot (square (joint_spread s) * 10 ^ 12) (unsigned_abs (spread_x s) * unsigned_abs (spread_y s)))

-- the mean of the products of what lies between the values and their means
unfoldable pub covariance : PairSums → ℤ
covariance s = quot (joint_spread s) (pos (s.number * s.number * MILLION))

-- the slope of the line by least squares that gives y of x
unfoldable pub slope : PairSums → ℤ
slope s = quot (joint_spread s *ℤ pos MILLION) (spread_x s)

-- where that line is at x = 0
unfoldable pub intercept : PairSums → ℤ
intercept s = quot ((s.y *ℤ spread_x s) -ℤ (joint_spread s *ℤ s.x)) (pos s.number *ℤ spread_x s)

-- the standard error of the slope; of fewer than three pairs there is none
unfoldable pub slope_error : PairSums → ℤ
slope_error s =
    let xx = unsigned_abs (spread_x s) in
    let yy = unsigned_abs (spread_y s) in
    root_quot ((xx * yy - square (joint_spread s)) * 10 ^ 12) (xx * xx * (s.number - 2))

-- ---- the places of values, and the ranks of them

-- the place of the first value that equals x, from 1 for the oldest
abbrev pub place_number : ℤ → List ℤ → ℤ
place_number x xs =
    let place : ℕ = unwrap_or (position (λ y. int_eq y x) xs) 0 in
    if_any xs (pos ((place + 1) * MILLION))

-- the average rank of x among the values, which are one at least, over their number
abbrev pub rank_among : ℤ → List ℤ → ℤ
rank_among x vs = quot (pos (twice_rank x vs * MILLION)) (pos (2 * length vs))

-- how far the value in a place lies below the greatest one up to it
abbrev pub fall : List ℤ → ℕ → ℤ
fall xs n =
    let x = get_or xs n MISSING in
    if is_missing x then MISSING else greatest (take (n + 1) xs) -ℤ x

abbrev pub falls : List ℤ → List ℤ
falls xs = map (fall xs) (range_with_len 0 (length xs))

-- the deepest fall, over the value at its end; of equal falls the first counts
unfoldable pub drawdown : List ℤ → ℤ
drawdown xs =
    let deepest = greatest (falls xs) in
    let end : ℕ = unwrap_or (position (λ y. int_eq y deepest) (falls xs)) 0 in
    if_any xs (quot (deepest *ℤ pos MILLION) (get_or xs end MISSING))

-- twice the average ranks of the values of each pair, among the first and among the second values
abbrev pub ranked : List (ℤ × ℤ) → List (ℤ × ℤ)
ranked ps =
    let ranks : (ℤ × ℤ) → ℤ × ℤ =
    λ p. (pos (twice_rank p.0 (map (λ q. q.0) ps)), pos (twice_rank p.1 (map (λ q. q.1) ps))) in map ranks ps

-- ---- the line through values at their places

-- the sums of the values, each paired with its place
abbrev pub trend_sums : List ℤ → PairSums
trend_sums xs = pair_sums (places xs) xs

-- the slope of the line by least squares, in units of y for each unit of x
unfoldable pub steepness : PairSums → ℤ
steepness s = quot (joint_spread s) (spread_x s)

-- how far y lies above that line at x
unfoldable pub residual : PairSums → ℤ → ℤ → ℤ
residual s x y =
    let n = pos s.number in
    quot ((((n *ℤ y) -ℤ s.y) *ℤ spread_x s) -ℤ (joint_spread s *ℤ ((n *ℤ x) -ℤ s.x))) (n *ℤ spread_x s)

-- the square of the correlation, in millionths
unfoldable pub r_squared : PairSums → ℤ
r_squared s = quot ((joint_spread s *ℤ joint_spread s) *ℤ pos MILLION) (spread_x s *ℤ spread_y s)

-- ---- the deviation with weights that fade

-- the weighted sum of the squares
abbrev pub weighted_squares : List ℤ → List ℤ → ℤ
weighted_squares ws xs = pair_total (λ w x. w *ℤ (x *ℤ x)) (present_pairs ws xs)

-- The root of the weighted mean square of what lies between the values and their weighted mean, corrected for
-- bias: the mean is times v v / (v v - the sum of the squares of the weights), where v is their sum.
unfoldable pub weighted_deviation : List ℤ → List ℤ → ℤ
weighted_deviation ws xs =
    let v = total ws in
    let first = total (products ws xs) in
    root_quot (unsigned_abs ((v *ℤ weighted_squares ws xs) -ℤ (first *ℤ first)))
    (unsigned_abs ((v *ℤ v) -ℤ total (products ws ws)))

abbrev pub faded_deviation : ℤ → List ℤ → ℤ
faded_deviation decay xs = if list_any is_missing xs then MISSING else weighted_deviation (weights FINE decay (length xs)) xs

-- ---- skewness and kurtosis, from sums of powers

-- how many values there are, and the sums of their first four powers
pub record PowerSums : Type 0 where
  pub number : ℕ
  pub first : ℤ
  pub second : ℤ
  pub third : ℤ
  pub fourth : ℤ

abbrev pub sums_of_powers : List ℤ → PowerSums
sums_of_powers vs = record {
  number = length vs;
  first = total vs;
  second = total (map (λ x. x *ℤ x) vs);
  third = total (map (λ x. x *ℤ (x *ℤ x)) vs);
  fourth = total (map (λ x. (x *ℤ x) *ℤ (x *ℤ x)) vs);
}

-- those of the present values
abbrev pub power_sums : List ℤ → PowerSums
power_sums xs = sums_of_powers (present_values xs)

-- n n, n n n and n n n n times the mean square, cube and fourth power of what lies between the values and
-- their mean
abbrev pub second_moment : PowerSums → ℤ
second_moment s = (pos s.number *ℤ s.second) -ℤ (s.first *ℤ s.first)

abbrev pub third_moment : PowerSums → ℤ
third_moment s =
    let n = pos s.number in
    let m = s.first in
    ((n *ℤ n) *ℤ s.third) -ℤ (pos 3 *ℤ ((n *ℤ m) *ℤ s.second)) +ℤ (pos 2 *ℤ ((m *ℤ m) *ℤ m))

abbrev pub fourth_moment : PowerSums → ℤ
fourth_moment s =
    let n = pos s.number in
    let m = s.first in
    (((n *ℤ n) *ℤ n) *ℤ s.fourth) -ℤ (pos 4 *ℤ (((n *ℤ n) *ℤ m) *ℤ s.third))
    +ℤ (pos 6 *ℤ ((n *ℤ (m *ℤ m)) *ℤ s.second)) -ℤ (pos 3 *ℤ ((m *ℤ m) *ℤ (m *ℤ m)))

-- the mean cube over the mean square to the power of one and a half, in millionths
unfoldable pub skewness : PowerSums → ℤ
skewness s =
    let m = unsigned_abs (second_moment s) in
    with_sign (third_moment s) (root_quot (square (third_moment s) * 10 ^ 12) (m * m * m))

-- the mean fourth power over the square of the mean square, less 3, in millionths
unfoldable pub kurtosis : PowerSums → ℤ
kurtosis s =
    let m = second_moment s *ℤ second_moment s in quot ((fourth_moment s -ℤ (pos 3 *ℤ m)) *ℤ pos MILLION) m

-- a, b and c are the windows of the kind's inputs, in order
unfoldable pub formula : WindowKind → List ℤ → List ℤ → List ℤ → ℤ
formula Latest a b c = oldest a
formula SimpleMovingAverage a b c = mean a
formula BollingerMiddle a b c = mean a
formula WindowSum a b c = if_any a (to_cell (total (present_values a)))
formula WindowMax a b c = greatest a
formula WindowMin a b c = least a
formula WindowStd a b c = deviation a
formula (BollingerLower k) a b c = sub (mean a) (mul k (deviation a))
formula (BollingerUpper k) a b c = add (mean a) (mul k (deviation a))
formula Returns a b c = change a (pos MILLION) (oldest a)
formula PercentChange a b c = change a (pos MILLION) (pos (unsigned_abs (oldest a)))
formula RateOfChangePercentage a b c = change a HUNDRED (oldest a)
formula WeightedAverageValue a b c = weighted_mean a b
formula VWAP a b c = weighted_mean a b
formula AverageDollarVolume a b c = quot (total (products a b)) (pos (length a * MILLION))
formula LinearWeightedMovingAverage a b c =
    quot (total (products (places a) a)) (pos (length a * (length a + 1) / 2))
formula RSI a b c =
    let ds = differences a in quot (gains ds *ℤ HUNDRED) (gains ds +ℤ losses ds)
formula FastStochasticOscillator close low high =
    of_all (newest close) (least low) (greatest high)
    (quot ((newest close -ℤ least low) *ℤ HUNDRED) (greatest high -ℤ least low))
formula TrueRange high low close =
    let h = newest high in let l = newest low in let c = oldest close in
    to_cell (greatest (of_both h l (h -ℤ l) ∷ gap h c ∷ gap l c ∷ []))
formula (ExponentialWeightedMovingAverage decay) a b c = faded_mean MILLION decay a
formula AroonUp a b c = place_of (greatest a) a
formula AroonDown a b c = place_of (least a) a
formula Correlation y x c = correlation (pair_sums x y)
formula Covariance y x c = covariance (pair_sums x y)
formula RegressionSlope y x c = slope (pair_sums x y)
formula RegressionIntercept y x c = intercept (pair_sums x y)
formula RegressionError y x c = slope_error (pair_sums x y)
formula (WindowPercentile percent) a b c = if_any a (percentile percent (present_values a))
formula WindowRank a b c = if is_missing (newest a) then MISSING else rank_among (newest a) (present_values a)
formula WindowArgMax a b c = place_number (greatest a) a
formula WindowArgMin a b c = place_number (least a) a
formula WindowFirst a b c = oldest a
formula MaxDrawdown a b c = drawdown a
formula RankCorrelation y x c = correlation (sums_of_pairs (ranked (present_pairs x y)))
formula All a b c = truth (list_all is_true a)
formula Any a b c = truth (list_any is_true a)
formula (AtLeastN n) a b c = truth (nat_le n (count_by is_true a))
formula AllPresent a b c = truth (list_all is_present a)
formula WindowSlope a b c = steepness (trend_sums a)
formula WindowResidual a b c =
    if is_missing (newest a) then MISSING else residual (trend_sums a) (pos (length a)) (newest a)
formula WindowRSquared a b c = r_squared (trend_sums a)
formula (ExponentialWeightedMovingMean decay) a b c = faded_mean FINE decay a
formula (ExponentialWeightedMovingStdDev decay) a b c = faded_deviation decay a
formula WindowSkewness a b c = skewness (power_sums a)
formula WindowKurtosis a b c = kurtosis (power_sums a)
