-- Whole pipelines over prices in another unit.
use Rattle.std.specs.Prelude.{◌≡◌, ◌⊎◌, ◌≤◌, ◌+◌, ◌-◌, ◌*◌, ◌/◌, ◌&&◌, zero, suc, true, false, ℕ, ℤ, pos, negsuc, ◌-ℤ◌, ◌*ℤ◌, neg_ℤ, List, [], ◌∷◌, length, map, Option, Some, None}
use Rattle.std.specs.Int.RustNames.{unsigned_abs}
use Rattle.std.specs.List.{list_any, range_with_len}
use Rattle.pl_spec.specs.declared.Column.{Column}
use Rattle.pl_spec.specs.declared.Column.TheVariants.{Volume}
use Rattle.pl_spec.specs.declared.Compare.{Compare}
use Rattle.pl_spec.specs.declared.Frequency.{Frequency}
use Rattle.pl_spec.specs.Cells as cells
use Rattle.pl_spec.specs.Cells.{total, count, present_values}
use Rattle.pl_spec.specs.Each.{Each}
use Rattle.pl_spec.specs.Periods.{period_start}
use Rattle.pl_spec.specs.Rounding.{LIMIT, MILLION, Fraction, is_missing, scaled, of_both, add, sub, mul, neg}
use Rattle.pl_spec.specs.World.{World, exists, living_sids, bar_cell}
use Rattle.pl_spec.specs.Window.{before, downward, effects}
use Rattle.pl_pipeline.specs.declared.RankMethod.{RankMethod}
use Rattle.pl_pipeline.specs.declared.RankOrder.{RankOrder}
use Rattle.pl_pipeline.specs.declared.Summary.TheVariants as summary
use Rattle.pl_pipeline.specs.declared.WindowKind.{WindowKind}
use Rattle.pl_pipeline.specs.declared.WindowKind.TheVariants.{Latest, SimpleMovingAverage, LinearWeightedMovingAverage, WindowSum, WindowMax, WindowMin, WindowStd, BollingerMiddle, BollingerLower, BollingerUpper, Returns, PercentChange, RateOfChangePercentage, RSI, VWAP, AverageDollarVolume, WeightedAverageValue, FastStochasticOscillator, TrueRange, ExponentialWeightedMovingAverage, ExponentialWeightedMovingMean, AroonUp, AroonDown, Correlation, RankCorrelation, Covariance, RegressionSlope, RegressionIntercept, RegressionError, WindowSlope, WindowResidual, WindowRSquared, WindowPercentile, WindowRank, WindowArgMax, WindowArgMin, WindowFirst, AllPresent, MaxDrawdown, WindowSkewness, WindowKurtosis, ExponentialWeightedMovingStdDev}
use Rattle.pl_pipeline.specs.Kind.{Kind, PointKind, CrossKind}
use Rattle.pl_pipeline.specs.Kind.Kind.{Window, Point, LabelTest, Cross, Downsample}
use Rattle.pl_pipeline.specs.Kind.PointKind.{Add, Sub, Mul, Div, Neg, Comparison, Abs, FillNa, IsNull, NotNull, IfElse, Sqrt, Sign, Maximum, Minimum, Where}
use Rattle.pl_pipeline.specs.Kind.CrossKind.{Rank, Demean, ZScore, Quantiles, Top, Bottom, PercentileBetween, Winsorize, Scale, Summarize}
use Rattle.pl_pipeline.specs.Cross.{values, center, winsorized}
use Rattle.pl_pipeline.specs.Elementary.{sqrt}
use Rattle.pl_pipeline.specs.Formula.{FINE, oldest, newest, places, products, weights, gap, PairSums, pair_sums, joint_spread, spread_x, trend_sums}
use Rattle.pl_pipeline.specs.Formula as formulas
use Rattle.pl_pipeline.specs.Order.{edge}
use Rattle.pl_pipeline.specs.Term.{Term, Graph, term_at}
use Rattle.pl_pipeline.specs.Term.Term.{absent, column, node}
use Rattle.pl_pipeline.specs.Value.{Value, Operands, View, Own, number_of, seen_from, value_of_part, window_of, passes, eligible, view_of, seen, seen_operands}
use Rattle.pl_pipeline.specs.Value.Value.{Number, Text}
use Rattle.pl_pipeline.specs.Table.{NamedColumn, Pipeline, Row, is_kept, kept_sids, table}
use Rattle.pl_invariance.specs.Exact.{Divides, AllDivide}
use Rattle.pl_invariance.specs.Priced.{is_price, priced_world}
use Rattle.pl_invariance.specs.Ranked.{IsExact}
use Rattle.pl_invariance.specs.Shapes.{IsFadedExact, IsErrorExact}
use Rattle.pl_invariance.specs.Units.{IsRatio, IsUnrounded, IsSpreadExact, IsBandExact}

-- what the values of a term are measured in: the unit of prices to the power n + 1, or none
pub data Measure : Type 0 where
  Power : (n : ℕ) → Measure
  NoUnit : Measure

abbrev pub Price : Measure
Price = Power 0

-- the ratio to the power n + 1, by which such values are multiplied
abbrev pub raised : Fraction → ℕ → Fraction
raised r zero = r
raised r (suc n) = record { num = r.num * (raised r n).num; den = r.den * (raised r n).den }

-- that of a measure
abbrev pub ratio_of : Fraction → Measure → Fraction
ratio_of r (Power n) = raised r n
ratio_of r NoUnit = record { num = 1; den = 1 }

-- ---- the rules

-- What a formula gives of windows of values in a power of the price's unit; an input that is absent has no
-- unit, nor have weights.
pub data FormulaRule : WindowKind → Measure → Measure → Measure → Measure → Type 0 where
  latest : {n : ℕ} → FormulaRule Latest (Power n) NoUnit NoUnit (Power n)
  first : {n : ℕ} → FormulaRule WindowFirst (Power n) NoUnit NoUnit (Power n)
  greatest : {n : ℕ} → FormulaRule WindowMax (Power n) NoUnit NoUnit (Power n)
  least : {n : ℕ} → FormulaRule WindowMin (Power n) NoUnit NoUnit (Power n)
  sum : {n : ℕ} → FormulaRule WindowSum (Power n) NoUnit NoUnit (Power n)
  mean : {n : ℕ} → FormulaRule SimpleMovingAverage (Power n) NoUnit NoUnit (Power n)
  middle : {n : ℕ} → FormulaRule BollingerMiddle (Power n) NoUnit NoUnit (Power n)
  linear : {n : ℕ} → FormulaRule LinearWeightedMovingAverage (Power n) NoUnit NoUnit (Power n)
  weighted : {n : ℕ} → FormulaRule WeightedAverageValue (Power n) NoUnit NoUnit (Power n)
  by_volume : {n : ℕ} → FormulaRule VWAP (Power n) NoUnit NoUnit (Power n)
  dollar_volume : {n : ℕ} → FormulaRule AverageDollarVolume (Power n) NoUnit NoUnit (Power n)
  faded : {n : ℕ} {decay : ℤ}
      → FormulaRule (ExponentialWeightedMovingAverage decay) (Power n) NoUnit NoUnit (Power n)
  fine : {n : ℕ} {decay : ℤ}
      → FormulaRule (ExponentialWeightedMovingMean decay) (Power n) NoUnit NoUnit (Power n)
  deviation : {n : ℕ} → FormulaRule WindowStd (Power n) NoUnit NoUnit (Power n)
  faded_deviation : {n : ℕ} {decay : ℤ}
      → FormulaRule (ExponentialWeightedMovingStdDev decay) (Power n) NoUnit NoUnit (Power n)
  lower : {n : ℕ} {k : ℤ} → FormulaRule (BollingerLower k) (Power n) NoUnit NoUnit (Power n)
  upper : {n : ℕ} {k : ℤ} → FormulaRule (BollingerUpper k) (Power n) NoUnit NoUnit (Power n)
  percentile : {n : ℕ} {percent : ℕ}
      → FormulaRule (WindowPercentile percent) (Power n) NoUnit NoUnit (Power n)
  true_range : {n : ℕ} → FormulaRule TrueRange (Power n) (Power n) (Power n) (Power n)
  returns : {n : ℕ} → FormulaRule Returns (Power n) NoUnit NoUnit NoUnit
  change : {n : ℕ} → FormulaRule PercentChange (Power n) NoUnit NoUnit NoUnit
  rate : {n : ℕ} → FormulaRule RateOfChangePercentage (Power n) NoUnit NoUnit NoUnit
  strength : {n : ℕ} → FormulaRule RSI (Power n) NoUnit NoUnit NoUnit
  stochastic : {n : ℕ} → FormulaRule FastStochasticOscillator (Power n) (Power n) (Power n) NoUnit
  up : {n : ℕ} → FormulaRule AroonUp (Power n) NoUnit NoUnit NoUnit
  down : {n : ℕ} → FormulaRule AroonDown (Power n) NoUnit NoUnit NoUnit
  drawdown : {n : ℕ} → FormulaRule MaxDrawdown (Power n) NoUnit NoUnit NoUnit
  skewness : {n : ℕ} → FormulaRule WindowSkewness (Power n) NoUnit NoUnit NoUnit
  kurtosis : {n : ℕ} → FormulaRule WindowKurtosis (Power n) NoUnit NoUnit NoUnit
  rank : {n : ℕ} → FormulaRule WindowRank (Power n) NoUnit NoUnit NoUnit
  place_of_greatest : {n : ℕ} → FormulaRule WindowArgMax (Power n) NoUnit NoUnit NoUnit
  place_of_least : {n : ℕ} → FormulaRule WindowArgMin (Power n) NoUnit NoUnit NoUnit
  all_present : {n : ℕ} → FormulaRule AllPresent (Power n) NoUnit NoUnit NoUnit
  -- of pairs, the first input being y
  correlation : {m n : ℕ} → FormulaRule Correlation (Power m) (Power n) NoUnit NoUnit
  correlation_of_y : {n : ℕ} → FormulaRule Correlation (Power n) NoUnit NoUnit NoUnit
  correlation_of_x : {n : ℕ} → FormulaRule Correlation NoUnit (Power n) NoUnit NoUnit
  rank_correlation : {m n : ℕ} → FormulaRule RankCorrelation (Power m) (Power n) NoUnit NoUnit
  rank_correlation_of_y : {n : ℕ} → FormulaRule RankCorrelation (Power n) NoUnit NoUnit NoUnit
  rank_correlation_of_x : {n : ℕ} → FormulaRule RankCorrelation NoUnit (Power n) NoUnit NoUnit
  r_squared : {n : ℕ} → FormulaRule WindowRSquared (Power n) NoUnit NoUnit NoUnit
  covariance : {n : ℕ} → FormulaRule Covariance (Power n) NoUnit NoUnit (Power n)
  joint_variance : {m n : ℕ} → FormulaRule Covariance (Power m) (Power n) NoUnit (Power (suc (m + n)))
  slope : {n : ℕ} → FormulaRule RegressionSlope (Power n) NoUnit NoUnit (Power n)
  hedge : {n : ℕ} → FormulaRule RegressionSlope (Power n) (Power n) NoUnit NoUnit
  error : {n : ℕ} → FormulaRule RegressionError (Power n) NoUnit NoUnit (Power n)
  hedge_error : {n : ℕ} → FormulaRule RegressionError (Power n) (Power n) NoUnit NoUnit
  intercept : {n : ℕ} → FormulaRule RegressionIntercept (Power n) NoUnit NoUnit (Power n)
  hedge_intercept : {n : ℕ} → FormulaRule RegressionIntercept (Power n) (Power n) NoUnit (Power n)
  trend : {n : ℕ} → FormulaRule WindowSlope (Power n) NoUnit NoUnit (Power n)
  off_trend : {n : ℕ} → FormulaRule WindowResidual (Power n) NoUnit NoUnit (Power n)

-- What an operation gives. There is no rule for a price beside a number in a sum, a comparison or a bound: in
-- another unit the number would have to be another.
pub data OperationRule : PointKind → Measure → Measure → Measure → Measure → Type 0 where
  plus : {n : ℕ} → OperationRule Add (Power n) (Power n) NoUnit (Power n)
  minus : {n : ℕ} → OperationRule Sub (Power n) (Power n) NoUnit (Power n)
  times : {n : ℕ} → OperationRule Mul (Power n) NoUnit NoUnit (Power n)
  factor : {n : ℕ} → OperationRule Mul NoUnit (Power n) NoUnit (Power n)
  product : {m n : ℕ} → OperationRule Mul (Power m) (Power n) NoUnit (Power (suc (m + n)))
  over : {n : ℕ} → OperationRule Div (Power n) NoUnit NoUnit (Power n)
  proportion : {n : ℕ} → OperationRule Div (Power n) (Power n) NoUnit NoUnit
  quotient : {m n : ℕ} → OperationRule Div (Power (suc (m + n))) (Power m) NoUnit (Power n)
  root : {n : ℕ} → OperationRule Sqrt (Power (suc (n + n))) NoUnit NoUnit (Power n)
  negative : {n : ℕ} → OperationRule Neg (Power n) NoUnit NoUnit (Power n)
  magnitude : {n : ℕ} → OperationRule Abs (Power n) NoUnit NoUnit (Power n)
  greater : {n : ℕ} → OperationRule Maximum (Power n) (Power n) NoUnit (Power n)
  lesser : {n : ℕ} → OperationRule Minimum (Power n) (Power n) NoUnit (Power n)
  filled : {n : ℕ} → OperationRule FillNa (Power n) (Power n) NoUnit (Power n)
  chosen : {n : ℕ} → OperationRule IfElse NoUnit (Power n) (Power n) (Power n)
  kept : {n : ℕ} → OperationRule Where (Power n) NoUnit NoUnit (Power n)
  compared : {n : ℕ} {c : Compare} → OperationRule (Comparison c) (Power n) (Power n) NoUnit NoUnit
  is_null : {n : ℕ} → OperationRule IsNull (Power n) NoUnit NoUnit NoUnit
  not_null : {n : ℕ} → OperationRule NotNull (Power n) NoUnit NoUnit NoUnit
  sign : {n : ℕ} → OperationRule Sign (Power n) NoUnit NoUnit NoUnit

-- what a cross-section of such values gives
pub data CrossRule (n : ℕ) : CrossKind → Measure → Type 0 where
  rank : {method : RankMethod} {order : RankOrder} → CrossRule n (Rank method order) NoUnit
  top : {count : ℕ} → CrossRule n (Top count) NoUnit
  bottom : {count : ℕ} → CrossRule n (Bottom count) NoUnit
  quantiles : {bins : ℕ} → CrossRule n (Quantiles bins) NoUnit
  percentiles : {low high : ℕ} → CrossRule n (PercentileBetween low high) NoUnit
  score : CrossRule n ZScore NoUnit
  distance : CrossRule n Demean (Power n)
  share : CrossRule n Scale NoUnit
  drawn_in : {low high : ℕ} → CrossRule n (Winsorize low high) (Power n)
  counted : CrossRule n (Summarize summary.NotNullCount) NoUnit
  mean : CrossRule n (Summarize summary.Mean) (Power n)
  sum : CrossRule n (Summarize summary.Sum) (Power n)
  least : CrossRule n (Summarize summary.Least) (Power n)
  greatest : CrossRule n (Summarize summary.Greatest) (Power n)
  deviation : CrossRule n (Summarize summary.StdDev) (Power n)
  median : CrossRule n (Summarize summary.Median) (Power n)
  percentile : {percent : ℕ} → CrossRule n (Summarize (summary.Percentile percent)) (Power n)

-- What is of terms without a unit has none. What is downsampled keeps its unit.
pub data Rule : Kind → Measure → Measure → Measure → Measure → Type 0 where
  pure : {k : Kind} → Rule k NoUnit NoUnit NoUnit NoUnit
  formula : {k : WindowKind} {x y z u : Measure} → FormulaRule k x y z u → Rule (Window k) x y z u
  operation : {k : PointKind} {x y z u : Measure} → OperationRule k x y z u → Rule (Point k) x y z u
  across : {k : CrossKind} {n : ℕ} {u : Measure} → CrossRule n k u → Rule (Cross k) (Power n) NoUnit NoUnit u
  downsampled : {f : Frequency} {n : ℕ} → Rule (Downsample f) (Power n) NoUnit NoUnit (Power n)

-- The measure of a term, by the rules; a mask and a group have no unit.
pub data HasMeasure : Term → Measure → Type 0 where
  nothing : HasMeasure absent NoUnit
  volume : HasMeasure (column Volume) NoUnit
  price : {c : Column} → is_price c ≡ true → HasMeasure (column c) Price
  term : {k : Kind} {size : ℕ} {x y z m g : Term} {mx my mz u : Measure} → Rule k mx my mz u
      → HasMeasure x mx → HasMeasure y my → HasMeasure z mz → HasMeasure m NoUnit → HasMeasure g NoUnit
      → HasMeasure (node k size x y z m g) u

-- ---- where nothing is rounded

-- the quotient of n and m has no rest and is not rounded by the ratio, or there is nothing to divide by
abbrev pub IsQuotientExact : Fraction → ℤ → ℤ → Type 0
IsQuotientExact r n (pos m) = IsUnrounded r n m
IsQuotientExact r n (negsuc m) = IsUnrounded r (neg_ℤ n) (suc m)

-- the values of which a percentile is made have no rest
abbrev pub IsPercentileExact : Fraction → ℕ → List ℤ → Type 0
IsPercentileExact r percent vs = IsUnrounded r (edge vs (percent * (length vs - 1)) 10000) 10000

-- a band is exact and a cell, or there is no value of which to make it
abbrev pub IsBandGiven : Fraction → ℤ → List ℤ → ℤ → Type 0
IsBandGiven r k xs band = (count xs ≡ 0) ⊎ (IsBandExact r k xs × (is_missing band ≡ false))

-- how far the high lies above the low, and how far the close before lies from each
abbrev pub spans : ℤ → ℤ → ℤ → List ℤ
spans h l c = of_both h l (h -ℤ l) ∷ gap h c ∷ gap l c ∷ []

-- what is given of two present values is not rounded by the ratio
abbrev pub GivesExact : Fraction → ℤ → ℤ → ℤ → Type 0
GivesExact r x y v = is_missing x ≡ false → is_missing y ≡ false → IsExact r v

-- the ratio rounds none of them, and the greatest is a cell
pub record AreSpansExact (r : Fraction) (h l c : ℤ) : Type 0 where
  pub own : GivesExact r h l (h -ℤ l)
  pub high : GivesExact r h c (pos (unsigned_abs (h -ℤ c)))
  pub low : GivesExact r l c (pos (unsigned_abs (l -ℤ c)))
  pub small : let span = cells.greatest (spans h l c) in is_missing span ≡ false → unsigned_abs span ≤ LIMIT

-- how far y lies above the line at x, times the number of pairs and their spread
abbrev pub above_trend : PairSums → ℤ → ℤ → ℤ
above_trend s x y =
    let n = pos s.number in
    (((n *ℤ y) -ℤ s.y) *ℤ spread_x s) -ℤ (joint_spread s *ℤ ((n *ℤ x) -ℤ s.x))

-- Sums are cells, and quotients have no rest; the ratio is that of what is given, and the second input is of
-- the measure.
abbrev pub IsFormulaExact : Fraction → WindowKind → Measure → List ℤ → List ℤ → List ℤ → Type 0
IsFormulaExact r WindowSum second xs ys zs = unsigned_abs (total (present_values xs)) ≤ LIMIT
IsFormulaExact r SimpleMovingAverage second xs ys zs = IsUnrounded r (total (present_values xs)) (count xs)
IsFormulaExact r BollingerMiddle second xs ys zs = IsUnrounded r (total (present_values xs)) (count xs)
IsFormulaExact r LinearWeightedMovingAverage second xs ys zs =
    IsUnrounded r (total (products (places xs) xs)) (length xs * (length xs + 1) / 2)
IsFormulaExact r WeightedAverageValue second xs ys zs =
    IsQuotientExact r (total (products xs ys)) (total (present_values ys))
IsFormulaExact r VWAP second xs ys zs = IsQuotientExact r (total (products xs ys)) (total (present_values ys))
IsFormulaExact r AverageDollarVolume second xs ys zs =
    IsUnrounded r (total (products xs ys)) (length xs * MILLION)
IsFormulaExact r (ExponentialWeightedMovingAverage decay) second xs ys zs =
    let ws = weights MILLION decay (length xs) in
    list_any is_missing xs ≡ false → IsQuotientExact r (total (products ws xs)) (total ws)
IsFormulaExact r (ExponentialWeightedMovingMean decay) second xs ys zs =
    let ws = weights FINE decay (length xs) in
    list_any is_missing xs ≡ false → IsQuotientExact r (total (products ws xs)) (total ws)
IsFormulaExact r WindowStd second xs ys zs = IsSpreadExact r (present_values xs)
IsFormulaExact r (ExponentialWeightedMovingStdDev decay) second xs ys zs =
    list_any is_missing xs ≡ false → IsFadedExact r (weights FINE decay (length xs)) xs
IsFormulaExact r (BollingerLower k) second xs ys zs =
    IsBandGiven r k xs (formulas.formula (BollingerLower k) xs [] [])
IsFormulaExact r (BollingerUpper k) second xs ys zs =
    IsBandGiven r k xs (formulas.formula (BollingerUpper k) xs [] [])
IsFormulaExact r (WindowPercentile percent) second xs ys zs = IsPercentileExact r percent (present_values xs)
IsFormulaExact r TrueRange second xs ys zs = AreSpansExact r (newest xs) (newest ys) (oldest zs)
IsFormulaExact r Covariance second ys xs zs =
    let s = pair_sums xs ys in IsUnrounded r (joint_spread s) (s.number * s.number * MILLION)
IsFormulaExact r RegressionSlope NoUnit ys xs zs =
    let s = pair_sums xs ys in IsUnrounded r (joint_spread s *ℤ pos MILLION) (unsigned_abs (spread_x s))
IsFormulaExact r RegressionError NoUnit ys xs zs = IsErrorExact r (pair_sums xs ys)
IsFormulaExact r RegressionIntercept second ys xs zs =
    let s = pair_sums xs ys in
    IsQuotientExact r ((s.y *ℤ spread_x s) -ℤ (joint_spread s *ℤ s.x)) (pos s.number *ℤ spread_x s)
IsFormulaExact r WindowSlope second xs ys zs =
    IsQuotientExact r (joint_spread (trend_sums xs)) (spread_x (trend_sums xs))
IsFormulaExact r WindowResidual second xs ys zs =
    let s = trend_sums xs in
    is_missing (newest xs) ≡ false
    → IsQuotientExact r (above_trend s (pos (length xs)) (newest xs)) (pos s.number *ℤ spread_x s)
IsFormulaExact r k second xs ys zs = Unit {0}

-- what is given of two present values is a cell
abbrev pub GivesCell : ℤ → ℤ → ℤ → Type 0
GivesCell x y v = is_missing x ≡ false → is_missing y ≡ false → is_missing v ≡ false

-- what is given is of the measure, and the ratio is its own
abbrev pub IsOperationExact : Fraction → PointKind → Measure → ℤ → ℤ → Type 0
IsOperationExact r Add given x y = GivesCell x y (add x y)
IsOperationExact r Sub given x y = GivesCell x y (sub x y)
IsOperationExact r Neg given x y = GivesCell x x (neg x)
IsOperationExact r Mul given x y =
    is_missing x ≡ false → is_missing y ≡ false
    → IsExact r (mul x y) × ((mul x y *ℤ pos MILLION) ≡ (x *ℤ y))
IsOperationExact r Div (Power n) x y =
    is_missing x ≡ false → is_missing y ≡ false → IsQuotientExact r (x *ℤ pos MILLION) y
IsOperationExact r Sqrt given x y =
    is_missing (sqrt x) ≡ false → formulas.square (sqrt x) ≡ unsigned_abs x * MILLION
IsOperationExact r k given x y = Unit {0}

abbrev pub IsCrossExact : Fraction → CrossKind → List ℤ → ℤ → Type 0
IsCrossExact r ZScore vs x = IsSpreadExact r vs
IsCrossExact r Demean vs x = IsSpreadExact r vs × GivesCell x x (sub x (center vs))
IsCrossExact r (Summarize summary.Mean) vs x = IsUnrounded r (total vs) (length vs)
IsCrossExact r (Summarize summary.Sum) vs x = unsigned_abs (total vs) ≤ LIMIT
IsCrossExact r (Summarize summary.StdDev) vs x = IsSpreadExact r vs
IsCrossExact r (Winsorize low high) vs x = GivesCell x x (winsorized low high vs x)
IsCrossExact r (Summarize summary.Median) vs x = IsPercentileExact r 5000 vs
IsCrossExact r (Summarize (summary.Percentile percent)) vs x = IsPercentileExact r percent vs
IsCrossExact r k vs x = Unit {0}

-- what a kind gives by the rule has no rest
abbrev pub IsStepExact : Fraction → World → {k : Kind} {x y z u : Measure} → Rule k x y z u → ℕ → Operands
    → ℕ → ℤ → Type 0
IsStepExact r w pure size operands a d = Unit {0}
IsStepExact r w (formula {k} {y = y} {u = u} rule) size operands a d =
    IsFormulaExact (ratio_of r u) k y (window_of w size operands.first a d)
    (window_of w size operands.second a d) (window_of w size operands.third a d)
IsStepExact r w (operation {k} {u = u} rule) size operands a d =
    IsOperationExact (ratio_of r u) k u (number_of (value_of_part operands.first a d))
    (number_of (value_of_part operands.second a d))
IsStepExact r w (across {k} {n} rule) size operands a d =
    IsCrossExact (raised r n) k (values (eligible w k operands a d))
    (number_of (value_of_part operands.first a d))
IsStepExact r w downsampled size operands a d = Unit {0}

-- what holds of the values of a term, by view, sid and session
abbrev pub Cells : Type 1
Cells = View → ℕ → ℤ → Type 0

-- what holds of each value that a kind reads for asset a on session d
abbrev pub HoldsOfInputs : World → Kind → ℕ → View → (first second third mask group : Cells) → ℕ → ℤ → Type 0
HoldsOfInputs w (Window k) size view x y z m g a d =
    Each (λ n. x view a (before d n) × y view a (before d n) × z view a (before d n)) (downward size)
HoldsOfInputs w (Point k) size view x y z m g a d = x view a d × y view a d × z view a d
HoldsOfInputs w (LabelTest k) size view x y z m g a d = x view a d
HoldsOfInputs w (Cross k) size view x y z m g a d =
    Each (λ b. x view b d × m Own b d × g Own b d) (living_sids w d)
HoldsOfInputs w (Downsample f) size view x y z m g a d = x view a (period_start f w.days d)
HoldsOfInputs w k size view x y z m g a d = Unit {0}

-- the ratio does not round a price, nor its power one of that power
abbrev pub IsWhole : Fraction → Measure → Value → Type 0
IsWhole r (Power n) v = Divides (raised r n) (number_of v)
IsWhole r NoUnit v = Unit {0}

-- Nothing is rounded on the way to what a term is worth for asset a on session d: neither bars and the values
-- that it reads, nor what it makes of them, nor what the ratio makes of its own value. A column stands for
-- the bar of the session before.
abbrev pub NothingIsRounded : Fraction → World → List (List ℕ) → {t : Term} {u : Measure} → HasMeasure t u
    → View → ℕ → ℤ → Type 0
NothingIsRounded r w names nothing view a d = Unit {0}
NothingIsRounded r w names volume view a d = Unit {0}
NothingIsRounded r w names (price {c} is) view a d =
    AllDivide r (bar_cell w a c (before d 1)) (effects w a c (before d 1) (seen_from view d))
NothingIsRounded r w names (term {k} {size} {x} {y} {z} {m} {g} {u = u} rule hx hy hz hm hg) view a d =
    let t = node k size x y z m g in
    let operands = seen_operands w names t view d in
    NothingIsRounded r w names hm Own a d × IsWhole r u (seen w names t view a d)
    × ((exists w a d && passes operands.mask a d) ≡ true
    → HoldsOfInputs w k size (view_of k view d) (NothingIsRounded r w names hx)
    (NothingIsRounded r w names hy) (NothingIsRounded r w names hz) (NothingIsRounded r w names hm)
    (NothingIsRounded r w names hg) a d
    × IsStepExact r w rule size operands a d)

-- ---- the laws

-- a value of the measure, in the other unit
abbrev pub in_unit : Fraction → Measure → Value → Value
in_unit r (Power n) (Number x) = Number (scaled (raised r n) x)
in_unit r (Power n) (Text t) = Text t
in_unit r NoUnit v = v

-- Where nothing is rounded, a term in a power of the price's unit is multiplied by that power of the ratio,
-- and a term without a unit is the same.
abbrev pub PipelinesHaveUnits : Type 0
PipelinesHaveUnits = (r : Fraction) (w : World) (names : List (List ℕ)) (t : Term) (u : Measure) → IsRatio r
    → (h : HasMeasure t u) (view : View) (a : ℕ) (d : ℤ) → NothingIsRounded r w names h view a d
    → seen (priced_world r w) names t view a d ≡ in_unit r u (seen w names t view a d)

-- ---- of tables

-- the columns have these measures, one for each
abbrev pub HaveMeasures : Graph → List NamedColumn → List Measure → Type 0
HaveMeasures g [] [] = Unit {0}
HaveMeasures g [] (u ∷ us) = ⊥
HaveMeasures g (c ∷ cs) [] = ⊥
HaveMeasures g (c ∷ cs) (u ∷ us) = HasMeasure (term_at g c.term) u × HaveMeasures g cs us

-- a screen has no unit
abbrev pub HasNoUnit : Graph → Option ℕ → Type 0
HasNoUnit g None = Unit {0}
HasNoUnit g (Some t) = HasMeasure (term_at g t) NoUnit

pub record HasMeasures (p : Pipeline) (us : List Measure) : Type 0 where
  pub columns : HaveMeasures p.graph p.columns us
  pub screen : HasNoUnit p.graph p.screen

abbrev pub AreUnrounded : Fraction → World → List (List ℕ) → (g : Graph) (cs : List NamedColumn)
    (us : List Measure) → HaveMeasures g cs us → ℕ → ℤ → Type 0
AreUnrounded r w names g (c ∷ cs) (u ∷ us) h a d =
    NothingIsRounded r w names h.0 Own a d × AreUnrounded r w names g cs us h.1 a d
AreUnrounded r w names g [] us h a d = Unit {0}
AreUnrounded r w names g (c ∷ cs) [] h a d = Unit {0}

abbrev pub IsScreenUnrounded : Fraction → World → List (List ℕ) → (g : Graph) (o : Option ℕ) → HasNoUnit g o
    → ℕ → ℤ → Type 0
IsScreenUnrounded r w names g None h a d = Unit {0}
IsScreenUnrounded r w names g (Some t) h a d = NothingIsRounded r w names h Own a d

-- nothing is rounded on session d: not in the screen, nor in the columns of the assets that it keeps
abbrev pub IsSessionUnrounded : Fraction → World → (p : Pipeline) (us : List Measure) → HasMeasures p us → ℤ
    → Type 0
IsSessionUnrounded r w p us h d =
    Each
    (λ a. IsScreenUnrounded r w p.names p.graph p.screen h.screen a d
    × (is_kept w p p.screen d a ≡ true → AreUnrounded r w p.names p.graph p.columns us h.columns a d))
    (living_sids w d)

abbrev pub in_units : Fraction → List Measure → List Value → List Value
in_units r (u ∷ us) (v ∷ vs) = in_unit r u v ∷ in_units r us vs
in_units r [] vs = []
in_units r (u ∷ us) [] = []

-- a row of the same session and sid, with the prices in the other unit
abbrev pub priced_row : Fraction → List Measure → Row → Row
priced_row r us row = record row { values = in_units r us row.values }

-- Where nothing is rounded, the screen keeps the same assets, and each column in a power of the price's unit
-- is multiplied by that power of the ratio; all others are the same.
pub record TablesHaveUnits : Type 0 where
  pub sids : (r : Fraction) (w : World) (p : Pipeline) (us : List Measure) → IsRatio r
      → (h : HasMeasures p us) (d : ℤ) → IsSessionUnrounded r w p us h d
      → kept_sids (priced_world r w) p d ≡ kept_sids w p d
  pub rows : (r : Fraction) (w : World) (p : Pipeline) (us : List Measure) → IsRatio r
      → (h : HasMeasures p us) (from to : ℕ)
      → Each (λ d. IsSessionUnrounded r w p us h (pos d)) (range_with_len from (suc to - from))
      → table (priced_world r w) p from to ≡ map (priced_row r us) (table w p from to)
