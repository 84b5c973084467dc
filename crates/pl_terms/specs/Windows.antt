-- What is known of each formula and filter over a window.
use Rattle.std.specs.Prelude.{ℕ, nat_le, if◌then◌else◌, pos, Bool, true, false, List, [], ◌∷◌, ◌++◌, codes, Option, Some, None, bytes_eq, find}
use Rattle.pl_spec.specs.declared.Column.{Column}
use Rattle.pl_spec.specs.declared.Column.TheVariants.{High, Low, Close, Volume}
use Rattle.pl_pipeline.specs.Kind.{Kind, Window}
use Rattle.pl_pipeline.specs.declared.WindowKind.{WindowKind}
use Rattle.pl_pipeline.specs.declared.WindowKind.TheVariants.{Latest, SimpleMovingAverage, LinearWeightedMovingAverage, WindowSum, WindowMax, WindowMin, WindowStd, BollingerMiddle, BollingerLower, BollingerUpper, Returns, PercentChange, RateOfChangePercentage, RSI, VWAP, AverageDollarVolume, WeightedAverageValue, FastStochasticOscillator, TrueRange, ExponentialWeightedMovingAverage, AroonUp, AroonDown, Correlation, Covariance, RegressionSlope, RegressionIntercept, RegressionError, WindowPercentile, WindowRank, WindowArgMax, WindowArgMin, WindowFirst, MaxDrawdown, RankCorrelation, All, Any, AtLeastN, AllPresent, WindowSlope, WindowResidual, WindowRSquared, ExponentialWeightedMovingMean, ExponentialWeightedMovingStdDev, WindowSkewness, WindowKurtosis}
use Rattle.pl_terms.specs.declared.kind.WindowForm.{WindowForm}
use Rattle.pl_terms.specs.declared.kind.WindowForm.TheVariants.{Bar, Series, LongSeries, Weighted, Pairs, Regression, Filter, Columns, LongColumns, TwoColumns}

-- its name, the bar columns of its own, what it is over, and whether a window may be over it in turn
pub record WindowRow : Type 0 where
  pub name : List ℕ
  pub columns : List Column
  pub form : WindowForm
  pub is_safe : Bool

abbrev row : List ℕ → List Column → WindowForm → Bool → WindowRow
row n cs f s = record { name = n; columns = cs; form = f; is_safe = s }

abbrev pub row_of : WindowKind → WindowRow
row_of Latest = row (codes "Latest") [] Bar false
row_of SimpleMovingAverage = row (codes "SimpleMovingAverage") [] Series false
row_of LinearWeightedMovingAverage = row (codes "LinearWeightedMovingAverage") [] Series false
row_of WindowSum = row (codes "WindowSum") [] Series false
row_of WindowMax = row (codes "WindowMax") [] Series false
row_of WindowMin = row (codes "WindowMin") [] Series false
row_of WindowStd = row (codes "WindowStd") [] Series false
row_of BollingerMiddle = row (codes "BollingerMiddle") [] Series false
row_of (BollingerLower k) = row (codes "BollingerLower") [] Series false
row_of (BollingerUpper k) = row (codes "BollingerUpper") [] Series false
row_of Returns = row (codes "Returns") [] LongSeries true
row_of PercentChange = row (codes "PercentChange") [] LongSeries true
row_of RateOfChangePercentage = row (codes "RateOfChangePercentage") [] LongSeries true
row_of RSI = row (codes "RSI") [] LongSeries true
row_of VWAP = row (codes "VWAP") (Close ∷ Volume ∷ []) Columns false
row_of AverageDollarVolume = row (codes "AverageDollarVolume") (Close ∷ Volume ∷ []) Columns false
row_of WeightedAverageValue = row (codes "WeightedAverageValue") [] Weighted false
row_of FastStochasticOscillator = row (codes "FastStochasticOscillator") (Close ∷ Low ∷ High ∷ []) Columns true
row_of TrueRange = row (codes "TrueRange") (High ∷ Low ∷ Close ∷ []) TwoColumns false
row_of (ExponentialWeightedMovingAverage decay) = row (codes "ExponentialWeightedMovingAverage") [] Series false
row_of AroonUp = row (codes "AroonUp") (High ∷ []) LongColumns true
row_of AroonDown = row (codes "AroonDown") (Low ∷ []) LongColumns true
row_of Correlation = row (codes "Correlation") [] Pairs true
row_of Covariance = row (codes "Covariance") [] Pairs false
row_of RegressionSlope = row (codes "RegressionSlope") [] Regression false
row_of RegressionIntercept = row (codes "RegressionIntercept") [] Regression false
row_of RegressionError = row (codes "RegressionError") [] Regression false
row_of (WindowPercentile percent) = row (codes "WindowPercentile") [] Series false
row_of WindowRank = row (codes "WindowRank") [] Series true
row_of WindowArgMax = row (codes "WindowArgMax") [] Series true
row_of WindowArgMin = row (codes "WindowArgMin") [] Series true
row_of WindowFirst = row (codes "WindowFirst") [] Series false
row_of MaxDrawdown = row (codes "MaxDrawdown") [] Series true
row_of RankCorrelation = row (codes "RankCorrelation") [] Pairs true
row_of All = row (codes "All") [] Filter true
row_of Any = row (codes "Any") [] Filter true
row_of (AtLeastN n) = row (codes "AtLeastN") [] Filter true
row_of AllPresent = row (codes "AllPresent") [] Series true
row_of WindowSlope = row (codes "WindowSlope") [] LongSeries false
row_of WindowResidual = row (codes "WindowResidual") [] LongSeries false
row_of WindowRSquared = row (codes "WindowRSquared") [] LongSeries true
row_of (ExponentialWeightedMovingMean decay) = row (codes "ExponentialWeightedMovingMean") [] Series false
row_of (ExponentialWeightedMovingStdDev decay) = row (codes "ExponentialWeightedMovingStdDev") [] LongSeries false
row_of WindowSkewness = row (codes "WindowSkewness") [] LongSeries true
row_of WindowKurtosis = row (codes "WindowKurtosis") [] LongSeries true

-- the formula or filter over a window that a kind is
abbrev pub window_in : Kind → Option WindowKind
window_in (Window k) = Some k
window_in k = None

-- the functions of the language over windows; the number that some are given is 0 here
abbrev pub formulas : List WindowKind
formulas =
    SimpleMovingAverage ∷ LinearWeightedMovingAverage ∷ WindowSum ∷ WindowMax ∷ WindowMin ∷ WindowStd ∷
    BollingerMiddle ∷ BollingerLower (pos 0) ∷ BollingerUpper (pos 0) ∷ Returns ∷ PercentChange ∷
    RateOfChangePercentage ∷ RSI ∷ VWAP ∷ AverageDollarVolume ∷ WeightedAverageValue ∷
    FastStochasticOscillator ∷ TrueRange ∷ ExponentialWeightedMovingAverage (pos 0) ∷ AroonUp ∷ AroonDown ∷
    All ∷ Any ∷ AtLeastN 0 ∷ AllPresent ∷ []

-- and those since version 4 of the language
abbrev pub later_formulas : List WindowKind
later_formulas =
    Correlation ∷ Covariance ∷ RegressionSlope ∷ RegressionIntercept ∷ RegressionError ∷
    WindowPercentile 0 ∷ WindowRank ∷ WindowArgMax ∷ WindowArgMin ∷ WindowFirst ∷ MaxDrawdown ∷ RankCorrelation ∷
    WindowSlope ∷ WindowResidual ∷ WindowRSquared ∷ ExponentialWeightedMovingMean (pos 0) ∷
    ExponentialWeightedMovingStdDev (pos 0) ∷ WindowSkewness ∷ WindowKurtosis ∷ []

abbrev pub formulas_of : ℕ → List WindowKind
formulas_of version = if nat_le 4 version then formulas ++ later_formulas else formulas

unfoldable pub is_named : List ℕ → WindowKind → Bool
is_named n k = bytes_eq n (row_of k).name

-- the one of a name in a version of the language
unfoldable pub formula_named : ℕ → List ℕ → Option WindowKind
formula_named version n = find (is_named n) (formulas_of version)
