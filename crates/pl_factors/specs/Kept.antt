-- What is kept of the windows of a formula: sums from which its value follows, and which move with the
-- windows.
use Rattle.std.specs.Prelude.{Bool, true, false, ℕ, ℤ, pos, List}
use Rattle.pl_spec.specs.Cells.{present_values, total, count, greatest, least}
use Rattle.pl_lanes.specs.Heights.{best_of}
use Rattle.pl_factors.specs.Terms.{first_place}
use Rattle.pl_pipeline.specs.Formula.{products, places, differences, gains, losses}
use Rattle.pl_pipeline.specs.Kind.{Kind}
use Rattle.pl_pipeline.specs.declared.WindowKind.{WindowKind}
use Rattle.pl_pipeline.specs.Kind.Kind.{Window}
use Rattle.pl_pipeline.specs.declared.WindowKind.TheVariants.{SimpleMovingAverage, LinearWeightedMovingAverage, WindowSum, WindowMax, WindowMin, FastStochasticOscillator, AroonUp, AroonDown, WindowArgMax, WindowArgMin, WindowStd, BollingerMiddle, BollingerLower, BollingerUpper, RSI, VWAP, AverageDollarVolume, WeightedAverageValue, All, Any, AtLeastN, AllPresent}

-- two sums and a count; which they are depends on the kind
pub record Kept : Type 0 where
  pub main : ℤ
  pub beside : ℤ
  pub number : ℕ

abbrev pub nothing : Kept
nothing = record { main = pos 0; beside = pos 0; number = 0 }

-- the sum of the present cells, and their count
abbrev pub sums : List ℤ → Kept
sums a = record { main = total (present_values a); beside = pos 0; number = count a }

-- the same, and the sum of their squares
abbrev pub spreads : List ℤ → Kept
spreads a = record { main = total (present_values a); beside = total (products a a); number = count a }

-- the sum of the weights, and that of the products
abbrev pub weighted : List ℤ → List ℤ → Kept
weighted a w = record { main = total (present_values w); beside = total (products a w); number = 0 }

-- the sum of the cells, and that of the cells each times its place
abbrev pub placed : List ℤ → Kept
placed a = record { main = total (present_values a); beside = total (products (places a) a); number = 0 }

-- how far the cells rose, and how far they fell
abbrev pub swings : List ℤ → Kept
swings a = record { main = gains (differences a); beside = losses (differences a); number = 0 }

-- the least cell, or the greatest
abbrev pub kept_best : Bool → List ℤ → Kept
kept_best low a = record { main = best_of low a; beside = pos 0; number = 0 }

-- the least low and the greatest high
abbrev pub range : List ℤ → List ℤ → Kept
range low high = record { main = least low; beside = greatest high; number = 0 }

-- the least cell, or the greatest, and its first place
abbrev pub placed_best : Bool → List ℤ → Kept
placed_best low a = record { main = best_of low a; beside = pos 0; number = first_place (best_of low a) a }

-- nothing for a kind whose formula is computed anew
abbrev pub kept_of_window : WindowKind → List ℤ → List ℤ → List ℤ → Kept
kept_of_window SimpleMovingAverage a b c = sums a
kept_of_window BollingerMiddle a b c = sums a
kept_of_window WindowSum a b c = sums a
kept_of_window All a b c = sums a
kept_of_window Any a b c = sums a
kept_of_window (AtLeastN n) a b c = sums a
kept_of_window AllPresent a b c = sums a
kept_of_window WindowStd a b c = spreads a
kept_of_window (BollingerLower k) a b c = spreads a
kept_of_window (BollingerUpper k) a b c = spreads a
kept_of_window VWAP a b c = weighted a b
kept_of_window WeightedAverageValue a b c = weighted a b
kept_of_window AverageDollarVolume a b c = weighted a b
kept_of_window LinearWeightedMovingAverage a b c = placed a
kept_of_window RSI a b c = swings a
kept_of_window WindowMax a b c = kept_best false a
kept_of_window WindowMin a b c = kept_best true a
kept_of_window FastStochasticOscillator a b c = range b c
kept_of_window AroonUp a b c = placed_best false a
kept_of_window AroonDown a b c = placed_best true a
kept_of_window WindowArgMax a b c = placed_best false a
kept_of_window WindowArgMin a b c = placed_best true a
kept_of_window k a b c = nothing

unfoldable pub kept_of : Kind → List ℤ → List ℤ → List ℤ → Kept
kept_of (Window k) a b c = kept_of_window k a b c
kept_of k a b c = nothing
