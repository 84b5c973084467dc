-- Formulas over prices in another unit.
use Rattle.std.specs.Prelude.{◌≡◌, ◌⊎◌, ◌<◌, ◌≤◌, ◌+◌, ◌*◌, ◌/◌, ◌-ℤ◌, ◌*ℤ◌, false, ℕ, ℤ, pos, List, length, map, sum_by}
use Rattle.std.specs.Int.RustNames.{unsigned_abs}
use Rattle.pl_spec.specs.Cells.{total, count, present_values}
use Rattle.pl_spec.specs.Each.{Each}
use Rattle.pl_spec.specs.Rounding.{LIMIT, MILLION, Fraction, is_missing, scaled, div_round, quot, mul}
use Rattle.pl_pipeline.specs.declared.WindowKind.{WindowKind}
use Rattle.pl_pipeline.specs.declared.WindowKind.TheVariants.{Latest, SimpleMovingAverage, LinearWeightedMovingAverage, WindowSum, WindowMax, WindowMin, WindowStd, BollingerMiddle, BollingerLower, BollingerUpper, VWAP, AverageDollarVolume, WeightedAverageValue, ExponentialWeightedMovingAverage, ExponentialWeightedMovingMean, RSI, FastStochasticOscillator, AroonUp, AroonDown}
use Rattle.pl_pipeline.specs.Formula.{FINE, weights, deviation, formula, places, products, spread, square}
use Rattle.pl_invariance.specs.Exact.{Divides}
use Rattle.pl_invariance.specs.Ranked.{IsExact}

-- a ratio above 0
abbrev pub IsRatio : Fraction → Type 0
IsRatio r = (0 < r.num) × (0 < r.den)

-- each value is missing or not rounded by the ratio
abbrev pub AreExact : Fraction → List ℤ → Type 0
AreExact r xs = Each (Divides r) xs

-- The quotient is a cell without a rest, and the ratio does not round it; or there is nothing to divide by.
abbrev pub IsUnrounded : Fraction → ℤ → ℕ → Type 0
IsUnrounded r n m = (m ≡ 0) ⊎ (IsExact r (quot n (pos m)) × ((quot n (pos m) *ℤ pos m) ≡ n))

abbrev pub middle : List ℤ → ℤ
middle vs = div_round (total vs) (length vs)

-- the mean of the values and their deviation have no rest, and the ratio rounds neither
pub record IsSpreadExact (r : Fraction) (vs : List ℤ) : Type 0 where
  pub middle_whole : (middle vs *ℤ pos (length vs)) ≡ total vs
  pub middle_exact : IsExact r (middle vs)
  pub root_whole : spread vs * spread vs * length vs ≡ sum_by (λ x. square (x -ℤ middle vs)) vs
  pub root_exact : IsExact r (pos (spread vs))
  pub root_small : spread vs ≤ LIMIT

-- the formula over prices in another unit gives the price in that unit
abbrev pub HasUnit : Fraction → WindowKind → List ℤ → List ℤ → List ℤ → Type 0
HasUnit r kind xs ys zs = formula kind (map (scaled r) xs) ys zs ≡ scaled r (formula kind xs ys zs)

-- what is added to a mean or taken from it has no rest, and the ratio rounds neither it nor the mean
pub record IsBandExact (r : Fraction) (k : ℤ) (xs : List ℤ) : Type 0 where
  pub mean : IsUnrounded r (total (present_values xs)) (count xs)
  pub spread : IsSpreadExact r (present_values xs)
  pub width_whole : (mul k (deviation xs) *ℤ pos MILLION) ≡ (k *ℤ deviation xs)
  pub width_exact : IsExact r (mul k (deviation xs))

-- Of cells that a ratio above 0 does not round, these formulas give the same times the ratio, where what they
-- give has no rest and is not rounded by it either. Weights have no unit.
pub record FormulasHaveUnits : Type 0 where
  pub latest : (r : Fraction) (xs ys zs : List ℤ) → HasUnit r Latest xs ys zs
  pub sums : (r : Fraction) (xs ys zs : List ℤ) → IsRatio r → AreExact r xs
      → unsigned_abs (total (present_values xs)) ≤ LIMIT → HasUnit r WindowSum xs ys zs
  pub greatest : (r : Fraction) (xs ys zs : List ℤ) → IsRatio r → AreExact r xs → HasUnit r WindowMax xs ys zs
  pub least : (r : Fraction) (xs ys zs : List ℤ) → IsRatio r → AreExact r xs → HasUnit r WindowMin xs ys zs
  pub means : (r : Fraction) (xs ys zs : List ℤ) → IsRatio r → AreExact r xs
      → IsUnrounded r (total (present_values xs)) (count xs)
      → HasUnit r SimpleMovingAverage xs ys zs × HasUnit r BollingerMiddle xs ys zs
  pub linear : (r : Fraction) (xs ys zs : List ℤ) → IsRatio r → AreExact r xs
      → IsUnrounded r (total (products (places xs) xs)) (length xs * (length xs + 1) / 2)
      → HasUnit r LinearWeightedMovingAverage xs ys zs
  pub weighted : (r : Fraction) (xs ys zs : List ℤ) (weight : ℕ) → IsRatio r → AreExact r xs
      → total (present_values ys) ≡ pos weight → IsUnrounded r (total (products xs ys)) weight
      → HasUnit r WeightedAverageValue xs ys zs × HasUnit r VWAP xs ys zs
  pub dollar_volumes : (r : Fraction) (xs ys zs : List ℤ) → IsRatio r → AreExact r xs
      → IsUnrounded r (total (products xs ys)) (length xs * MILLION) → HasUnit r AverageDollarVolume xs ys zs
  pub faded_means : (r : Fraction) (decay : ℤ) (xs ys zs : List ℤ) (weight : ℕ) → IsRatio r → AreExact r xs
      → total (weights MILLION decay (length xs)) ≡ pos weight
      → IsUnrounded r (total (products (weights MILLION decay (length xs)) xs)) weight
      → HasUnit r (ExponentialWeightedMovingAverage decay) xs ys zs
  pub fine_means : (r : Fraction) (decay : ℤ) (xs ys zs : List ℤ) (weight : ℕ) → IsRatio r → AreExact r xs
      → total (weights FINE decay (length xs)) ≡ pos weight
      → IsUnrounded r (total (products (weights FINE decay (length xs)) xs)) weight
      → HasUnit r (ExponentialWeightedMovingMean decay) xs ys zs
  pub deviations : (r : Fraction) (xs ys zs : List ℤ) → IsRatio r → AreExact r xs
      → IsSpreadExact r (present_values xs) → HasUnit r WindowStd xs ys zs
  pub lower : (r : Fraction) (k : ℤ) (xs ys zs : List ℤ) → IsRatio r → AreExact r xs → IsBandExact r k xs
      → is_missing (formula (BollingerLower k) xs ys zs) ≡ false → HasUnit r (BollingerLower k) xs ys zs
  pub upper : (r : Fraction) (k : ℤ) (xs ys zs : List ℤ) → IsRatio r → AreExact r xs → IsBandExact r k xs
      → is_missing (formula (BollingerUpper k) xs ys zs) ≡ false → HasUnit r (BollingerUpper k) xs ys zs

-- these give the same in both units
pub record IndicatorsHaveNoUnit : Type 0 where
  pub strength : (r : Fraction) (xs ys zs : List ℤ) → IsRatio r → AreExact r xs
      → formula RSI (map (scaled r) xs) ys zs ≡ formula RSI xs ys zs
  pub stochastic : (r : Fraction) (closes lows highs : List ℤ) → IsRatio r
      → AreExact r closes → AreExact r lows → AreExact r highs
      → formula FastStochasticOscillator (map (scaled r) closes) (map (scaled r) lows) (map (scaled r) highs)
      ≡ formula FastStochasticOscillator closes lows highs
  pub up : (r : Fraction) (xs ys zs : List ℤ) → IsRatio r → AreExact r xs
      → formula AroonUp (map (scaled r) xs) ys zs ≡ formula AroonUp xs ys zs
  pub down : (r : Fraction) (xs ys zs : List ℤ) → IsRatio r → AreExact r xs
      → formula AroonDown (map (scaled r) xs) ys zs ≡ formula AroonDown xs ys zs
