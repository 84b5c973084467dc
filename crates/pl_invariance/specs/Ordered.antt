-- Percentiles and ranks of the values of a window.
use Rattle.std.specs.Prelude.{◌≡◌, ℕ, ◌+◌, ◌*◌, ◌<◌, ◌≤◌, ℤ, pos, ◌≤ℤ◌, List, length, All, false}
use Rattle.pl_pipeline.specs.declared.RankMethod.TheVariants.{Average}
use Rattle.pl_pipeline.specs.declared.RankOrder.TheVariants.{Ascending}
use Rattle.pl_pipeline.specs.declared.WindowKind.TheVariants.{WindowPercentile, WindowRank, RankCorrelation}
use Rattle.pl_spec.specs.Rounding.{IsCell, quot, is_missing}
use Rattle.pl_spec.specs.Cells.{present_values, count, greatest, least}
use Rattle.pl_pipeline.specs.Kind.CrossKind.{Rank}
use Rattle.pl_pipeline.specs.Cross.{Entry, values, cross}
use Rattle.pl_pipeline.specs.Order.{value_at}
use Rattle.pl_pipeline.specs.Formula.{formula, newest}
use Rattle.pl_invariance.specs.Paired.{IsWithinOne}

-- a percentile lies between the least present value and the greatest
abbrev pub PercentilesAreBetween : Type 0
PercentilesAreBetween = (percent : ℕ) (xs ys zs : List ℤ) → All IsCell xs → percent ≤ 10000 → 0 < count xs
    → (least xs ≤ℤ formula (WindowPercentile percent) xs ys zs) × (formula (WindowPercentile percent) xs ys zs ≤ℤ greatest xs)

-- 50 of an odd number of present values is the middle one
abbrev pub MediansAreMiddles : Type 0
MediansAreMiddles = (n : ℕ) (xs ys zs : List ℤ) → All IsCell xs → count xs ≡ 2 * n + 1
    → formula (WindowPercentile 5000) xs ys zs ≡ value_at (present_values xs) n

-- the newest value has the rank that the average method gives it in a list of the same values, over their number
abbrev pub WindowRanksAreRanks : Type 0
WindowRanksAreRanks = (list : List Entry) (a : ℕ) (xs ys zs : List ℤ) → values list ≡ present_values xs → is_missing (newest xs) ≡ false
    → formula WindowRank xs ys zs ≡ quot (cross (Rank Average Ascending) list a (newest xs)) (pos (length list))

abbrev pub RankCorrelationsAreBounded : Type 0
RankCorrelationsAreBounded = (xs ys zs : List ℤ) → IsWithinOne (formula RankCorrelation xs ys zs)
