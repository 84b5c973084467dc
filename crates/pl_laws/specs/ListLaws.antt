-- The laws of cross-sections and of windows on lists, each the contract of a function.
use Rattle.std.specs.Prelude.{◌≡◌, ◌≢◌, ◌⊎◌, ◌↔◌, true, ℕ, ◌+◌, ◌-◌, ◌*◌, ◌/◌, ◌<◌, ◌≤◌, min, ℤ, pos, neg_ℤ, ◌*ℤ◌, ◌<ℤ◌, ◌≤ℤ◌, List, [], ◌∷◌, length, map, Some, slice_get, count_by, All, AllPairs, Contains, IsPermutation}
use Rattle.std.specs.List.{range_with_len}
use Rattle.pl_pipeline.specs.declared.RankMethod.{RankMethod}
use Rattle.pl_pipeline.specs.declared.RankOrder.{RankOrder}
use Rattle.pl_pipeline.specs.declared.RankOrder.TheVariants.{Ascending, Descending}
use Rattle.pl_spec.specs.Rounding.{IsCell, MILLION, neg}
use Rattle.pl_spec.specs.Cells.{is_true, count, least, greatest}
use Rattle.pl_pipeline.specs.Formula.{mean, formula}
use Rattle.pl_pipeline.specs.declared.WindowKind.{WindowKind}
use Rattle.pl_pipeline.specs.declared.WindowKind.TheVariants as window
use Rattle.pl_pipeline.specs.Kind.CrossKind.{Top, Bottom, PercentileBetween, Winsorize}
use Rattle.pl_pipeline.specs.CrossFacts.{IsValueAt, edge_of, AreRanks, negated}
use Rattle.pl_pipeline.specs.Cross.{Entry, values, ordinal, rank, bin_of, cross, winsorized}
use Rattle.pl_pipeline.specs.Order.{precedes, value_at, edge}

-- the values in ascending order are those that value_at counts out
abbrev pub ValuesAreSorted : Type 0
ValuesAreSorted = (vs sorted : List ℤ) → IsPermutation vs sorted → AllPairs (λ x y. x ≤ℤ y) sorted
    → (i : ℕ) → i < length vs → slice_get sorted i ≡ Some (value_at vs i)

-- there is one such value for each place
abbrev pub ValuesAreCounted : Type 0
ValuesAreCounted = (vs : List ℤ) (i : ℕ) (v : ℤ) → i < length vs → IsValueAt vs i (value_at vs i) × (IsValueAt vs i v → v ≡ value_at vs i)

-- e comes before f: its value comes first, or of two equal values its sid does
abbrev pub ComesBefore : RankOrder → Entry → Entry → Type 0
ComesBefore order e f = (precedes order e.1 f.1 ≡ true) ⊎ ((e.1 ≡ f.1) × (e.0 < f.0))

-- the entries in order are at the places of their ordinal ranks, from 1
abbrev pub OrdinalsArePlaces : Type 0
OrdinalsArePlaces = (order : RankOrder) (list sorted : List Entry) → IsPermutation list sorted → AllPairs (ComesBefore order) sorted
    → (i : ℕ) (e : Entry) → slice_get sorted i ≡ Some e → ordinal order list e.0 e.1 ≡ i + 1

-- where no two entries have one sid, each of the numbers from 1 on is the place of one entry
abbrev pub OrdinalsAreNumbers : Type 0
OrdinalsAreNumbers = (order : RankOrder) (list : List Entry) → AllPairs (λ e f. e.0 ≢ f.0) list
    → IsPermutation (map (λ e. ordinal order list e.0 e.1) list) (range_with_len 1 (length list))

-- the rounded mean of cells lies between the least and the greatest of them
abbrev pub MeanIsBetween : Type 0
MeanIsBetween = (xs : List ℤ) → All IsCell xs → 0 < count xs → (least xs ≤ℤ mean xs) × (mean xs ≤ℤ greatest xs)

-- no value stands in a bin past the last, and a greater value stands in no lower bin
abbrev pub BinsAreFew : Type 0
BinsAreFew = (bins : ℕ) (vs : List ℤ) (x y : ℤ) → (bin_of bins vs x ≤ bins - 1) × (x ≤ℤ y → bin_of bins vs x ≤ bin_of bins vs y)

-- the points between the least value and the greatest ascend
abbrev pub EdgesAscend : Type 0
EdgesAscend = (vs : List ℤ) (n p q : ℕ) → 0 < n → p ≤ q → q ≤ n * (length vs - 1) → edge vs p n ≤ℤ edge vs q n

-- a value stands in bin k where the edge before it lies below the value and the one after it doesn't
abbrev pub BinsLieBetweenEdges : Type 0
BinsLieBetweenEdges = (bins : ℕ) (vs : List ℤ) (x : ℤ) (k : ℕ) → k < bins
    → (bin_of bins vs x ≡ k) ↔ ((0 < k → edge_of bins vs k <ℤ (x *ℤ pos bins)) × (k + 1 < bins → (x *ℤ pos bins) ≤ℤ edge_of bins vs (k + 1)))

-- each value lies between the least and the greatest
abbrev pub WholeRangeIsAll : Type 0
WholeRangeIsAll = (list : List Entry) (a : ℕ) (x : ℤ) → Contains (values list) x → cross (PercentileBetween 0 10000) list a x ≡ pos 1

abbrev pub RanksAreBetween : Type 0
RanksAreBetween = (order : RankOrder) (list : List Entry) (a : ℕ) (x : ℤ) → AreRanks order list a x

-- a descending rank is the ascending one of the negatives
abbrev pub DescendingIsNegated : Type 0
DescendingIsNegated = (method : RankMethod) (list : List Entry) (a : ℕ) (x : ℤ) → rank method Descending list a x ≡ rank method Ascending (negated list) a (neg_ℤ x)

-- where no two entries have one sid, n entries pass Top n and n pass Bottom n, or all where there are fewer
abbrev pub TopsAreMany : Type 0
TopsAreMany = (n : ℕ) (list : List Entry) → AllPairs (λ e f. e.0 ≢ f.0) list
    → (count_by (λ e. is_true (cross (Top n) list e.0 e.1)) list ≡ min n (length list))
    × (count_by (λ e. is_true (cross (Bottom n) list e.0 e.1)) list ≡ min n (length list))

-- any is at least one, and all are at least as many as there are
abbrev pub FiltersCount : Type 0
FiltersCount = (xs ys zs : List ℤ) → (formula (window.AtLeastN 1) xs ys zs ≡ formula window.Any xs ys zs)
    × (formula (window.AtLeastN (length xs)) xs ys zs ≡ formula window.All xs ys zs)

-- drawn in to the least and the greatest value no value of the list changes
abbrev pub WholeWinsorizingIsNone : Type 0
WholeWinsorizingIsNone = (list : List Entry) (a : ℕ) (x : ℤ) → Contains (values list) x → cross (Winsorize 0 MILLION) list a x ≡ x

-- a winsorized value lies from one value of the list to another, which is not below that
abbrev pub WinsorizedAreBetween : Type 0
WinsorizedAreBetween = (low high : ℕ) (vs : List ℤ) (x : ℤ) → low < high → high ≤ MILLION → 0 < length vs
    → (value_at vs (low * length vs / MILLION) ≤ℤ winsorized low high vs x)
    × (winsorized low high vs x ≤ℤ value_at vs ((high * length vs + MILLION - 1) / MILLION - 1))

-- the greatest of cells is the least of their negatives, negated
abbrev pub GreatestIsLeast : Type 0
GreatestIsLeast = (xs ys zs : List ℤ) → All IsCell xs → formula window.WindowMax xs ys zs ≡ neg (formula window.WindowMin (map neg xs) ys zs)

-- the latest value, the mean, the sum and the extremes
abbrev pub summaries : List WindowKind
summaries = window.Latest ∷ window.SimpleMovingAverage ∷ window.BollingerMiddle ∷ window.WindowSum ∷ window.WindowMax ∷ window.WindowMin ∷ []

-- over one session each of them is the cell itself
abbrev pub OneIsItself : Type 0
OneIsItself = (x : ℤ) (ys zs : List ℤ) → IsCell x → All (λ kind. formula kind (x ∷ []) ys zs ≡ x) summaries
