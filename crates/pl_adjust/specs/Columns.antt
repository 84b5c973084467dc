-- Adjustments with their columns.
use Rattle.std.specs.Prelude.{◌≡◌, ℕ, ◌<◌, ◌≤◌, nat_lt, nat_le, true, false, if◌then◌else◌, ◌==◌, ◌≤ℤ◌, List, [], ◌∷◌, map, filter, get_or, length, All, AllPairs}
use Rattle.std.specs.List.{position_or_len}
use Rattle.std.specs.List.Sorted.{IsPartitionPoint, IsPermutation, IsSorted, IsStable}
use Rattle.std.specs.Simd.Lanes.{zip2}
use Rattle.std.specs.declared.cmp.Ordering.{Ordering}
use Rattle.std.specs.Ordering.{is_lt, nat_cmp, int_cmp, ordering_then}
use Rattle.pl_spec.specs.declared.AssetRow.{AssetRow}
use Rattle.pl_spec.specs.World.{Adjustment, Event}
use Rattle.pl_spec.specs.Parts.{ColumnAdjustment}
use Rattle.pl_adjust.specs.declared.adjust.Adjust.{Adjust}
use Rattle.pl_adjust.specs.Events.{PutsCell, event_of}

-- the column of a sid: the place of its asset
abbrev pub col_in : List AssetRow → ℕ → ℕ
col_in assets sid = position_or_len (λ a. a.sid == sid) assets

abbrev pub in_column : List AssetRow → Adjustment → ColumnAdjustment
in_column assets x = record { col = col_in assets x.sid; event = x.event }

-- each adjustment with the column at its place
abbrev pub in_columns : List ℕ → List Adjust → List ColumnAdjustment
in_columns cols adjusts = zip2 (λ col x. record { col = col; event = event_of x }) cols adjusts

-- the events of a column
abbrev pub events_at : List ColumnAdjustment → ℕ → List Event
events_at xs col = map (λ x. x.event) (filter (λ x. x.col == col) xs)

-- those of a column are by day
abbrev pub AreByDay : List ColumnAdjustment → Type 0
AreByDay xs = (col : ℕ) → AllPairs (λ x y. x.event.day ≤ℤ y.event.day) (filter (λ x. x.col == col) xs)

-- first by column, and then by day
abbrev pub place_cmp : ColumnAdjustment → ColumnAdjustment → Ordering
place_cmp x y = ordering_then (nat_cmp x.col y.col) (int_cmp x.event.day y.event.day)

-- the same adjustments by column and day; what has one column and one day stands as it stood
pub record IsByPlace (xs ys : List ColumnAdjustment) : Type 0 where
  pub same : IsPermutation xs ys
  pub sorted : IsSorted place_cmp ys
  pub stable : IsStable place_cmp xs ys

-- x after those that stand before it
abbrev pub insert_at_place : ColumnAdjustment → List ColumnAdjustment → List ColumnAdjustment
insert_at_place x [] = x ∷ []
insert_at_place x (y ∷ ys) = if is_lt (place_cmp y x) then y ∷ insert_at_place x ys else x ∷ y ∷ ys

-- and that order of them
unfoldable pub by_place : List ColumnAdjustment → List ColumnAdjustment
by_place [] = []
by_place (x ∷ xs) = insert_at_place x (by_place xs)

-- columns and adjustments as they are kept
pub record AreKept (cols : List ℕ) (adjusts : List Adjust) : Type 0 where
  pub as_many : length adjusts ≡ length cols
  pub sorted : IsSorted place_cmp (in_columns cols adjusts)
  pub puts : All (λ x. PutsCell x.event) (in_columns cols adjusts)

-- the place of the first of the ascending columns that is not below col
abbrev pub IsStart : List ℕ → ℕ → ℕ → Type 0
IsStart cols col n = (n ≤ length cols) × IsPartitionPoint (λ x. nat_lt x col ≡ true) (λ x. nat_lt x col ≡ false) cols n

-- the place of the first one above col
abbrev pub IsEnd : List ℕ → ℕ → ℕ → Type 0
IsEnd cols col n = (n ≤ length cols) × IsPartitionPoint (λ x. nat_le x col ≡ true) (λ x. nat_le x col ≡ false) cols n

-- the starts of the columns 0, 1 and so on
abbrev pub AreStarts : List ℕ → List ℕ → Type 0
AreStarts cols starts = (k : ℕ) → k < length starts → IsStart cols k (get_or starts k 0)
