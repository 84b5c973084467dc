-- What is seen of a bar from a later session, and windows of bars.
use Rattle.std.specs.Prelude.{ℕ, zero, suc, ◌+◌, Bool, ◌&&◌, if◌then◌else◌, ◌==◌, ℤ, pos, ◌-ℤ◌, List, [], ◌∷◌, map, filter, filter_map, fold, Option, Some, None, option_map, sum_by}
use Rattle.std.specs.List.{range_with_len}
use Rattle.std.specs.Int.RustNames.{int_lt, int_le}
use Rattle.std.specs.Ordering.{int_eq}
use Rattle.pl_spec.specs.declared.Column.{Column}
use Rattle.pl_spec.specs.declared.Column.TheVariants.{Volume}
use Rattle.pl_spec.specs.declared.AdjustmentKind.{AdjustmentKind}
use Rattle.pl_spec.specs.declared.AdjustmentKind.TheVariants.{Merger, Dividend}
use Rattle.pl_spec.specs.Rounding.{Fraction, inverse, scaled}
use Rattle.pl_spec.specs.World.{World, Event, Change, column_number, events_of, day_of, bar_cell}
use Rattle.pl_spec.specs.World.Change.{Overwrite}

-- what an event does to a cell: it multiplies it by a ratio, or puts another in its place
pub data Effect : Type 0 where
  Scale : Fraction → Effect
  Put : ℤ → Effect

-- what an adjustment multiplies a cell of the column by: prices by its ratio, and the volume by the inverse
-- of a split's; mergers and dividends leave the volume as it is
abbrev pub factor : Column → AdjustmentKind → Fraction → Option Fraction
factor Volume Merger ratio = None
factor Volume Dividend ratio = None
factor Volume kind ratio = Some (inverse ratio)
factor c kind ratio = Some ratio

abbrev pub same_column : Column → Column → Bool
same_column c k = column_number c == column_number k

-- what a change does to the cell of column c in the bar of a day
abbrev pub change_effect : Column → ℤ → AdjustmentKind → Change → Option Effect
change_effect c bar kind (Change.Scale ratio) = option_map Scale (factor c kind ratio)
change_effect c bar kind (Overwrite bar_day column value) = if int_eq bar_day bar && same_column column c then Some (Put value) else None

-- and what an event does to it; some events do nothing
abbrev pub effect : Column → ℤ → Event → Option Effect
effect c bar e = change_effect c bar e.kind e.change

-- the cell after the effect: a product is rounded once, and MISSING stays MISSING until it is overwritten
abbrev pub changed : ℤ → Effect → ℤ
changed x (Scale ratio) = scaled ratio x
changed x (Put value) = value

-- an event later than the day low and by the day high
abbrev pub is_between : ℤ → ℤ → Event → Bool
is_between low high e = int_lt low e.day && int_le e.day high

-- what the events later than the day low and by the day high do to the cell of column c in the bar of a day
abbrev pub effects_in : Column → ℤ → ℤ → ℤ → List Event → List Effect
effects_in c bar low high es = filter_map (effect c bar) (filter (is_between low high) es)

abbrev pub effects_from : Column → Option ℤ → Option ℤ → List Event → List Effect
effects_from c (Some bar) (Some day) es = effects_in c bar bar day es
effects_from c bar day es = []

-- what the events between bar session s and viewing session d do to the cell of column c in the bar
abbrev pub effects : World → ℕ → Column → ℤ → ℤ → List Effect
effects w a c s d = effects_from c (day_of w s) (day_of w d) (events_of w a)

-- a cell changed by effects, one after the other
abbrev pub after_all : ℤ → List Effect → ℤ
after_all x fs = fold changed x fs

-- the cell of the bar of session s, seen on session d
unfoldable pub seen_cell : World → ℕ → Column → ℤ → ℤ → ℤ
seen_cell w a c s d = after_all (bar_cell w a c s) (effects w a c s d)

-- n sessions before d
abbrev pub before : ℤ → ℕ → ℤ
before d n = d -ℤ pos n

-- the numbers below n, the greatest first
abbrev pub downward : ℕ → List ℕ
downward zero = []
downward (suc n) = n ∷ downward n

-- the bars of the size sessions before d, oldest first, each seen on d
abbrev pub bar_window : World → Column → ℕ → ℕ → ℤ → List ℤ
bar_window w c size a d = map (λ n. seen_cell w a c (before d (suc n)) d) (downward size)

-- the same bars as they stand in the file
abbrev pub raw_window : World → Column → ℕ → ℕ → ℤ → List ℤ
raw_window w c size a d = map (λ n. bar_cell w a c (before d (suc n))) (downward size)

-- each multiplication is a step; to overwrite is none
abbrev pub step_of : Effect → ℕ
step_of (Scale ratio) = 1
step_of (Put value) = 0

abbrev pub step_count : List Effect → ℕ
step_count fs = sum_by step_of fs

-- how many pairs of a ratio and a bar session there are for the column, from session first on, seen on
-- session first + rows
abbrev pub applied_steps : World → Column → ℕ → ℕ → List ℕ → ℕ
applied_steps w c first rows sids =
    sum_by (λ a. sum_by (λ s. step_count (effects w a c (pos s) (pos (first + rows)))) (range_with_len first rows)) sids
