-- Days as they are fed, one after the other, and the world that they make. A list of days has the latest in
-- front.
use Rattle.std.specs.Prelude.{◌≡◌, ℕ, ◌<◌, ℤ, pos, negsuc, ◌<ℤ◌, ◌≤ℤ◌, List, [], ◌∷◌, ◌++◌, length, map, find, All, AllPairs, Option, Some, None, slice_get, option_map, unwrap_or, ◌==◌}
use Rattle.pl_spec.specs.declared.AssetRow.{AssetRow}
use Rattle.pl_spec.specs.declared.BarRow.{BarRow}
use Rattle.pl_spec.specs.declared.Column.{Column}
use Rattle.pl_spec.specs.Dates.{IsDay}
use Rattle.pl_spec.specs.Rounding.{IsCell, MISSING}
use Rattle.pl_spec.specs.Parts.{ColumnLabel, ColumnAdjustment, ColumnNumber, world_of}
use Rattle.pl_spec.specs.Window.{downward}
use Rattle.pl_spec.specs.World.{World}
use Rattle.pl_bars.specs.Bars.{cell_of}
use Rattle.pl_adjust.specs.Events.{PutsCell}
use Rattle.pl_daily.specs.declared.day.DayBar.{DayBar}

-- what stands from the start
pub record Start : Type 0 where
  pub assets : List AssetRow
  pub labels : List ColumnLabel
  pub texts : List (List ℕ)
  pub numbers : List ColumnNumber

-- a day with the bars of the session before it, and the adjustments that are effective later than the day
-- before and by this one
pub record FedDay : Type 0 where
  pub day : ℤ
  pub bars : List DayBar
  pub events : List ColumnAdjustment

-- ---- the world

abbrev pub bar_row : ℕ → DayBar → BarRow
bar_row s b = record { col = b.col; session = s; cells = b.cells }

abbrev pub days_of : List FedDay → List ℤ
days_of [] = []
days_of (d ∷ earlier) = days_of earlier ++ d.day ∷ []

-- a day brings the bars of the session before it, and the first day none
abbrev pub bars_behind : List FedDay → List DayBar → List BarRow
bars_behind [] bars = []
bars_behind (d ∷ earlier) bars = map (bar_row (length earlier)) bars

abbrev pub bars_of : List FedDay → List BarRow
bars_of [] = []
bars_of (d ∷ earlier) = bars_of earlier ++ bars_behind earlier d.bars

abbrev pub adjustments_of : List FedDay → List ColumnAdjustment
adjustments_of [] = []
adjustments_of (d ∷ earlier) = adjustments_of earlier ++ d.events

-- the world of the days fed so far
unfoldable pub fed : Start → List FedDay → World
fed g days = world_of (days_of days) g.assets g.labels g.texts (bars_of days) (adjustments_of days) g.numbers

-- its last session
abbrev pub last_session : List FedDay → ℤ
last_session [] = negsuc 0
last_session (d ∷ earlier) = pos (length earlier)

abbrev pub last_day : List FedDay → Option ℤ
last_day [] = None
last_day (d ∷ earlier) = Some d.day

-- the day of the session that is so many before the last one
abbrev pub day_back : List FedDay → ℕ → Option ℤ
day_back days n = option_map (λ d. d.day) (slice_get days n)

-- the days of the last sessions, oldest first; there is none where the session would be below 0
abbrev pub day_window : List FedDay → ℕ → List (Option ℤ)
day_window days size = map (day_back days) (downward size)

-- ---- what a caller owes

abbrev pub IsLaterThan : Option ℤ → ℤ → Type 0
IsLaterThan None day = Unit {0}
IsLaterThan (Some last) day = last <ℤ day

-- what one day may bring after the earlier ones
pub record MayFollow (g : Start) (earlier : List FedDay) (d : FedDay) : Type 0 where
  pub is_day : IsDay d.day
  pub first_has_no_bars : earlier ≡ [] → d.bars ≡ []
  pub bars_ascend : AllPairs (λ b c. b.col < c.col) d.bars
  pub bars_in : All (λ b. b.col < length g.assets) d.bars
  pub cells : All (λ b. All IsCell b.cells) d.bars
  pub events_in : All (λ x. x.col < length g.assets) d.events
  pub put_cells : All (λ x. PutsCell x.event) d.events
  pub new : All (λ x. IsLaterThan (last_day earlier) x.event.day) d.events
  pub due : All (λ x. x.event.day ≤ℤ d.day) d.events
  pub by_day : AllPairs (λ x y. x.col ≡ y.col → x.event.day ≤ℤ y.event.day) d.events

-- The assets ascend, and the labels and numbers were made for them.
pub record IsStart (g : Start) : Type 0 where
  pub sids_ascend : AllPairs (λ a b. a.sid < b.sid) g.assets
  pub labels_in : All (λ r. r.col < length g.assets) g.labels
  pub numbers_in : All (λ r. r.col < length g.assets) g.numbers

-- the days ascend, and each may follow those before it
abbrev pub AreFed : Start → List FedDay → Type 0
AreFed g [] = Unit {0}
AreFed g (d ∷ earlier) = AreFed g earlier × IsLaterThan (last_day earlier) d.day × MayFollow g earlier d

-- ---- one day's part in the rings

-- the cell that a day brings for a column, missing where it brings no bar
unfoldable pub cell_brought : Column → List DayBar → ℕ → ℤ
cell_brought c bars col = unwrap_or (option_map (λ (b : DayBar). cell_of c (bar_row 0 b)) (find (λ b. b.col == col) bars)) MISSING
