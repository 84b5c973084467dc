-- What the rings hold: windows that end with the last day, in the world of the days that were fed. Sessions
-- below 0 have no bar and no asset, so a ring is full from the start on.
use Rattle.std.specs.Prelude.{ℕ, Bool, false, ℤ, List, [], ◌∷◌, length, filter, filter_map, Option, Some, None, is_some, nat_lt, if◌then◌else◌}
use Rattle.std.specs.Simd.Lanes.{zip2}
use Rattle.pl_spec.specs.declared.Column.{Column}
use Rattle.pl_spec.specs.declared.AdjustmentKind.{AdjustmentKind}
use Rattle.pl_spec.specs.Parts.{sid_at}
use Rattle.pl_spec.specs.Window.{Effect, after_all, bar_window, effect, factor}
use Rattle.pl_spec.specs.World.{Event, Change}
use Rattle.pl_spec.specs.World.Change.{Scale, Overwrite}
use Rattle.pl_adjust.specs.Events.{event_of}
use Rattle.pl_daily.specs.declared.day.DayEvent.{DayEvent}
use Rattle.pl_daily.specs.Days.{Start, FedDay, fed, last_session}

-- the cells of the last sessions before the last day, as they are seen on that day
abbrev pub bar_ring : Start → List FedDay → Column → ℕ → ℕ → List ℤ
bar_ring g days c size col = bar_window (fed g days) c size (sid_at g.assets col) (last_session days)

-- what a day's events do to the cell of a column in the bar of a session's day, where there is such a session
abbrev pub acting : Column → Option ℤ → List Event → List Effect
acting c None es = []
acting c (Some bar) es = filter_map (effect c bar) es

-- the cells of the sessions of these days, each changed by the events
abbrev pub changed_cells : Column → List Event → List (Option ℤ) → List ℤ → List ℤ
changed_cells c es days cells = zip2 (λ day cell. after_all cell (acting c day es)) days cells

-- days of which only the last ones were fed
abbrev pub known_days : ℕ → List ℤ → List (Option ℤ)
known_days fed [] = []
known_days fed (x ∷ xs) = (if nat_lt (length xs) fed then Some x else None) ∷ known_days fed xs

-- ---- steps

-- an event multiplies the cells of a column
abbrev pub scales_by : Column → AdjustmentKind → Change → Bool
scales_by c kind (Scale ratio) = is_some (factor c kind ratio)
scales_by c kind (Overwrite bar_day other value) = false

abbrev pub scales : Column → Event → Bool
scales c e = scales_by c e.kind e.change

-- the ratios among a day's events that have a factor for a column, over all assets
abbrev pub scaling : Column → List DayEvent → List DayEvent
scaling c es = filter (λ e. scales c (event_of e.adjust)) es
