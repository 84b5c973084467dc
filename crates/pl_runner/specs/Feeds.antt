-- The work of a world that is fed day by day.
use Rattle.std.specs.Prelude.{ℕ, zero, suc, ◌*◌, Bool, ℤ, pos, List, [], ◌∷◌, length, map, filter, min, sum_by, Option, Some, None, get_or}
use Rattle.std.specs.List.{range_with_len}
use Rattle.std.specs.Int.RustNames.{int_le}
use Rattle.pl_spec.specs.declared.Column.{Column}
use Rattle.pl_spec.specs.declared.Column.TheVariants.{OpenPrice, High, Low, Close, Volume}
use Rattle.pl_spec.specs.Window.{is_between}
use Rattle.pl_spec.specs.World.{World, Event, events_of}
use Rattle.pl_pipeline.specs.Table.{Pipeline}
use Rattle.pl_daily.specs.Rings.{scales}
use Rattle.pl_daily.specs.Capacities.{column_window}

-- the day of the session before one; the first session has none before it
abbrev pub day_before : List ℤ → ℕ → Option ℤ
day_before days zero = None
day_before days (suc s) = Some (get_or days s (pos 0))

-- effective by the day, and later than another, where there is one
abbrev pub is_due : Option ℤ → ℤ → Event → Bool
is_due None day e = int_le e.day day
is_due (Some last) day e = is_between last day e

-- the events of an asset that come to be known on a session
abbrev pub due_events : World → ℕ → ℕ → List Event
due_events w s a = filter (is_due (day_before w.days s) (get_or w.days s (pos 0))) (events_of w a)

-- the ratios among them that have a factor for the column, over all assets
abbrev pub ratios_due : World → Column → ℕ → ℕ
ratios_due w c s = sum_by (λ a. length (filter (scales c) (due_events w s a))) (map (λ a. a.sid) w.assets)

-- each changes the bars of earlier sessions, as many as the column's greatest window has
abbrev pub session_work : World → Pipeline → ℕ → ℕ
session_work w p s = sum_by (λ c. ratios_due w c s * min (column_window p c) s) (OpenPrice ∷ High ∷ Low ∷ Close ∷ Volume ∷ [])

-- the steps of the sessions up to one
unfoldable pub daily_steps : World → Pipeline → ℕ → ℕ
daily_steps w p to = sum_by (session_work w p) (range_with_len 0 (suc to))
