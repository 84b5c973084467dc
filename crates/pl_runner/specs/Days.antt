-- The days of a world, as they are fed.
use Rattle.std.specs.Prelude.{◌≡◌, ℕ, zero, suc, ℤ, pos, List, [], ◌∷◌, length, map, filter, flat_map, get_or}
use Rattle.std.specs.List.{range_with_len}
use Rattle.pl_spec.specs.declared.BarRow.{BarRow}
use Rattle.pl_spec.specs.Parts.{ColumnAdjustment}
use Rattle.pl_spec.specs.World as worlds
use Rattle.pl_spec.specs.World.{Event}
use Rattle.pl_pipeline.specs.Table.{Pipeline}
use Rattle.pl_bars.specs.Bars.{cells_at}
use Rattle.pl_adjust.specs.Columns.{events_at}
use Rattle.pl_world.specs.declared.world.World.{World}
use Rattle.pl_daily.specs.declared.day.DayBar.{DayBar}
use Rattle.pl_daily.specs.Days.{Start, FedDay, fed}
use Rattle.pl_daily.specs.Terms.{start_of}
use Rattle.pl_daily.specs.Daily.{Held, HasBeenFed}
use Rattle.pl_runner.specs.Feeds.{day_before, is_due}

abbrev pub day_at : List ℤ → ℕ → ℤ
day_at days s = get_or days s (pos 0)

-- the bar of the asset in a column; its cells are missing where there is none
abbrev pub bar_at : List BarRow → ℕ → ℕ → DayBar
bar_at rows s col =
    record {
      col = col;
      cells = cells_at rows col s;
    }

-- a bar for each of the assets, of the session before
abbrev pub bars_due : List BarRow → ℕ → ℕ → List DayBar
bars_due rows assets zero = []
bars_due rows assets (suc s) = map (bar_at rows s) (range_with_len 0 assets)

abbrev pub in_col : ℕ → Event → ColumnAdjustment
in_col col e = record { col = col; event = e }

-- the adjustments of the asset in a column that come to be known on a session
abbrev pub col_due : List ℤ → List ColumnAdjustment → ℕ → ℕ → List Event
col_due days xs s col = filter (is_due (day_before days s) (day_at days s)) (events_at xs col)

-- those of all assets, column by column
abbrev pub events_due : List ℤ → List ColumnAdjustment → ℕ → ℕ → List ColumnAdjustment
events_due days xs assets s = flat_map (λ col. map (in_col col) (col_due days xs s col)) (range_with_len 0 assets)

-- the day of a session, and the days of the sessions below one
abbrev pub fed_day : World → ℕ → FedDay
fed_day w s =
    record {
      day = day_at w.sessions.now s;
      bars = bars_due w.bars.now (length w.assets.now) s;
      events = events_due w.sessions.now w.adjustments.now (length w.assets.now) s;
    }

abbrev pub fed_days : World → ℕ → List FedDay
fed_days w zero = []
fed_days w (suc s) = fed_day w s ∷ fed_days w s

abbrev pub start_of_world : World → Start
start_of_world w = start_of w.assets.now w.labels.now w.numbers.now.rows

-- the world of those days
abbrev pub fed_world : World → ℕ → worlds.World
fed_world w s = fed (start_of_world w) (fed_days w s)

-- the daily evaluation stands for the sessions below s
pub record IsFed (w : World) (p : Pipeline) (s : ℕ) (h : Held) : Type 0 where
  pub pipeline : h.pipeline ≡ p
  pub assets : h.assets ≡ w.assets.now
  pub labels : h.labels ≡ w.labels.now
  pub numbers : h.numbers ≡ w.numbers.now.rows
  pub count : h.fed ≡ s
  pub stands : HasBeenFed h (fed_days w s)
