-- What a daily evaluation holds, and for which lists of days it stands.
use Rattle.std.specs.Prelude.{◌≡◌, ℕ, ◌<◌, ◌*◌, Bool, true, ℤ, pos, List, [], ◌∷◌, length, map, min, sum_by, Option, Some, None, slice_get, if◌then◌else◌, ◌==◌}
use Rattle.std.specs.Int.RustNames.{int_le}
use Rattle.pl_spec.specs.declared.AssetRow.{AssetRow}
use Rattle.pl_spec.specs.declared.Column.{Column}
use Rattle.pl_spec.specs.declared.Column.TheVariants.{OpenPrice, High, Low, Close, Volume}
use Rattle.pl_pipeline.specs.Lows.{least_reach}
use Rattle.pl_spec.specs.Parts.{ColumnNumber, sid_at}
use Rattle.pl_pipeline.specs.Table.{Pipeline, kept_sids}
use Rattle.pl_spec.specs.World.{World}
use Rattle.pl_assets.specs.Labels.{LabelTable}
use Rattle.pl_terms.specs.Uses.{is_used, outputs}
use Rattle.pl_daily.specs.declared.columns.BarRings.{BarRings}
use Rattle.pl_daily.specs.declared.day.Day.{Day}
use Rattle.pl_daily.specs.declared.day.DayEvent.{DayEvent}
use Rattle.pl_daily.specs.Changes.{column_event}
use Rattle.pl_daily.specs.Columns.{HoldColumns}
use Rattle.pl_daily.specs.Days.{Start, FedDay, fed, days_of, last_session, last_day, IsStart, AreFed}
use Rattle.pl_daily.specs.Rings.{scaling}
use Rattle.pl_daily.specs.declared.term_day.TermCells.{TermCells}
use Rattle.pl_daily.specs.Held.{HoldsTerm}
use Rattle.pl_daily.specs.Capacities.{column_window}
use Rattle.pl_daily.specs.Reaches.{AreFirst}
use Rattle.pl_daily.specs.Terms.{start_of, HoldStarts}
use Rattle.pl_daily.specs.declared.starts.StartCells.{StartCells}

-- a pipeline, assets, labels and numbers, how many days were fed and the last of them, whether it had values, the
-- columns of the assets that it keeps, and what is held of bars and terms
pub record Held : Type 0 where
  pub pipeline : Pipeline
  pub assets : List AssetRow
  pub labels : LabelTable
  pub numbers : List ColumnNumber
  pub fed : ℕ
  pub last : ℤ
  pub answered : Bool
  pub kept : List ℕ
  pub bars : BarRings
  pub terms : List TermCells
  pub starts : List StartCells
  pub since : List (Option ℕ)

-- the assets, labels and numbers that stand from the start
abbrev pub start_in : Held → Start
start_in h = start_of h.assets h.labels h.numbers

-- the world of the days that were fed
abbrev pub world_in : Held → List FedDay → World
world_in h days = fed (start_in h) days

-- the last day that was fed, where one was
abbrev pub last_of : Held → Option ℤ
last_of h = if h.fed == 0 then None else Some h.last

-- a day as it was handed in
abbrev pub handed : Day → FedDay
handed d = record { day = d.day; bars = d.bars.now; events = map column_event d.events.now }

-- It stands for a list of days: the days may follow one another, their number and the last one are its own,
-- the rings of bars and terms hold the cells of their last sessions, each downsampled term those of the first
-- session of the period, and for each used term the first session is known at which it reaches back to no
-- session below 0. It has values exactly where the outputs reach back to no session below 0 on the last day,
-- and then it keeps the assets that the screen keeps on that day.
pub record HasBeenFed (h : Held) (days : List FedDay) : Type 0 where
  pub start : IsStart (start_in h)
  pub are_fed : AreFed (start_in h) days
  pub fed : h.fed ≡ length days
  pub last : last_of h ≡ last_day days
  pub bars : HoldColumns (start_in h) days h.bars
  pub terms : (u : ℕ) (t : TermCells) → is_used h.pipeline u ≡ true → slice_get h.terms u ≡ Some t → HoldsTerm (start_in h) days h.pipeline u t
  pub starts : HoldStarts (start_in h) days h.pipeline h.starts
  pub since : AreFirst (days_of days) h.pipeline h.since
  pub answered : 0 < h.fed → h.answered ≡ int_le (pos 0) (least_reach (days_of days) h.pipeline.graph (outputs h.pipeline) (last_session days))
  pub kept : h.answered ≡ true → map (sid_at h.assets) h.kept ≡ kept_sids (world_in h days) h.pipeline (last_session days)

-- ---- steps

-- one step for each ratio of a day that has a factor for the column, and each bar of its ring
abbrev pub column_work : Pipeline → ℕ → List DayEvent → Column → ℕ
column_work p fed es c = length (scaling c es) * min (column_window p c) fed

abbrev pub day_work : Pipeline → ℕ → List DayEvent → ℕ
day_work p fed es = sum_by (column_work p fed es) (OpenPrice ∷ High ∷ Low ∷ Close ∷ Volume ∷ [])
