-- The laws of what is known by a session.
use Rattle.std.specs.Prelude.{◌≡◌, ℕ, ℤ, pos, ◌≤ℤ◌, List, Some, slice_get}
use Rattle.pl_spec.specs.declared.AssetRow.{AssetRow}
use Rattle.pl_spec.specs.declared.BarRow.{BarRow}
use Rattle.pl_spec.specs.World.{World, IsWorld}
use Rattle.pl_spec.specs.Parts.{ColumnLabel, ColumnAdjustment, ColumnNumber, world_of, AreFor}
use Rattle.pl_spec.specs.Agree.{Agree}
use Rattle.pl_spec.specs.AsOf.{as_of, sessions_to, labels_by, bars_before, adjustments_by, column_numbers_by}
use Rattle.pl_pipeline.specs.Table.{Pipeline, table}

-- the world as of a session is a world, and agrees with the whole up to the session
abbrev pub AsOfAgrees : Type 0
AsOfAgrees = (w : World) (d : ℕ) (day : ℤ) → IsWorld w → slice_get w.days d ≡ Some day → IsWorld (as_of w d day) × Agree (as_of w d day) w (pos d) day

-- so it has the rows of the whole
abbrev pub TablesAsOf : Type 0
TablesAsOf = (w : World) (d : ℕ) (day : ℤ) → IsWorld w → slice_get w.days d ≡ Some day
    → (p : Pipeline) (from to : ℕ) → pos to ≤ℤ pos d → table (as_of w d day) p from to ≡ table w p from to

-- the parts that are known by a session are those of the world as of it, and are made for its sessions and
-- assets
pub record PartsOf (days : List ℤ) (assets : List AssetRow) (labels : List ColumnLabel)
    (texts : List (List ℕ)) (bars : List BarRow) (adjustments : List ColumnAdjustment)
    (numbers : List ColumnNumber) (d : ℕ) (day : ℤ) : Type 0 where
  pub world : world_of (sessions_to d days) assets (labels_by day labels) texts (bars_before d bars)
      (adjustments_by day adjustments) (column_numbers_by day numbers)
      ≡ as_of (world_of days assets labels texts bars adjustments numbers) d day
  pub parts : AreFor days assets labels bars adjustments numbers → slice_get days d ≡ Some day
      → AreFor (sessions_to d days) assets (labels_by day labels) (bars_before d bars)
      (adjustments_by day adjustments) (column_numbers_by day numbers)

abbrev pub PartsAsOf : Type 0
PartsAsOf = (days : List ℤ) (assets : List AssetRow) (labels : List ColumnLabel) (texts : List (List ℕ))
    (bars : List BarRow) (adjustments : List ColumnAdjustment) (numbers : List ColumnNumber) (d : ℕ) (day : ℤ)
    → PartsOf days assets labels texts bars adjustments numbers d day
