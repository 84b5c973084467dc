-- Adjustments with the revisions of a file.
use Rattle.std.specs.Prelude.{◌≡◌, ℕ, ℤ, List, ◌++◌, map, All, Result, Ok}
use Rattle.pl_spec.specs.declared.AdjustmentKind.TheVariants as kinds
use Rattle.pl_spec.specs.declared.AssetRow.{AssetRow}
use Rattle.pl_spec.specs.declared.Column.{Column}
use Rattle.pl_spec.specs.World.{Adjustment}
use Rattle.pl_spec.specs.World.Change.{Overwrite}
use Rattle.pl_spec.specs.Parts.{ColumnAdjustment}
use Rattle.pl_spec.specs.Window.{effects_in}
use Rattle.pl_records.specs.Reading.{Record, Fault, ◌>>=◌}
use Rattle.pl_lifetimes.specs.Assets.{HasSid}
use Rattle.pl_adjust.specs.declared.revisions.Revision.{Revision}
use Rattle.pl_adjust.specs.Revisions.{DataFault, revisions_of}
use Rattle.pl_adjust.specs.Columns.{by_place, events_at, in_column}

-- from the day on which it is known a revision overwrites the cell of its column in the bar of its day
abbrev pub revised : Revision → Adjustment
revised x = record { sid = x.sid; event = record { kind = kinds.Revision; day = x.known; change = Overwrite x.bar_day x.column x.value } }

abbrev pub revised_columns : List AssetRow → List Revision → List ColumnAdjustment
revised_columns assets rows = map (in_column assets) (map revised rows)

-- they are of assets
abbrev pub IsKnown : List AssetRow → ℕ → Type 0
IsKnown assets sid = (col : ℕ) × HasSid assets col sid

abbrev pub AreKnown : List AssetRow → List Revision → Type 0
AreKnown assets rows = All (λ x. IsKnown assets x.sid) rows

-- adjustments with revisions, by column and day and after what acts on their day already
abbrev pub revised_by : List AssetRow → List ColumnAdjustment → List Revision → List ColumnAdjustment
revised_by assets old rows = by_place (old ++ revised_columns assets rows)

-- with the revisions of the records of a file, or its first fault
unfoldable pub revised_in : List ℤ → List AssetRow → List ColumnAdjustment → List Record → Result (List ColumnAdjustment) (Fault DataFault)
revised_in days assets old records = revisions_of days assets records >>= λ rows. Ok (revised_by assets old rows)

-- Those of a column that come between two days do the same to each cell, the one after the other.
abbrev pub ChangeAlike : List ColumnAdjustment → List ColumnAdjustment → Type 0
ChangeAlike xs ys = (col : ℕ) (c : Column) (bar low high : ℤ)
    → effects_in c bar low high (events_at xs col) ≡ effects_in c bar low high (events_at ys col)
