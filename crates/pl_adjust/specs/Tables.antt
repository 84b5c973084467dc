-- The adjustments of three tables by column, or the first fault of their rows.
use Rattle.std.specs.Prelude.{List, ◌++◌, map, Option, Some, None, Result, Ok, Err}
use Rattle.pl_spec.specs.declared.AdjustmentKind.{AdjustmentKind}
use Rattle.pl_spec.specs.declared.AdjustmentKind.TheVariants.{Split, Merger, Dividend}
use Rattle.pl_spec.specs.declared.AssetRow.{AssetRow}
use Rattle.pl_spec.specs.declared.RawAdjust.{RawAdjust}
use Rattle.pl_spec.specs.Order.{of_table}
use Rattle.pl_spec.specs.Parts.{ColumnAdjustment}
use Rattle.pl_adjust.specs.Columns.{by_place, in_column}
use Rattle.pl_adjust.specs.Walk.{Fault, first_fault, walk}

-- the adjustments of a table's rows, each with its column
abbrev pub of_rows : List AssetRow → AdjustmentKind → List RawAdjust → List ColumnAdjustment
of_rows assets kind raw = map (in_column assets) (of_table assets kind raw)

-- those of all three tables, as they stand there
abbrev pub of_walk : List AssetRow → List RawAdjust → List RawAdjust → List RawAdjust → List ColumnAdjustment
of_walk assets splits mergers dividends =
    map (in_column assets)
    (of_table assets Split splits ++ of_table assets Merger mergers ++ of_table assets Dividend dividends)

-- the value, unless there is a fault
abbrev pub ok_unless : {A F : Type 0} → Option F → A → Result A F
ok_unless None x = Ok x
ok_unless (Some f) x = Err f

-- the adjustments of the tables by column and day, those of one column and day as they stand there, or the
-- first fault of a row
unfoldable pub adjustments_in : List AssetRow → List RawAdjust → List RawAdjust → List RawAdjust
    → Result (List ColumnAdjustment) Fault
adjustments_in assets splits mergers dividends =
    ok_unless (first_fault 0 (walk splits mergers dividends))
    (by_place (of_walk assets splits mergers dividends))
