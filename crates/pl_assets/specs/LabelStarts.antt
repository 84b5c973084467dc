-- The label of a record, by its sid and its day alone.
use Rattle.pl_records.specs.Reading.{Record, field}
use Rattle.pl_spec.specs.Parts.{ColumnLabel}
use Rattle.pl_spec.specs.World.{LabelRow}
use Rattle.pl_assets.specs.declared.labels.reading.SidStart.{SidStart}
use Rattle.pl_assets.specs.declared.labels.reading.ColumnStart.{ColumnStart}

abbrev pub label_from : Record → SidStart → LabelRow
label_from r s = record { name = field r 0; sid = s.sid; start = s.day; text = field r 3 }

abbrev pub row_from : Record → ColumnStart → ColumnLabel
row_from r s = record { name = field r 0; col = s.col; start = s.day; text = field r 3 }
