-- The rules of a labels file in plain words.
use Rattle.std.specs.Prelude.{◌≡◌, ℕ, ◌^◌, ◌<◌, ◌≤◌, IsTrue, List, length, All, Any}
use Rattle.std.specs.Fmt.{decimal}
use Rattle.pl_records.specs.Reading.{Record, Fault, field, IsMadeUnder, IsFaultUnder}
use Rattle.pl_records.specs.RuleTable.{IsFirstBroken, KeepsAll}
use Rattle.pl_spec.specs.Dates.{IsDate}
use Rattle.pl_spec.specs.Names.{is_name}
use Rattle.pl_spec.specs.Parts.{ColumnLabel}
use Rattle.pl_spec.specs.World.{LabelRow}
use Rattle.pl_spec.specs.declared.AssetRow.{AssetRow}
use Rattle.pl_lifetimes.specs.Assets.{HasSid, IsPlaced}
use Rattle.pl_assets.specs.Labels.{DataFault, BadHeader, TooMany, BadField, LabelTooLong, UnknownSid, DuplicateStart, LabelTable, rules, header, in_column, table_of}
use Rattle.pl_spec.specs.Limits.{most_labels, most_label_bytes}

-- the record is the name, the sid, without sign and leading zeros, the date of the start and the text of the
-- label, which has no bytes but the printable ones of ASCII
pub record IsLabelRecord (r : Record) (l : LabelRow) : Type 0 where
  pub four : length r ≡ 4
  pub name : field r 0 ≡ l.name
  pub right_name : IsTrue (is_name l.name)
  pub small : l.sid < 2 ^ 32
  pub sid : field r 1 ≡ decimal l.sid
  pub start : IsDate (field r 2) l.start
  pub text : field r 3 ≡ l.text
  pub printable : All (λ b. (32 ≤ b) × (b ≤ 126)) l.text

-- the record is the label of the row, which is in the column of its asset
abbrev pub IsRowRecord : List AssetRow → Record → ColumnLabel → Type 0
IsRowRecord assets r row = IsPlaced IsLabelRecord (λ l. l.sid) in_column assets r row

-- the rows are labels of one name and one column, from one day on
abbrev pub StartWith : ColumnLabel → ColumnLabel → Type 0
StartWith row x = (x.name ≡ row.name) × (x.col ≡ row.col) × (x.start ≡ row.start)

-- what it is to break each rule
abbrev pub Breaks : List AssetRow → List ColumnLabel → Record → DataFault → Type 0
Breaks assets before r TooMany = most_labels ≤ length before
Breaks assets before r BadField = (l : LabelRow) → ¬ IsLabelRecord r l
Breaks assets before r LabelTooLong = (l : LabelRow) × IsLabelRecord r l × (most_label_bytes < length l.text)
Breaks assets before r UnknownSid = (l : LabelRow) × IsLabelRecord r l × ((col : ℕ) → ¬ HasSid assets col l.sid)
Breaks assets before r DuplicateStart = (row : ColumnLabel) × IsRowRecord assets r row × Any (StartWith row) before
Breaks assets before r fault = ⊥

-- the record is the next row
abbrev pub IsLabel : List AssetRow → List ColumnLabel → Record → ColumnLabel → Type 0
IsLabel assets before r row = IsRowRecord assets r row × KeepsAll rules (Breaks assets before r)

-- the rows of the records after the header, and their texts
abbrev pub AreLabelsOf : List AssetRow → List Record → LabelTable → Type 0
AreLabelsOf assets records table = IsMadeUnder header (IsLabel assets) table_of records table

-- no header, or the first faulty record
abbrev pub IsLabelsFault : List AssetRow → List Record → Fault DataFault → Type 0
IsLabelsFault assets records fault =
    IsFaultUnder header BadHeader (IsLabel assets) (λ before r. IsFirstBroken rules (Breaks assets before r)) records fault
