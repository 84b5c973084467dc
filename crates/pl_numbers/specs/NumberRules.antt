-- The rules of a numbers file in plain words.
use Rattle.std.specs.Prelude.{◌≡◌, ℕ, ◌^◌, ◌<◌, ◌≤◌, IsTrue, List, length, Any}
use Rattle.std.specs.Fmt.{decimal}
use Rattle.pl_records.specs.Reading.{Record, Fault, field, IsMadeUnder, IsFaultUnder}
use Rattle.pl_records.specs.RuleTable.{IsFirstBroken, KeepsAll}
use Rattle.pl_spec.specs.Dates.{IsDate}
use Rattle.pl_spec.specs.Limits.{most_numbers}
use Rattle.pl_spec.specs.Names.{is_name}
use Rattle.pl_spec.specs.Numbers.{NumberRow}
use Rattle.pl_spec.specs.declared.AssetRow.{AssetRow}
use Rattle.pl_lifetimes.specs.Assets.{HasSid, IsPlaced}
use Rattle.pl_bars.specs.Rules.{IsCellText}
use Rattle.pl_spec.specs.Parts.{ColumnNumber}
use Rattle.pl_numbers.specs.Numbers.{DataFault, BadHeader, TooMany, BadField, UnknownSid, Duplicate, NumberTable, rules, header, in_column, table_of}

-- the record is the name, the sid, without sign and leading zeros, the date from which the number counts and
-- the text of its cell
pub record IsNumberRecord (r : Record) (n : NumberRow) : Type 0 where
  pub four : length r ≡ 4
  pub name : field r 0 ≡ n.name
  pub right_name : IsTrue (is_name n.name)
  pub small : n.sid < 2 ^ 32
  pub sid : field r 1 ≡ decimal n.sid
  pub known : IsDate (field r 2) n.known
  pub value : IsCellText (field r 3) n.value

-- the record is the number of the row, which is in the column of its asset
abbrev pub IsRowRecord : List AssetRow → Record → ColumnNumber → Type 0
IsRowRecord assets r row = IsPlaced IsNumberRecord (λ n. n.sid) in_column assets r row

-- the rows are numbers of one name and one column, from one day on
abbrev pub CountWith : ColumnNumber → ColumnNumber → Type 0
CountWith row x = (x.name ≡ row.name) × (x.col ≡ row.col) × (x.known ≡ row.known)

-- what it is to break each rule
abbrev pub Breaks : List AssetRow → List ColumnNumber → Record → DataFault → Type 0
Breaks assets before r TooMany = most_numbers ≤ length before
Breaks assets before r BadField = (n : NumberRow) → ¬ IsNumberRecord r n
Breaks assets before r UnknownSid = (n : NumberRow) × IsNumberRecord r n × ((col : ℕ) → ¬ HasSid assets col n.sid)
Breaks assets before r Duplicate = (row : ColumnNumber) × IsRowRecord assets r row × Any (CountWith row) before
Breaks assets before r fault = ⊥

-- the record is the next row
abbrev pub IsNumber : List AssetRow → List ColumnNumber → Record → ColumnNumber → Type 0
IsNumber assets before r row = IsRowRecord assets r row × KeepsAll rules (Breaks assets before r)

-- the rows of the records after the header, by name, column and day, and their names
abbrev pub AreNumbersOf : List AssetRow → List Record → NumberTable → Type 0
AreNumbersOf assets records table = IsMadeUnder header (IsNumber assets) table_of records table

-- no header, or the first faulty record
abbrev pub IsNumbersFault : List AssetRow → List Record → Fault DataFault → Type 0
IsNumbersFault assets records fault =
    IsFaultUnder header BadHeader (IsNumber assets) (λ before r. IsFirstBroken rules (Breaks assets before r)) records fault
