-- The rules of a bars file in plain words.
use Rattle.std.specs.Prelude.{◌≡◌, ◌≢◌, ◌⊎◌, ℕ, ◌+◌, ◌^◌, ◌<◌, ◌≤◌, IsTrue, ℤ, pos, ◌<ℤ◌, List, [], length, Some, slice_get, Any, AllPairs, IsPermutation}
use Rattle.std.specs.Fmt.{decimal}
use Rattle.pl_records.specs.Reading.{Record, Fault, field, AreRowsUnder, IsFaultUnder}
use Rattle.pl_records.specs.RuleTable.{IsFirstBroken, KeepsAll}
use Rattle.pl_spec.specs.Rounding.{MISSING}
use Rattle.pl_spec.specs.Dates.{IsDate}
use Rattle.pl_spec.specs.Decimals.{Decimal, IsDecimal, IsReadAs}
use Rattle.pl_spec.specs.declared.AssetRow.{AssetRow}
use Rattle.pl_spec.specs.declared.BarRow.{BarRow}
use Rattle.pl_lifetimes.specs.Assets.{HasSid}
use Rattle.pl_bars.specs.declared.fields.Fields.{Fields}
use Rattle.pl_bars.specs.Bars.{DataFault, BadHeader, TooMany, BadField, NotSession, UnknownSid, Negative, Duplicate, rules, header, is_before}
use Rattle.pl_spec.specs.Limits.{most_bars}

-- the text is empty and the cell missing, or it is a decimal that is read as the cell
abbrev pub IsCellText : List ℕ → ℤ → Type 0
IsCellText text v = ((text ≡ []) × (v ≡ MISSING)) ⊎ ((d : Decimal) × IsDecimal d text × IsReadAs d v)

-- the record is the sid, without sign and leading zeros, the date of the day, and the texts of five cells
pub record IsBarRecord (r : Record) (f : Fields) : Type 0 where
  pub seven : length r ≡ 7
  pub small : f.sid < 2 ^ 32
  pub sid : field r 0 ≡ decimal f.sid
  pub day : IsDate (field r 1) f.day
  pub five : length f.cells ≡ 5
  pub cells : (k : ℕ) (v : ℤ) → slice_get f.cells k ≡ Some v → IsCellText (field r (k + 2)) v

-- a cell below 0
abbrev pub IsNegative : ℤ → Type 0
IsNegative v = (v ≢ MISSING) × (v <ℤ pos 0)

-- the session has the day, and the column's asset has the sid
pub record IsPlaced (days : List ℤ) (assets : List AssetRow) (f : Fields) (col session : ℕ) : Type 0 where
  pub day : slice_get days session ≡ Some f.day
  pub sid : HasSid assets col f.sid

-- the record is the bar, which is in the column of its asset on the session of its day
pub record IsRowRecord (days : List ℤ) (assets : List AssetRow) (r : Record) (b : BarRow) : Type 0 where
  pub fields : Fields
  pub written : IsBarRecord r fields
  pub placed : IsPlaced days assets fields b.col b.session
  pub cells : b.cells ≡ fields.cells

-- what it is to break each rule
abbrev pub Breaks : List ℤ → List AssetRow → List BarRow → Record → DataFault → Type 0
Breaks days assets before r TooMany = most_bars ≤ length before
Breaks days assets before r BadField = (f : Fields) → ¬ IsBarRecord r f
Breaks days assets before r NotSession = (f : Fields) × IsBarRecord r f × ((session : ℕ) → ¬ (slice_get days session ≡ Some f.day))
Breaks days assets before r UnknownSid = (f : Fields) × IsBarRecord r f × ((col : ℕ) → ¬ HasSid assets col f.sid)
Breaks days assets before r Negative = (f : Fields) × IsBarRecord r f × Any IsNegative f.cells
Breaks days assets before r Duplicate =
    (b : BarRow) × IsRowRecord days assets r b × Any (λ x. (x.col ≡ b.col) × (x.session ≡ b.session)) before
Breaks days assets before r fault = ⊥

-- the record is the next bar
abbrev pub IsBar : List ℤ → List AssetRow → List BarRow → Record → BarRow → Type 0
IsBar days assets before r b = IsRowRecord days assets r b × KeepsAll rules (Breaks days assets before r)

-- the bars of the records after the header, by column and session
pub record AreBarsOf (days : List ℤ) (assets : List AssetRow) (records : List Record) (bars : List BarRow) : Type 0 where
  pub rows : List BarRow
  pub read : AreRowsUnder header (IsBar days assets) records rows
  pub same : IsPermutation rows bars
  pub ascend : AllPairs (λ a b. IsTrue (is_before b.col b.session a)) bars

-- no header, or the first faulty record
abbrev pub IsBarsFault : List ℤ → List AssetRow → List Record → Fault DataFault → Type 0
IsBarsFault days assets records fault =
    IsFaultUnder header BadHeader (IsBar days assets) (λ before r. IsFirstBroken rules (Breaks days assets before r)) records fault
