-- The rules of a revisions file in plain words.
use Rattle.std.specs.Prelude.{◌≡◌, ℕ, ◌^◌, ◌<◌, ◌≤◌, ℤ, ◌≤ℤ◌, List, length, slice_get, Some, Any}
use Rattle.std.specs.Fmt.{decimal}
use Rattle.pl_records.specs.Reading.{Record, Fault, field, AreRowsUnder, IsFaultUnder}
use Rattle.pl_records.specs.RuleTable.{IsFirstBroken, KeepsAll}
use Rattle.pl_spec.specs.Dates.{IsDate}
use Rattle.pl_spec.specs.declared.AssetRow.{AssetRow}
use Rattle.pl_lifetimes.specs.Assets.{HasSid}
use Rattle.pl_bars.specs.Rules.{IsCellText, IsNegative}
use Rattle.pl_adjust.specs.declared.revisions.Revision.{Revision}
use Rattle.pl_spec.specs.Limits.{most_revisions}
use Rattle.pl_spec.specs.Names.{column_name}
use Rattle.pl_adjust.specs.Revisions.{DataFault, BadHeader, TooMany, BadField, NotSession, UnknownSid, Negative, TooSoon, Duplicate, rules, header}

-- the record is the sid, without sign and leading zeros, the date of the bar's day, the name of the column,
-- the text of the cell, and the date of the known day
pub record IsRevisionRecord (r : Record) (x : Revision) : Type 0 where
  pub five : length r ≡ 5
  pub small : x.sid < 2 ^ 32
  pub sid : field r 0 ≡ decimal x.sid
  pub session : IsDate (field r 1) x.bar_day
  pub column : field r 2 ≡ column_name x.column
  pub value : IsCellText (field r 3) x.value
  pub known : IsDate (field r 4) x.known

-- revisions of one cell that are known from one day on
pub record AreOfOne (x y : Revision) : Type 0 where
  pub sid : y.sid ≡ x.sid
  pub session : y.bar_day ≡ x.bar_day
  pub column : y.column ≡ x.column
  pub known : y.known ≡ x.known

-- what it is to break each rule
abbrev pub Breaks : List ℤ → List AssetRow → List Revision → Record → DataFault → Type 0
Breaks days assets before r TooMany = most_revisions ≤ length before
Breaks days assets before r BadField = (x : Revision) → ¬ IsRevisionRecord r x
Breaks days assets before r NotSession =
    (x : Revision) × IsRevisionRecord r x × ((session : ℕ) → ¬ (slice_get days session ≡ Some x.bar_day))
Breaks days assets before r UnknownSid =
    (x : Revision) × IsRevisionRecord r x × ((col : ℕ) → ¬ HasSid assets col x.sid)
Breaks days assets before r Negative = (x : Revision) × IsRevisionRecord r x × IsNegative x.value
Breaks days assets before r TooSoon = (x : Revision) × IsRevisionRecord r x × (x.known ≤ℤ x.bar_day)
Breaks days assets before r Duplicate = (x : Revision) × IsRevisionRecord r x × Any (AreOfOne x) before
Breaks days assets before r fault = ⊥

-- the record is the next revision
abbrev pub IsNext : List ℤ → List AssetRow → List Revision → Record → Revision → Type 0
IsNext days assets before r x = IsRevisionRecord r x × KeepsAll rules (Breaks days assets before r)

-- the revisions of the records after the header, in their order
abbrev pub AreRevisionsOf : List ℤ → List AssetRow → List Record → List Revision → Type 0
AreRevisionsOf days assets records rows = AreRowsUnder header (IsNext days assets) records rows

-- no header, or the first faulty record
abbrev pub IsRevisionsFault : List ℤ → List AssetRow → List Record → Fault DataFault → Type 0
IsRevisionsFault days assets records fault =
    IsFaultUnder header BadHeader (IsNext days assets)
    (λ before r. IsFirstBroken rules (Breaks days assets before r)) records fault
