-- The rules of a payouts file in plain words.
use Rattle.std.specs.Prelude.{◌≡◌, ℕ, ◌^◌, ◌<◌, ◌≤◌, ℤ, pos, ◌≤ℤ◌, List, length}
use Rattle.std.specs.Fmt.{decimal}
use Rattle.pl_records.specs.Reading.{Record, Fault, field, AreRowsUnder, IsFaultUnder}
use Rattle.pl_records.specs.RuleTable.{IsFirstBroken, KeepsAll}
use Rattle.pl_spec.specs.Dates.{IsDate}
use Rattle.pl_spec.specs.Decimals.{Decimal, IsDecimal, IsReadAs}
use Rattle.pl_spec.specs.declared.AssetRow.{AssetRow}
use Rattle.pl_lifetimes.specs.Assets.{HasSid}
use Rattle.pl_payouts.specs.declared.reading.Dividend.{Dividend}
use Rattle.pl_payouts.specs.Payouts.{DataFault, BadHeader, TooMany, BadField, UnknownSid, NotPositive, rules, header}
use Rattle.pl_spec.specs.Limits.{most_payouts}

-- the text is a decimal that is read as the cell
abbrev pub IsAmountText : List ℕ → ℤ → Type 0
IsAmountText text v = (d : Decimal) × IsDecimal d text × IsReadAs d v

-- the record is the sid, without sign and leading zeros, the date of the ex day, and the text of the amount
pub record IsDividendRecord (r : Record) (d : Dividend) : Type 0 where
  pub three : length r ≡ 3
  pub small : d.sid < 2 ^ 32
  pub sid : field r 0 ≡ decimal d.sid
  pub ex : IsDate (field r 1) d.ex
  pub amount : IsAmountText (field r 2) d.amount

-- what it is to break each rule
abbrev pub Breaks : List AssetRow → List Dividend → Record → DataFault → Type 0
Breaks assets before r TooMany = most_payouts ≤ length before
Breaks assets before r BadField = (d : Dividend) → ¬ IsDividendRecord r d
Breaks assets before r UnknownSid =
    (d : Dividend) × IsDividendRecord r d × ((col : ℕ) → ¬ HasSid assets col d.sid)
Breaks assets before r NotPositive = (d : Dividend) × IsDividendRecord r d × (d.amount ≤ℤ pos 0)
Breaks assets before r fault = ⊥

-- the record is the next payout
abbrev pub IsDividend : List AssetRow → List Dividend → Record → Dividend → Type 0
IsDividend assets before r d = IsDividendRecord r d × KeepsAll rules (Breaks assets before r)

-- the payouts of the records after the header, in their order
abbrev pub ArePayoutsOf : List AssetRow → List Record → List Dividend → Type 0
ArePayoutsOf assets records rows = AreRowsUnder header (IsDividend assets) records rows

-- no header, or the first faulty record
abbrev pub IsPayoutsFault : List AssetRow → List Record → Fault DataFault → Type 0
IsPayoutsFault assets records fault =
    IsFaultUnder header BadHeader (IsDividend assets)
    (λ before r. IsFirstBroken rules (Breaks assets before r)) records fault
