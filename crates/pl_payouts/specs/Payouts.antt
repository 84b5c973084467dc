-- The payouts of the records of a payouts file, and the first rule that a record breaks.
use Rattle.std.specs.Prelude.{ℕ, ◌==◌, ◌≤◌, nat_le, not, Bool, false, if◌then◌else◌, ℤ, pos, ◌<ℤ◌, codes, List, [], ◌∷◌, length, All, Option, None, option_map, option_and_then, Result}
use Rattle.std.specs.Result.{result_ok}
use Rattle.std.specs.Int.RustNames.{int_lt}
use Rattle.std.specs.Option.{ok_or}
use Rattle.pl_records.specs.Reading.{Record, Fault, field, rows_under}
use Rattle.pl_records.specs.RuleTable.{first_broken, lacks, has}
use Rattle.pl_spec.specs.Rounding.{IsCell}
use Rattle.pl_spec.specs.Dates.{IsDay, date_in}
use Rattle.pl_spec.specs.Decimals.{sid_in}
use Rattle.pl_spec.specs.declared.AssetRow.{AssetRow}
use Rattle.pl_fixed.specs.Reading.{read}
use Rattle.pl_lifetimes.specs.Assets.{col_in}
use Rattle.pl_payouts.specs.declared.Payout.{Payout}
use Rattle.pl_payouts.specs.declared.reading.Dividend.{Dividend}
use Rattle.pl_spec.specs.Limits.{most_payouts}
use Rattle.pl_adjust.specs.Revised.{IsKnown}
pub use Rattle.pl_records.specs.declared.fault.DataFault.{DataFault}
pub use Rattle.pl_records.specs.declared.fault.DataFault.TheVariants.{BadHeader, TooMany, BadField, UnknownSid, NotPositive}

abbrev pub header : Record
header = codes "sid" ∷ codes "ex" ∷ codes "amount" ∷ []

-- the cell of a field, which may not be empty
abbrev pub amount_in : List ℕ → Option ℤ
amount_in text = result_ok (read text)

-- the sid, the ex day and the amount of a record of three fields
unfoldable pub dividend_in : Record → Option Dividend
dividend_in r =
    if length r == 3 then
    option_and_then (λ sid. option_and_then (λ ex. option_map (λ amount. record { sid = sid; ex = ex; amount = amount })
    (amount_in (field r 2))) (date_in (field r 1))) (sid_in (field r 0))
    else None

abbrev pub is_above_0 : ℤ → Bool
is_above_0 v = int_lt (pos 0) v

-- the rules of a record after the header, in the order in which they are tested, and their tests
abbrev pub rules : List DataFault
rules = TooMany ∷ BadField ∷ UnknownSid ∷ NotPositive ∷ []

abbrev pub breaks : List AssetRow → List Dividend → Record → DataFault → Bool
breaks assets before r TooMany = nat_le most_payouts (length before)
breaks assets before r BadField = lacks (dividend_in r)
breaks assets before r UnknownSid = has (λ d. lacks (col_in assets d.sid)) (dividend_in r)
breaks assets before r NotPositive = has (λ d. not (is_above_0 d.amount)) (dividend_in r)
breaks assets before r fault = false

-- the payout of a record after the payouts before it, or the first rule that it breaks
unfoldable pub dividend_or_rule : List AssetRow → List Dividend → Record → Result Dividend DataFault
dividend_or_rule assets before r = first_broken rules (breaks assets before r) (ok_or (dividend_in r) BadField)

-- the payouts of a file in its order, or its first fault
unfoldable pub payouts_of : List AssetRow → List Record → Result (List Dividend) (Fault DataFault)
payouts_of assets records = rows_under header BadHeader (dividend_or_rule assets) records

-- ---- payouts as they are kept

-- a dividend with its number
abbrev pub numbered : ℕ → Dividend → Payout
numbered n d = record { number = n; sid = d.sid; ex = d.ex; amount = d.amount }

-- of the years 1900 to 2199, and of an amount above 0
pub record IsPaid (ex amount : ℤ) : Type 0 where
  pub date : IsDay ex
  pub above : pos 0 <ℤ amount
  pub cell : IsCell amount

abbrev pub IsPayout : Payout → Type 0
IsPayout p = IsPaid p.ex p.amount

pub record ArePayouts (rows : List Dividend) : Type 0 where
  pub few : length rows ≤ most_payouts
  pub paid : All (λ d. IsPaid d.ex d.amount) rows

abbrev pub AreKnown : List AssetRow → List Dividend → Type 0
AreKnown assets rows = All (λ d. IsKnown assets d.sid) rows
