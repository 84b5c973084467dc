-- The revisions of the records of a revisions file, and the first rule that a record breaks.
use Rattle.std.specs.Prelude.{ℕ, ◌==◌, ◌≤◌, ◌&&◌, nat_le, Bool, false, if◌then◌else◌, ℤ, ◌<ℤ◌, codes, List, [], ◌∷◌, length, All, Contains, IsTrue, Option, None, option_map, option_and_then, Result}
use Rattle.std.specs.List.{list_any}
use Rattle.std.specs.Int.RustNames.{int_le}
use Rattle.std.specs.Ordering.{int_eq}
use Rattle.std.specs.Option.{ok_or}
use Rattle.pl_records.specs.Reading.{Record, Fault, field, rows_under}
use Rattle.pl_records.specs.RuleTable.{first_broken, lacks, has}
use Rattle.pl_spec.specs.Dates.{IsDay, date_in}
use Rattle.pl_spec.specs.Decimals.{sid_in}
use Rattle.pl_spec.specs.Window.{same_column}
use Rattle.pl_spec.specs.declared.AssetRow.{AssetRow}
use Rattle.pl_lifetimes.specs.Assets.{HasSid, col_in}
use Rattle.pl_bars.specs.Bars.{cell_in, is_bar_cell, is_negative, session_in}
use Rattle.pl_bars.specs.ColumnNames.{column_in}
use Rattle.pl_adjust.specs.declared.revisions.Revision.{Revision}
use Rattle.pl_spec.specs.Limits.{most_revisions}
pub use Rattle.pl_records.specs.declared.fault.DataFault.{DataFault}
pub use Rattle.pl_records.specs.declared.fault.DataFault.TheVariants.{BadHeader, TooMany, BadField, NotSession, UnknownSid, Negative, TooSoon, Duplicate}

abbrev pub header : Record
header = codes "sid" ∷ codes "session" ∷ codes "column" ∷ codes "value" ∷ codes "known" ∷ []

-- the revision of a record of five fields: a sid, the bar's day, a column, a cell and the known day
unfoldable pub revision_in : Record → Option Revision
revision_in r =
    if length r == 5 then
    option_and_then (λ sid. option_and_then (λ bar_day. option_and_then (λ column. option_and_then (λ value. option_map (λ known.
    record { sid = sid; bar_day = bar_day; column = column; value = value; known = known })
    (date_in (field r 4))) (cell_in (field r 3))) (column_in (field r 2))) (date_in (field r 1))) (sid_in (field r 0))
    else None

-- it is known on the day of its bar already
abbrev pub is_soon : Revision → Bool
is_soon x = int_le x.known x.bar_day

-- revisions of one cell that are known from one day on
abbrev pub is_same : Revision → Revision → Bool
is_same x y = ((y.sid == x.sid && int_eq y.bar_day x.bar_day) && same_column y.column x.column) && int_eq y.known x.known

-- the rules of a record after the header, in the order in which they are tested, and their tests
abbrev pub rules : List DataFault
rules = TooMany ∷ BadField ∷ NotSession ∷ UnknownSid ∷ Negative ∷ TooSoon ∷ Duplicate ∷ []

abbrev pub breaks : List ℤ → List AssetRow → List Revision → Record → DataFault → Bool
breaks days assets before r TooMany = nat_le most_revisions (length before)
breaks days assets before r BadField = lacks (revision_in r)
breaks days assets before r NotSession = has (λ x. lacks (session_in days x.bar_day)) (revision_in r)
breaks days assets before r UnknownSid = has (λ x. lacks (col_in assets x.sid)) (revision_in r)
breaks days assets before r Negative = has (λ x. is_negative x.value) (revision_in r)
breaks days assets before r TooSoon = has is_soon (revision_in r)
breaks days assets before r Duplicate = has (λ x. list_any (is_same x) before) (revision_in r)
breaks days assets before r fault = false

-- the revision of a record after the revisions before it, or the first rule that it breaks
unfoldable pub revision_or_rule : List ℤ → List AssetRow → List Revision → Record → Result Revision DataFault
revision_or_rule days assets before r = first_broken rules (breaks days assets before r) (ok_or (revision_in r) BadField)

-- the revisions of a file in its order, or its first fault
unfoldable pub revisions_of : List ℤ → List AssetRow → List Record → Result (List Revision) (Fault DataFault)
revisions_of days assets records = rows_under header BadHeader (revision_or_rule days assets) records

-- ---- revisions as they are kept

-- of an asset's bar on a session, known on a later day of the years 1900 to 2199; the value is missing or a
-- cell of at least 0
pub record IsRevision (days : List ℤ) (assets : List AssetRow) (x : Revision) : Type 0 where
  pub asset : (col : ℕ) × HasSid assets col x.sid
  pub session : Contains days x.bar_day
  pub later : x.bar_day <ℤ x.known
  pub date : IsDay x.known
  pub cell : IsTrue (is_bar_cell x.value)

pub record AreRevisions (days : List ℤ) (assets : List AssetRow) (rows : List Revision) : Type 0 where
  pub few : length rows ≤ most_revisions
  pub each : All (IsRevision days assets) rows
