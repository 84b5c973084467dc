-- The bars of the records of a bars file, the first rule that a record breaks, and the cells of bars.
use Rattle.std.specs.Prelude.{ℕ, ◌+◌, ◌*◌, ◌^◌, ◌==◌, ◌≤◌, ◌&&◌, ◌||◌, not, nat_le, nat_lt, IsTrue, Bool, false, if◌then◌else◌, ℤ, pos, codes, List, [], ◌∷◌, length, All, AllPairs, Option, Some, None, option_map, option_and_then, unwrap_or, Result, Ok, find, position, slice_index_or}
use Rattle.std.specs.List.{list_any}
use Rattle.std.specs.Result.{result_ok}
use Rattle.std.specs.Int.RustNames.{int_lt, int_le, unsigned_abs}
use Rattle.std.specs.Ordering.{int_eq}
use Rattle.std.specs.Option.{ok_or}
use Rattle.pl_records.specs.Reading.{Record, Fault, field, ◌>>=◌, rows_under}
use Rattle.pl_spec.specs.Rounding.{MISSING, LIMIT, is_missing}
use Rattle.pl_records.specs.RuleTable.{first_broken, lacks, has}
use Rattle.pl_records.specs.Sorted.{sorted_by}
use Rattle.pl_spec.specs.Dates.{date_in}
use Rattle.pl_spec.specs.Decimals.{sid_in}
use Rattle.pl_spec.specs.declared.AssetRow.{AssetRow}
use Rattle.pl_spec.specs.declared.BarRow.{BarRow}
use Rattle.pl_spec.specs.declared.Column.{Column}
use Rattle.pl_spec.specs.declared.Column.TheVariants.{OpenPrice, High, Low, Close, Volume}
use Rattle.pl_fixed.specs.Reading.{read}
use Rattle.pl_lifetimes.specs.Assets.{col_in}
use Rattle.pl_bars.specs.declared.fields.Fields.{Fields}
use Rattle.pl_spec.specs.Limits.{most_bars}
use Rattle.pl_spec.specs.World.{column_number}
pub use Rattle.pl_records.specs.declared.fault.DataFault.{DataFault}
pub use Rattle.pl_records.specs.declared.fault.DataFault.TheVariants.{BadHeader, TooMany, BadField, NotSession, UnknownSid, Negative, Duplicate}

abbrev pub header : Record
header = codes "sid" ∷ codes "session" ∷ codes "open" ∷ codes "high" ∷ codes "low" ∷ codes "close" ∷ codes "volume" ∷ []

-- the cell of a field: missing where it is empty
unfoldable pub cell_in : List ℕ → Option ℤ
cell_in text = if length text == 0 then Some MISSING else result_ok (read text)

abbrev pub cells_in : Record → Option (List ℤ)
cells_in r =
    option_and_then (λ a. option_and_then (λ b. option_and_then (λ c. option_and_then (λ d. option_map (λ e. a ∷ b ∷ c ∷ d ∷ e ∷ [])
    (cell_in (field r 6))) (cell_in (field r 5))) (cell_in (field r 4))) (cell_in (field r 3))) (cell_in (field r 2))

-- the sid, the day and the cells of a record of seven fields
unfoldable pub fields_in : Record → Option Fields
fields_in r =
    if length r == 7 then
    option_and_then (λ sid. option_and_then (λ day. option_map (λ cells. record { sid = sid; day = day; cells = cells })
    (cells_in r)) (date_in (field r 1))) (sid_in (field r 0))
    else None

abbrev pub is_negative : ℤ → Bool
is_negative v = int_lt v (pos 0) && not (is_missing v)

-- the bar of the column on the session
abbrev pub is_at : ℕ → ℕ → BarRow → Bool
is_at col session b = b.col == col && b.session == session

-- the session of the day
abbrev pub session_in : List ℤ → ℤ → Option ℕ
session_in days day = position (λ d. int_eq d day) days

abbrev pub placed_at : Fields → ℕ → ℕ → BarRow
placed_at f session col = record { col = col; session = session; cells = f.cells }

-- the bar of a record of an asset on a session
abbrev pub bar_of : List ℤ → List AssetRow → Record → Option BarRow
bar_of days assets r =
    option_and_then (λ f. option_and_then (λ session. option_map (placed_at f session) (col_in assets f.sid))
    (session_in days f.day)) (fields_in r)

-- the rules of a record after the header, in the order in which they are tested, and their tests
abbrev pub rules : List DataFault
rules = TooMany ∷ BadField ∷ NotSession ∷ UnknownSid ∷ Negative ∷ Duplicate ∷ []

abbrev pub breaks : List ℤ → List AssetRow → List BarRow → Record → DataFault → Bool
breaks days assets before r TooMany = nat_le most_bars (length before)
breaks days assets before r BadField = lacks (fields_in r)
breaks days assets before r NotSession = has (λ f. lacks (session_in days f.day)) (fields_in r)
breaks days assets before r UnknownSid = has (λ f. lacks (col_in assets f.sid)) (fields_in r)
breaks days assets before r Negative = has (λ f. list_any is_negative f.cells) (fields_in r)
breaks days assets before r Duplicate =
    has (λ b. list_any (is_at b.col b.session) before) (bar_of days assets r)
breaks days assets before r fault = false

-- the bar of a record after the bars before it, or the first rule that it breaks
unfoldable pub bar_or_rule : List ℤ → List AssetRow → List BarRow → Record → Result BarRow DataFault
bar_or_rule days assets before r = first_broken rules (breaks days assets before r) (ok_or (bar_of days assets r) BadField)

-- a number that rises by column, and then by session
abbrev pub key_of : BarRow → ℕ
key_of b = b.col * 2 ^ 32 + b.session

-- the bars of a file in its order, or its first fault
unfoldable pub rows_in : List ℤ → List AssetRow → List Record → Result (List BarRow) (Fault DataFault)
rows_in days assets records = rows_under header BadHeader (bar_or_rule days assets) records

-- the same by column and session
unfoldable pub bars_of : List ℤ → List AssetRow → List Record → Result (List BarRow) (Fault DataFault)
bars_of days assets records = rows_in days assets records >>= λ rows. Ok (sorted_by key_of rows)

-- ---- bars as they are kept

-- the bar stands before the column and session: in an earlier column, or in this one on an earlier session
abbrev pub is_before : ℕ → ℕ → BarRow → Bool
is_before col session b = nat_lt b.col col || (b.col == col && nat_lt b.session session)

-- missing, or a cell of at least 0
abbrev pub is_bar_cell : ℤ → Bool
is_bar_cell v = is_missing v || (int_le (pos 0) v && nat_le (unsigned_abs v) LIMIT)

pub record AreBars (rows : List BarRow) : Type 0 where
  pub ascend : AllPairs (λ a b. IsTrue (is_before b.col b.session a)) rows
  pub few : length rows ≤ most_bars
  pub cells : All (λ b. All (λ v. IsTrue (is_bar_cell v)) b.cells) rows

-- ---- their cells

abbrev pub cell_of : Column → BarRow → ℤ
cell_of column b = slice_index_or b.cells (column_number column) (pos 0)

-- the cell of the bar of the column on the session, missing where there is none
unfoldable pub cell_at : List BarRow → ℕ → Column → ℕ → ℤ
cell_at rows col column session = unwrap_or (option_map (cell_of column) (find (is_at col session) rows)) MISSING

-- its five cells, in the order of the columns
abbrev pub cells_at : List BarRow → ℕ → ℕ → List ℤ
cells_at rows col session = cell_at rows col OpenPrice session ∷ cell_at rows col High session ∷ cell_at rows col Low session ∷ cell_at rows col Close session ∷ cell_at rows col Volume session ∷ []
