-- Numbers by column, with the list of their names: those of the records of a numbers file, and the first rule
-- that a record breaks.
use Rattle.std.specs.Prelude.{◌≡◌, ℕ, ◌==◌, ◌≤◌, ◌&&◌, nat_le, Bool, false, if◌then◌else◌, ℤ, codes, List, [], ◌∷◌, length, map, bytes_eq, All, AllPairs, Contains, Option, None, option_map, option_and_then, Result, Ok}
use Rattle.std.specs.List.{list_any, position_or_len}
use Rattle.std.specs.Option.{ok_or}
use Rattle.std.specs.Ordering.{int_eq}
use Rattle.pl_records.specs.Reading.{Record, Fault, field, ◌>>=◌, rows_under}
use Rattle.pl_records.specs.RuleTable.{first_broken, lacks, has}
use Rattle.pl_records.specs.Sorted.{sorted_by}
use Rattle.pl_spec.specs.Dates.{date_in}
use Rattle.pl_spec.specs.Decimals.{sid_in}
use Rattle.pl_spec.specs.Limits.{most_numbers}
use Rattle.pl_spec.specs.Names.{is_name}
use Rattle.pl_spec.specs.Numbers.{NumberRow, number_at, known_at}
use Rattle.pl_spec.specs.Parts.{ColumnNumber}
use Rattle.pl_spec.specs.Rounding.{IsCell}
use Rattle.pl_spec.specs.declared.AssetRow.{AssetRow}
use Rattle.pl_spec.specs.declared.Figure.{Figure}
use Rattle.pl_lifetimes.specs.Assets.{col_in, placed}
use Rattle.pl_assets.specs.Labels.{first_seen}
use Rattle.pl_assets.specs.LabelPlaces.{key}
use Rattle.pl_bars.specs.Bars.{cell_in}
pub use Rattle.pl_records.specs.declared.fault.DataFault.{DataFault}
pub use Rattle.pl_records.specs.declared.fault.DataFault.TheVariants.{BadHeader, TooMany, BadField, UnknownSid, Duplicate}

-- the rows of numbers, and their distinct names: a name's place in that list, from 0, is its number
pub record NumberTable : Type 0 where
  pub names : List (List ℕ)
  pub rows : List ColumnNumber

-- each name once, in the order in which they first stand in the rows
abbrev pub names_of : List ColumnNumber → List (List ℕ)
names_of rows = first_seen (map (λ r. r.name) rows)

-- a number that rises by the place of the name among the names, then by column, and then by day
abbrev pub key_in : List (List ℕ) → ColumnNumber → ℕ
key_in names r = key (position_or_len (bytes_eq r.name) names) r.col r.known

-- the rows by name, column and day
abbrev pub table_of : List ColumnNumber → NumberTable
table_of rows = record { names = names_of rows; rows = sorted_by (key_in (names_of rows)) rows }

-- ---- the number of a column

-- the row as one of the asset that has its column for a sid
abbrev pub by_column : ColumnNumber → NumberRow
by_column r = record { name = r.name; sid = r.col; known = r.known; value = r.value }

-- what is read of the row under the name that was known last in the column by the day, missing where there is
-- none
unfoldable pub number_on : Figure → List ColumnNumber → List ℕ → ℕ → ℤ → ℤ
number_on f rows name col day = number_at f (map by_column rows) name col day

-- a row of which the name and the asset do not matter
abbrev pub bare : ℤ → ℤ → NumberRow
bare value known = record { name = []; sid = 0; known = known; value = value }

-- the day from which that number was known, where there is such a row
unfoldable pub known_on : List ColumnNumber → List ℕ → ℕ → ℤ → Option ℤ
known_on rows name col day = known_at (map by_column rows) name col day

-- ---- the records of a file

abbrev pub header : Record
header = codes "name" ∷ codes "sid" ∷ codes "known" ∷ codes "value" ∷ []

-- the name, the sid, the day and the cell of a record of four fields
unfoldable pub number_in : Record → Option NumberRow
number_in r =
    if length r == 4 && is_name (field r 0) then
    option_and_then (λ sid. option_and_then (λ known. option_map (λ value. record { name = field r 0; sid = sid; known = known; value = value })
    (cell_in (field r 3))) (date_in (field r 2))) (sid_in (field r 1))
    else None

-- the row under the name of the column from the day on
abbrev pub is_from : List ℕ → ℕ → ℤ → ColumnNumber → Bool
is_from name col known r = bytes_eq r.name name && (r.col == col && int_eq r.known known)

-- the number in a column
abbrev pub in_column : NumberRow → ℕ → ColumnNumber
in_column n col = record { name = n.name; col = col; known = n.known; value = n.value }

-- the row of a record of a number of an asset
abbrev pub row_of : List AssetRow → Record → Option ColumnNumber
row_of assets r = placed number_in (λ n. n.sid) in_column assets r

-- the rules of a record after the header, in the order in which they are tested, and their tests
abbrev pub rules : List DataFault
rules = TooMany ∷ BadField ∷ UnknownSid ∷ Duplicate ∷ []

abbrev pub breaks : List AssetRow → List ColumnNumber → Record → DataFault → Bool
breaks assets before r TooMany = nat_le most_numbers (length before)
breaks assets before r BadField = lacks (number_in r)
breaks assets before r UnknownSid = has (λ n. lacks (col_in assets n.sid)) (number_in r)
breaks assets before r Duplicate = has (λ row. list_any (is_from row.name row.col row.known) before) (row_of assets r)
breaks assets before r fault = false

-- the row of a record after the rows before it, or the first rule that it breaks
unfoldable pub number_or_rule : List AssetRow → List ColumnNumber → Record → Result ColumnNumber DataFault
number_or_rule assets before r = first_broken rules (breaks assets before r) (ok_or (row_of assets r) BadField)

-- the rows of a file in its order, or its first fault
unfoldable pub number_rows_in : List AssetRow → List Record → Result (List ColumnNumber) (Fault DataFault)
number_rows_in assets records = rows_under header BadHeader (number_or_rule assets) records

-- the same by name, column and day, with their names
unfoldable pub numbers_of : List AssetRow → List Record → Result NumberTable (Fault DataFault)
numbers_of assets records = number_rows_in assets records >>= λ rows. Ok (table_of rows)

-- ---- numbers as they are kept

-- Each row has a name of the table, which stands there once. No two are of one name, column and day.
pub record AreNumbers (t : NumberTable) : Type 0 where
  pub names : AllPairs (λ x y. bytes_eq x y ≡ false) t.names
  pub named : All (λ r. Contains t.names r.name) t.rows
  pub once : AllPairs (λ r q. is_from r.name r.col r.known q ≡ false) t.rows
  pub few : length t.rows ≤ most_numbers
  pub cells : All (λ r. IsCell r.value) t.rows
