-- Labels by column, with the list of their texts: those of the records of a labels file, and the first rule
-- that a record breaks.
use Rattle.std.specs.Prelude.{◌≡◌, ℕ, ◌==◌, ◌<◌, ◌≤◌, ◌^◌, ◌&&◌, not, nat_le, nat_lt, Bool, true, false, if◌then◌else◌, IsTrue, ℤ, codes, List, [], ◌∷◌, ◌++◌, length, map, filter, bytes_eq, All, AllPairs, Contains, Option, None, IfSome, option_map, option_and_then, Result, Ok}
use Rattle.std.specs.List.{list_any, list_all, position_or_len}
use Rattle.std.specs.Option.{ok_or}
use Rattle.std.specs.Ordering.{int_eq}
use Rattle.pl_records.specs.Reading.{Record, Fault, field, ◌>>=◌, rows_under}
use Rattle.pl_records.specs.RuleTable.{first_broken, lacks, has}
use Rattle.pl_spec.specs.Dates.{date_in}
use Rattle.pl_spec.specs.Decimals.{sid_in}
use Rattle.pl_spec.specs.Names.{is_name}
use Rattle.pl_spec.specs.Parts.{ColumnLabel}
use Rattle.pl_spec.specs.World.{LabelRow, last_started, nonempty, is_label_of}
use Rattle.pl_spec.specs.declared.AssetRow.{AssetRow}
use Rattle.pl_lifetimes.specs.Assets.{col_in, placed, sid_of}
use Rattle.pl_spec.specs.Limits.{most_labels, most_label_bytes}
pub use Rattle.pl_records.specs.declared.fault.DataFault.{DataFault}
pub use Rattle.pl_records.specs.declared.fault.DataFault.TheVariants.{BadHeader, TooMany, BadField, LabelTooLong, UnknownSid, DuplicateStart}

-- the rows of labels, and the distinct texts in them: a text's place in that list, from 0, is its code
pub record LabelTable : Type 0 where
  pub rows : List ColumnLabel
  pub texts : List (List ℕ)

abbrev pub no_labels : LabelTable
no_labels = record { rows = []; texts = [] }

-- ---- names and texts

-- each text once, in the order in which they first stand in the list
unfoldable pub first_seen : List (List ℕ) → List (List ℕ)
first_seen [] = []
first_seen (x ∷ xs) = x ∷ filter (λ y. not (bytes_eq x y)) (first_seen xs)

abbrev pub is_text : List ℕ → Bool
is_text text = not (length text == 0)

-- the names of rows; a name's place in this list, from 0, is its number
abbrev pub names_of : List ColumnLabel → List (List ℕ)
names_of rows = first_seen (map (λ r. r.name) rows)

-- the texts of rows that are not empty
abbrev pub texts_of : List ColumnLabel → List (List ℕ)
texts_of rows = first_seen (filter is_text (map (λ r. r.text) rows))

-- the texts with one that may be new
abbrev pub with_text : List (List ℕ) → List ℕ → List (List ℕ)
with_text texts text = if list_any (bytes_eq text) texts then texts else texts ++ text ∷ []

-- the same, where an empty text is none
abbrev pub with_label : List (List ℕ) → List ℕ → List (List ℕ)
with_label texts text = if is_text text then with_text texts text else texts

abbrev pub table_of : List ColumnLabel → LabelTable
table_of rows = record { rows = rows; texts = texts_of rows }

-- ---- the label of a column

-- the row as one of the asset that has its column for a sid
abbrev pub by_column : ColumnLabel → LabelRow
by_column r = record { name = r.name; sid = r.col; start = r.start; text = r.text }

-- the text of the row under the name that started last in the column by the day, if it is not empty
unfoldable pub label_on : List ColumnLabel → List ℕ → ℕ → ℤ → Option (List ℕ)
label_on rows name col day =
    option_and_then (λ r. nonempty r.text) (last_started (filter (is_label_of name col day) (map by_column rows)))

-- ---- the records of a file

abbrev pub header : Record
header = codes "name" ∷ codes "sid" ∷ codes "start" ∷ codes "label" ∷ []

-- only spaces and the visible characters of ASCII
abbrev pub is_printable : List ℕ → Bool
is_printable text = list_all (λ b. nat_le 32 b && nat_le b 126) text

-- the name, the sid, the day and the text of a record of four fields
unfoldable pub label_in : Record → Option LabelRow
label_in r =
    if length r == 4 && (is_name (field r 0) && is_printable (field r 3)) then
    option_and_then (λ sid. option_map (λ start. record { name = field r 0; sid = sid; start = start; text = field r 3 })
    (date_in (field r 2))) (sid_in (field r 1))
    else None

-- the row under the name of the column from the day on
abbrev pub is_from : List ℕ → ℕ → ℤ → ColumnLabel → Bool
is_from name col start r = bytes_eq r.name name && (r.col == col && int_eq r.start start)

-- the label in a column
abbrev pub in_column : LabelRow → ℕ → ColumnLabel
in_column l col = record { name = l.name; col = col; start = l.start; text = l.text }

-- the row of a record of a label of an asset
abbrev pub row_of : List AssetRow → Record → Option ColumnLabel
row_of assets r = placed label_in (λ l. l.sid) in_column assets r

-- the rules of a record after the header, in the order in which they are tested, and their tests
abbrev pub rules : List DataFault
rules = TooMany ∷ BadField ∷ LabelTooLong ∷ UnknownSid ∷ DuplicateStart ∷ []

abbrev pub breaks : List AssetRow → List ColumnLabel → Record → DataFault → Bool
breaks assets before r TooMany = nat_le most_labels (length before)
breaks assets before r BadField = lacks (label_in r)
breaks assets before r LabelTooLong = has (λ l. nat_lt most_label_bytes (length l.text)) (label_in r)
breaks assets before r UnknownSid = has (λ l. lacks (col_in assets l.sid)) (label_in r)
breaks assets before r DuplicateStart = has (λ row. list_any (is_from row.name row.col row.start) before) (row_of assets r)
breaks assets before r fault = false

-- the row of a record after the rows before it, or the first rule that it breaks
unfoldable pub label_or_rule : List AssetRow → List ColumnLabel → Record → Result ColumnLabel DataFault
label_or_rule assets before r = first_broken rules (breaks assets before r) (ok_or (row_of assets r) BadField)

-- the rows of a file in its order, or its first fault
unfoldable pub label_rows_in : List AssetRow → List Record → Result (List ColumnLabel) (Fault DataFault)
label_rows_in assets records = rows_under header BadHeader (label_or_rule assets) records

-- the same with their texts
unfoldable pub labels_of : List AssetRow → List Record → Result LabelTable (Fault DataFault)
labels_of assets records = label_rows_in assets records >>= λ rows. Ok (table_of rows)

-- ---- labels as they are kept

-- the row has a name of the pipeline language and a text of a label
pub record IsLabelRow (r : ColumnLabel) : Type 0 where
  pub name : IsTrue (is_name r.name)
  pub printable : IsTrue (is_printable r.text)
  pub short : length r.text ≤ most_label_bytes

-- texts that have codes: each once, none of them empty, and no more than there are codes of 32 bits
pub record AreTexts (texts : List (List ℕ)) : Type 0 where
  pub once : AllPairs (λ x y. bytes_eq x y ≡ false) texts
  pub full : All (λ x. is_text x ≡ true) texts
  pub few : length texts ≤ 2 ^ 32

-- a text that a label may have
pub record IsLabelText (text : List ℕ) : Type 0 where
  pub printable : IsTrue (is_printable text)
  pub short : length text ≤ most_label_bytes

-- Each text of a row that is not empty has a code. Other texts may have codes too: where rows are left out,
-- the others keep the codes that they had.
pub record AreLabels (t : LabelTable) : Type 0 where
  pub rows : All IsLabelRow t.rows
  pub once : AllPairs (λ r q. is_from r.name r.col r.start q ≡ false) t.rows
  pub few : length t.rows ≤ most_labels
  pub texts : AreTexts t.texts
  pub right : All IsLabelText t.texts
  pub coded : All (λ r. IfSome (nonempty r.text) (Contains t.texts)) t.rows

-- the row of a label of the asset that has the sid
abbrev pub label_row : List AssetRow → List ℕ → ℕ → ℤ → List ℕ → ColumnLabel
label_row assets name sid start text = record { name = name; col = position_or_len (λ a. sid_of a == sid) assets; start = start; text = text }

-- the row may stand after the rows: none of them has its name, column and start
pub record MayFollow (rows : List ColumnLabel) (r : ColumnLabel) : Type 0 where
  pub row : IsLabelRow r
  pub own_start : list_any (is_from r.name r.col r.start) rows ≡ false
  pub room : length rows < most_labels
