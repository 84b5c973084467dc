-- The text of lines, and what a text says.
use Rattle.std.specs.Prelude.{◌≡◌, ℕ, suc, ◌<◌, ◌≤◌, ◌^◌, nat_le, nat_lt, ◌&&◌, if◌then◌else◌, ◌==◌, ℤ, List, [], ◌∷◌, ◌++◌, length, map, flat_map, Option, Some, None, option_map, option_and_then, option_to_list, IfSome, bytes_eq, codes, Result, Ok, Err}
use Rattle.std.specs.List.{join_by}
use Rattle.std.specs.Fmt.{decimal, signed_decimal}
use Rattle.std.specs.Str.Parse.{signed_digits_value}
use Rattle.std.specs.Int.RustNames.{unsigned_abs}
use Rattle.pl_spec.specs.Each.{Each}
use Rattle.pl_spec.specs.Limits.{most_lines}
use Rattle.pl_spec.specs.declared.Column.{Column}
use Rattle.pl_spec.specs.declared.Column.TheVariants.{OpenPrice, High, Low, Close, Volume}
use Rattle.pl_spec.specs.Rounding.{LIMIT, MISSING, is_missing, IsCell}
use Rattle.pl_spec.specs.Dates.{IsDay, date_text, date_in}
use Rattle.pl_spec.specs.Decimals.{sid_in}
use Rattle.pl_spec.specs.Names.{column_name}
use Rattle.pl_derivation.specs.Lines.{Line}
use Rattle.pl_derivation.specs.Lines.Line.{SeenLine, ValueLine, SeenValueLine}

-- ---- writing

-- a whole number, or - where it is missing
abbrev pub number_text : ℤ → List ℕ
number_text x = if is_missing x then 45 ∷ [] else signed_decimal x

abbrev pub fields_of : Line → List (List ℕ)
fields_of (SeenLine c a bar day cells) = codes "seen" ∷ column_name c ∷ decimal a ∷ date_text bar ∷ date_text day ∷ map number_text cells
fields_of (ValueLine t a day v known) = codes "value" ∷ decimal t ∷ decimal a ∷ date_text day ∷ number_text v ∷ map date_text (option_to_list known)
fields_of (SeenValueLine t a own day v) = codes "seen-value" ∷ decimal t ∷ decimal a ∷ date_text own ∷ date_text day ∷ number_text v ∷ []

-- the fields with one space between two of them
abbrev pub body_of : Line → List ℕ
body_of l = join_by (λ f. f) (32 ∷ []) (fields_of l)

unfoldable pub text_of : List Line → List ℕ
text_of lines = flat_map (λ l. body_of l ++ 10 ∷ []) lines

-- ---- reading

-- a byte before the first piece
abbrev pub in_first : ℕ → List (List ℕ) → List (List ℕ)
in_first x [] = (x ∷ []) ∷ []
in_first x (p ∷ ps) = (x ∷ p) ∷ ps

-- the pieces of a text that lie between the bytes b; one more than there are such bytes
abbrev pub pieces : ℕ → List ℕ → List (List ℕ)
pieces b [] = [] ∷ []
pieces b (x ∷ xs) = if x == b then [] ∷ pieces b xs else in_first x (pieces b xs)

abbrev pub column_in : List ℕ → Option Column
column_in text =
    if bytes_eq text (codes "open") then Some OpenPrice
    else if bytes_eq text (codes "high") then Some High
    else if bytes_eq text (codes "low") then Some Low
    else if bytes_eq text (codes "close") then Some Close
    else if bytes_eq text (codes "volume") then Some Volume else None

-- the number in the text is a cell's, and that number's text is it
unfoldable pub number_of_text : List ℕ → Option ℤ
number_of_text text =
    let n = signed_digits_value 10 text in
    if nat_le (unsigned_abs n) LIMIT && bytes_eq text (signed_decimal n) then Some n
    else if bytes_eq text (45 ∷ []) then Some MISSING else None

abbrev pub numbers_in : List (List ℕ) → Option (List ℤ)
numbers_in [] = Some []
numbers_in (f ∷ fs) = option_and_then (λ x. option_map (λ xs. x ∷ xs) (numbers_in fs)) (number_of_text f)

abbrev pub seen_line : List (List ℕ) → Option Line
seen_line (c ∷ a ∷ bar ∷ day ∷ x ∷ xs) =
    option_and_then (λ column. option_and_then (λ sid. option_and_then (λ bar_day. option_and_then (λ view_day.
    option_map (SeenLine column sid bar_day view_day) (numbers_in (x ∷ xs))) (date_in day)) (date_in bar)) (sid_in a)) (column_in c)
seen_line fields = None

-- the day of a record, where there is a further field
abbrev pub known_in : List (List ℕ) → Option (Option ℤ)
known_in [] = Some None
known_in (day ∷ []) = option_map (λ known. Some known) (date_in day)
known_in fields = None

abbrev pub value_line : List (List ℕ) → Option Line
value_line (t ∷ a ∷ day ∷ v ∷ more) =
    option_and_then (λ term. option_and_then (λ sid. option_and_then (λ day. option_and_then (λ value.
    option_map (ValueLine term sid day value) (known_in more)) (number_of_text v)) (date_in day)) (sid_in a)) (sid_in t)
value_line fields = None

abbrev pub seen_value_line : List (List ℕ) → Option Line
seen_value_line (t ∷ a ∷ own ∷ day ∷ v ∷ []) =
    option_and_then (λ term. option_and_then (λ sid. option_and_then (λ own_day. option_and_then (λ view_day.
    option_map (SeenValueLine term sid own_day view_day) (number_of_text v)) (date_in day)) (date_in own)) (sid_in a)) (sid_in t)
seen_value_line fields = None

abbrev pub line_in_fields : List (List ℕ) → Option Line
line_in_fields [] = None
line_in_fields (word ∷ fields) =
    if bytes_eq word (codes "seen") then seen_line fields
    else if bytes_eq word (codes "value") then value_line fields
    else if bytes_eq word (codes "seen-value") then seen_value_line fields else None

-- the line that a text is, without its line feed
unfoldable pub line_in : List ℕ → Option Line
line_in text = line_in_fields (pieces 32 text)

pub data Broken : Type 0 where
  BadLine TooMany : (line : ℕ) → Broken

abbrev pub with_line : Line → Result (List Line) Broken → Result (List Line) Broken
with_line l (Ok ls) = Ok (l ∷ ls)
with_line l (Err e) = Err e

-- the line of a piece, before what is after it
abbrev pub line_judged : ℕ → Option Line → Result (List Line) Broken → Result (List Line) Broken
line_judged n None rest = Err (BadLine n)
line_judged n (Some l) rest = if nat_lt most_lines n then Err (TooMany n) else with_line l rest

-- the pieces from line number n on; the last one is after the last line feed, so it has to be empty
abbrev pub lines_from : ℕ → List (List ℕ) → Result (List Line) Broken
lines_from n [] = Ok []
lines_from n (piece ∷ []) = if bytes_eq piece [] then Ok [] else Err (BadLine n)
lines_from n (piece ∷ next ∷ pieces) = line_judged n (line_in piece) (lines_from (suc n) (next ∷ pieces))

-- what a text says: its lines, or its first fault
unfoldable pub lines_in : List ℕ → Result (List Line) Broken
lines_in bytes = if bytes_eq bytes [] then Err (BadLine 1) else lines_from 1 (pieces 10 bytes)

-- ---- the law

abbrev pub AreCells : List ℤ → Type 0
AreCells cells = Each IsCell cells

-- what has a text of its own: numbers of 32 bits, days that have dates, cells
abbrev pub IsWritable : Line → Type 0
IsWritable (SeenLine c a bar day cells) = (a < 2 ^ 32) × IsDay bar × IsDay day × (1 ≤ length cells) × AreCells cells
IsWritable (ValueLine t a day v known) = (t < 2 ^ 32) × (a < 2 ^ 32) × IsDay day × IsCell v × IfSome known IsDay
IsWritable (SeenValueLine t a own day v) = (t < 2 ^ 32) × (a < 2 ^ 32) × IsDay own × IsDay day × IsCell v

abbrev pub AreWritable : List Line → Type 0
AreWritable lines = Each IsWritable lines

-- what was written is read back
abbrev pub TextsAreRead : Type 0
TextsAreRead = (lines : List Line) → AreWritable lines → 1 ≤ length lines → length lines ≤ most_lines → lines_in (text_of lines) ≡ Ok lines

-- a text is read as a line exactly where it is the text of that line
abbrev pub LinesAreRead : Type 0
LinesAreRead = (text : List ℕ) (l : Line)
    → (IsWritable l → text ≡ body_of l → line_in text ≡ Some l) × (line_in text ≡ Some l → IsWritable l × (text ≡ body_of l))
