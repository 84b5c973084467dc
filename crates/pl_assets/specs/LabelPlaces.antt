-- Rows of labels as they are kept: numbers for their names, codes for their texts, and an order in which they
-- are found.
use Rattle.std.specs.Prelude.{◌≡◌, ℕ, zero, suc, ◌+◌, ◌*◌, ◌^◌, ◌<◌, nat_le, true, false, ℤ, pos, ◌+ℤ◌, ◌≤ℤ◌, List, [], ◌∷◌, ◌++◌, length, map, take, slice_get, slice_index_or, All, AllPairs, Contains, Option, Some, None, IfSome, option_map, unwrap_or, FitsSigned}
use Rattle.std.specs.Int.{w32}
use Rattle.std.specs.Int.RustNames.{unsigned_abs}
use Rattle.std.specs.List.Sorted.{IsPartitionPoint}
use Rattle.pl_spec.specs.Parts.{ColumnLabel}
use Rattle.pl_assets.specs.Labels.{LabelTable, AreLabels, AreTexts, names_of}
use Rattle.pl_assets.specs.declared.labels.rows.Place.{Place}
use Rattle.pl_assets.specs.declared.labels.rows.LabelRows.{LabelRows}

-- ---- the rows

abbrev pub text_in : List (List ℕ) → Option ℕ → List ℕ
text_in texts None = []
text_in texts (Some code) = slice_index_or texts code []

abbrev pub row_at : List (List ℕ) → List (List ℕ) → Place → ColumnLabel
row_at names texts p = record { name = slice_index_or names p.name []; col = p.col; start = p.start; text = text_in texts p.code }

abbrev pub shown_rows : LabelRows → List ColumnLabel
shown_rows t = map (row_at t.names t.texts) t.places.items

abbrev pub table_in : LabelRows → LabelTable
table_in t = record { rows = shown_rows t; texts = t.texts }

-- the name and the text are among these
pub record IsPlace (names texts : List (List ℕ)) (p : Place) : Type 0 where
  pub name : p.name < length names
  pub code : IfSome p.code (λ c. c < length texts)
  pub col : p.col < 2 ^ 32
  pub day : FitsSigned w32 p.start

-- the names are those of the rows, in the order in which they first stand there, and the texts have codes
pub record AreNumbered (t : LabelRows) : Type 0 where
  pub places : All (IsPlace t.names t.texts) t.places.items
  pub names : t.names ≡ names_of (shown_rows t)
  pub texts : AreTexts t.texts

-- the place was put after the others
abbrev pub IsBehind : LabelRows → LabelRows → Place → Type 0
IsBehind old new p = new.places.items ≡ old.places.items ++ p ∷ []

-- nothing is gone
pub record KeepsFront (old new : LabelRows) : Type 0 where
  pub names : take (length old.names) new.names ≡ old.names
  pub texts : take (length old.texts) new.texts ≡ old.texts
  pub places : new.places.items ≡ old.places.items

-- ---- their keys

-- a number that rises by the number of the name, then by column, and then by day
abbrev pub key : ℕ → ℕ → ℤ → ℕ
key name col day = name * 2 ^ 96 + col * 2 ^ 32 + unsigned_abs (day +ℤ pos (2 ^ 31))

abbrev pub key_of : Place → ℕ
key_of p = key p.name p.col p.start

-- the key of row i, 0 where there is none
unfoldable pub key_at : List Place → ℕ → ℕ
key_at places i = unwrap_or (option_map key_of (slice_get places i)) 0

-- ---- their order

-- the numbers below n
unfoldable pub numbers : ℕ → List ℕ
numbers zero = []
numbers (suc n) = numbers n ++ n ∷ []

-- the rows of the numbers stand by ascending keys
abbrev pub Ascend : List Place → List ℕ → Type 0
Ascend places order = AllPairs (λ i j. key_at places i < key_at places j) order

-- the numbers of the first n rows, by ascending keys
pub record IsOrder (places : List Place) (n : ℕ) (order : List ℕ) : Type 0 where
  pub ascend : Ascend places order
  pub within : All (λ i. i < n) order
  pub all : (i : ℕ) → i < n → Contains order i

-- below n the rows in the order have no greater key, from n on all have
abbrev pub KeyPoint : List Place → ℕ → List ℕ → ℕ → Type 0
KeyPoint places k order n = IsPartitionPoint (λ i. nat_le (key_at places i) k ≡ true) (λ i. nat_le (key_at places i) k ≡ false) order n

-- the row is of the name and the column, and has started by the day
pub record HasStarted (name col : ℕ) (day : ℤ) (p : Place) : Type 0 where
  pub same_name : p.name ≡ name
  pub same_col : p.col ≡ col
  pub started : p.start ≤ℤ day

-- of these rows that which started last
abbrev pub IsLastStarted : List Place → ℕ → ℕ → ℤ → Option Place → Type 0
IsLastStarted places name col day None = (q : Place) → Contains places q → ¬ HasStarted name col day q
IsLastStarted places name col day (Some p) =
    Contains places p × HasStarted name col day p × ((q : Place) → Contains places q → HasStarted name col day q → q.start ≤ℤ p.start)

pub record IsTable (t : LabelRows) (order : List ℕ) : Type 0 where
  pub numbered : AreNumbered t
  pub labels : AreLabels (table_in t)
  pub found : IsOrder t.places.items (length t.places.items) order
