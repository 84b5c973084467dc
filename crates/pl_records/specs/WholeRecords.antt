-- A text up to a line end, whatever follows it.
use Rattle.std.specs.Prelude.{ℕ, List, ◌∷◌, ◌++◌, Bool, true, false, not, ◌≡◌, ◌==◌, length, get_or, ◌<◌, Option, Some, None}
use Rattle.pl_records.specs.Records.{csv_records}
use Rattle.pl_records.specs.Plain.{is_line_end}

abbrev pub is_unquoted : ℕ → Bool
is_unquoted byte = not (byte == 34)

-- where a line end follows, with any text behind it, the records of the text are followed by those of that
abbrev pub EndsRecord : List ℕ → Type 0
EndsRecord text = (end : ℕ) (more : List ℕ) → is_line_end end ≡ true → csv_records (text ++ end ∷ more) ≡ csv_records text ++ csv_records (end ∷ more)

-- there is a line end at the place, and none behind it; or there is none
abbrev pub IsLastLineEnd : List ℕ → Option ℕ → Type 0
IsLastLineEnd text None = (i : ℕ) → i < length text → is_line_end (get_or text i 0) ≡ false
IsLastLineEnd text (Some at) =
    (at < length text) × (is_line_end (get_or text at 0) ≡ true) × ((i : ℕ) → at < i → i < length text → is_line_end (get_or text i 0) ≡ false)
