-- The names of the pipeline language, which columns, terms and labels have.
use Rattle.std.specs.Prelude.{ℕ, Bool, false, ◌&&◌, ◌||◌, not, nat_le, nat_lt, ◌==◌, List, [], ◌∷◌, length, codes, bytes_eq}
use Rattle.std.specs.List.{list_all}
use Rattle.pl_spec.specs.declared.Column.{Column}
use Rattle.pl_spec.specs.declared.Column.TheVariants.{OpenPrice, High, Low, Close, Volume}

abbrev pub is_digit : ℕ → Bool
is_digit b = nat_le 48 b && nat_le b 57

-- a letter or `_`
abbrev pub starts_word : ℕ → Bool
starts_word b = (nat_le 97 b && nat_le b 122) || ((nat_le 65 b && nat_le b 90) || (b == 95))

abbrev pub is_word_byte : ℕ → Bool
is_word_byte b = starts_word b || is_digit b

abbrev pub is_keyword : List ℕ → Bool
is_keyword w = bytes_eq w (codes "pipeline") || (bytes_eq w (codes "let") || (bytes_eq w (codes "column") || bytes_eq w (codes "screen")))

-- a letter or `_`, then letters, digits or `_`, at most 32 bytes, and no keyword
abbrev pub is_name : List ℕ → Bool
is_name [] = false
is_name (c ∷ cs) = (starts_word c && (list_all is_word_byte cs && nat_lt (length cs) 32)) && not (is_keyword (c ∷ cs))

-- the name of a bar column
abbrev pub column_name : Column → List ℕ
column_name OpenPrice = codes "open"
column_name High = codes "high"
column_name Low = codes "low"
column_name Close = codes "close"
column_name Volume = codes "volume"
