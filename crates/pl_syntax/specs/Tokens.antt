-- The tokens of a text: their forms by cases, taken longest first, and what each is to the grammar.
use Rattle.std.specs.Prelude.{ℕ, zero, suc, ◌+◌, ◌-◌, ◌<◌, ◌≡◌, true, false, ◌||◌, if◌then◌else◌, nat_lt, ◌==◌, List, [], ◌∷◌, ◌++◌, length, take, drop, codes, bytes_eq}
use Rattle.std.specs.List.{list_all}
use Rattle.std.specs.Int.RustNames.{unsigned_abs}
use Rattle.pl_spec.specs.Rounding.{LIMIT}
use Rattle.pl_spec.specs.Decimals.{Decimal, millionths}
use Rattle.pl_grammar.specs.declared.BinarySign.TheVariants.{Or, And, Less, LessEqual, Greater, GreaterEqual, Equal, NotEqual, Add, Sub, Mul, Div}
use Rattle.pl_grammar.specs.Tree as t
use Rattle.pl_grammar.specs.Tree.{Token}
use Rattle.pl_syntax.specs.Bytes.{is_text_byte, may_pair, pairs, is_sign, Stops}
use Rattle.pl_spec.specs.Names.{is_digit, starts_word, is_word_byte}
use Rattle.pl_syntax.specs.declared.front.Form.{Form}
use Rattle.pl_syntax.specs.declared.front.Form.TheVariants.{Word, Number, Text, One, Two}

-- no point with a digit after it
abbrev pub NoDecimals : List ℕ → Type 0
NoDecimals [] = Unit {0}
NoDecimals (b ∷ bs) = (is_digit b ≡ false) × (b ≡ 46 → Stops is_digit bs)

-- Front xs rest f: xs is the longest token at the front of xs ++ rest, and f is its form with its lengths:
-- the bytes of a word, the digits before a number's point and after it, the bytes of a text with its
-- quotes
pub data Front : List ℕ → List ℕ → Form → Type 0 where
  a_word : (c : ℕ) (cs : List ℕ) {rest : List ℕ} → starts_word c ≡ true → list_all is_word_byte cs ≡ true
      → Stops is_word_byte rest → length cs < 32 → Front (c ∷ cs) rest (Word (suc (length cs)))
  a_whole : (c : ℕ) (cs : List ℕ) {rest : List ℕ} → is_digit c ≡ true → list_all is_digit cs ≡ true
      → NoDecimals rest → Front (c ∷ cs) rest (Number (suc (length cs)) 0)
  a_decimal : (c : ℕ) (cs : List ℕ) (f : ℕ) (fs : List ℕ) {rest : List ℕ} → is_digit c ≡ true
      → list_all is_digit cs ≡ true → is_digit f ≡ true → list_all is_digit fs ≡ true → Stops is_digit rest
      → Front (c ∷ (cs ++ (46 ∷ (f ∷ fs)))) rest (Number (suc (length cs)) (suc (length fs)))
  a_text : (cs : List ℕ) {rest : List ℕ} → list_all is_text_byte cs ≡ true
      → Front (34 ∷ (cs ++ (34 ∷ []))) rest (Text (length cs + 2))
  a_pair : (c : ℕ) {rest : List ℕ} → pairs c ≡ true → Front (c ∷ (61 ∷ [])) rest (Two c)
  a_sign : (c : ℕ) {rest : List ℕ} → is_sign c ≡ true → (may_pair c ≡ true → Stops (λ b. b == 61) rest)
      → Front (c ∷ []) rest (One c)

-- a keyword, or a name
abbrev pub word_token : List ℕ → Token
word_token w =
    if bytes_eq w (codes "pipeline") then t.PipelineWord
    else if bytes_eq w (codes "let") then t.LetWord
    else if bytes_eq w (codes "column") then t.ColumnWord
    else if bytes_eq w (codes "screen") then t.ScreenWord
    else t.Name w

-- a number in millionths, rounded once, unless it has more than 18 digits after its point or passes the
-- greatest cell
abbrev pub decimal_token : Decimal → Token
decimal_token d = if nat_lt 18 (length d.fraction) || nat_lt LIMIT (unsigned_abs (millionths d))
    then t.LargeNumber else t.Number (millionths d)

abbrev pub number_token : List ℕ → List ℕ → Token
number_token whole fraction = decimal_token (record { negative = false; whole = whole; fraction = fraction })

-- a sign of one byte; the last is `~`
abbrev pub one_token : ℕ → Token
one_token c =
    if c == 38 then t.Operator And
    else if c == 40 then t.Open
    else if c == 41 then t.Close
    else if c == 42 then t.Operator Mul
    else if c == 43 then t.Operator Add
    else if c == 44 then t.Comma
    else if c == 45 then t.Operator Sub
    else if c == 46 then t.Dot
    else if c == 47 then t.Operator Div
    else if c == 59 then t.Semicolon
    else if c == 60 then t.Operator Less
    else if c == 61 then t.Assign
    else if c == 62 then t.Operator Greater
    else if c == 124 then t.Operator Or
    else t.Tilde

-- a sign of two bytes, by its first; the last is `!=`
abbrev pub two_token : ℕ → Token
two_token c =
    if c == 60 then t.Operator LessEqual
    else if c == 61 then t.Operator Equal
    else if c == 62 then t.Operator GreaterEqual
    else t.Operator NotEqual

-- the token that the bytes of a form are
abbrev pub token_in : Form → List ℕ → Token
token_in (Word n) xs = word_token xs
token_in (Number whole fraction) xs = number_token (take whole xs) (drop (whole + 1) xs)
token_in (Text n) xs = t.Text (take (n - 2) (drop 1 xs))
token_in (One c) xs = one_token c
token_in (Two c) xs = two_token c

-- how many bytes a form has
abbrev pub form_length : Form → ℕ
form_length (Word n) = n
form_length (Number n zero) = n
form_length (Number n (suc k)) = n + suc (suc k)
form_length (Text n) = n
form_length (One c) = 1
form_length (Two c) = 2
