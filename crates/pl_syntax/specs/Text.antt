-- A whole text: its tokens at their places, the gaps between them, and what is after them.
use Rattle.std.specs.Prelude.{ℕ, ◌+◌, ◌<◌, ◌≡◌, true, false, if◌then◌else◌, ◌==◌, List, [], ◌∷◌, ◌++◌, length, take}
use Rattle.std.specs.List.{list_all}
use Rattle.pl_grammar.specs.declared.Place.{Place}
use Rattle.pl_grammar.specs.Tree.{Lexeme, mark}
use Rattle.pl_grammar.specs.Faults.{Tail, AtEnd, AtBad}
use Rattle.pl_syntax.specs.Bytes.{is_text_byte, pairs, is_sign, is_blank, no_line_end, begins_gap, Stops}
use Rattle.pl_spec.specs.Names.{is_digit, starts_word, is_word_byte}
use Rattle.pl_syntax.specs.Tokens.{Front, token_in}
use Rattle.pl_syntax.specs.declared.front.Form.{Form}

-- the place after a byte, and after some: lines and columns count from 1, columns in bytes, and LF ends a
-- line
abbrev pub after_byte : ℕ → Place → Place
after_byte b p =
    if b == 10 then record { line = p.line + 1; col = 1 } else record { line = p.line; col = p.col + 1 }

abbrev pub after : List ℕ → Place → Place
after [] p = p
after (b ∷ bs) p = after bs (after_byte b p)

abbrev pub start : Place
start = record { line = 1; col = 1 }

-- the text of a string doesn't go on here, nor end by a quote
abbrev pub IsUnquoted : List ℕ → Type 0
IsUnquoted [] = Unit {0}
IsUnquoted (b ∷ bs) = (b == 34) ≡ false

-- IsBad bs k: no token and no gap is at the front of bs, and the byte at k, or the end of the text there,
-- is the first that begins or continues none: the 33rd byte of a word, what a string can't hold, or a stray
-- byte
pub data IsBad : List ℕ → ℕ → Type 0 where
  bad_word : (c : ℕ) (cs rest : List ℕ) → starts_word c ≡ true → list_all is_word_byte cs ≡ true
      → Stops is_word_byte rest → 31 < length cs → IsBad (c ∷ (cs ++ rest)) 32
  bad_text : (cs rest : List ℕ) → list_all is_text_byte cs ≡ true → Stops is_text_byte rest → IsUnquoted rest
      → IsBad (34 ∷ (cs ++ rest)) (length cs + 1)
  bad_sign : (c : ℕ) (rest : List ℕ) → begins_gap c ≡ false → starts_word c ≡ false → is_digit c ≡ false
      → (c == 34) ≡ false → is_sign c ≡ false → (pairs c ≡ true → Stops (λ b. b == 61) rest)
      → IsBad (c ∷ rest) 0

-- Read p bs ts tail: the text bs, whose first byte is at p, is the tokens ts with gaps round them, and
-- after them tail: the end of the text, or the first byte that begins or continues no token. A comment
-- goes from `#` to before the next LF or the end of the text, and may hold any bytes.
pub data Read : Place → List ℕ → List Lexeme → Tail → Type 0 where
  at_text_end : {p : Place} → Read p [] [] (AtEnd p)
  at_bad_byte : {p : Place} {bs : List ℕ} (k : ℕ) → IsBad bs k → Read p bs [] (AtBad (after (take k bs) p))
  a_blank : {p : Place} {b : ℕ} {bs : List ℕ} {ts : List Lexeme} {tail : Tail} → is_blank b ≡ true
      → Read (after_byte b p) bs ts tail → Read p (b ∷ bs) ts tail
  a_comment : {p : Place} (cs bs : List ℕ) {ts : List Lexeme} {tail : Tail} → list_all no_line_end cs ≡ true
      → Stops no_line_end bs → Read (after (35 ∷ cs) p) bs ts tail → Read p (35 ∷ (cs ++ bs)) ts tail
  a_token : {p : Place} (xs bs : List ℕ) {f : Form} {ts : List Lexeme} {tail : Tail} → Front xs bs f
      → Read (after xs p) bs ts tail → Read p (xs ++ bs) (mark p (token_in f xs) ∷ ts) tail
