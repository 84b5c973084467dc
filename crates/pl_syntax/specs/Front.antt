-- What stands at the front of a text that begins with no gap: found by tests and by the lengths of runs.
use Rattle.std.specs.Prelude.{ℕ, ◌+◌, if◌then◌else◌, ◌&&◌, nat_le, ◌==◌, List, [], ◌∷◌, length, drop}
use Rattle.std.specs.List.{take_while}
use Rattle.pl_syntax.specs.Bytes.{is_text_byte, pairs, is_sign, is_blank, no_line_end}
use Rattle.pl_spec.specs.Names.{is_digit, starts_word, is_word_byte}
use Rattle.pl_syntax.specs.declared.front.Form.TheVariants.{Word, Number, Text, One, Two}
use Rattle.pl_syntax.specs.declared.front.Found.{Found}
use Rattle.pl_syntax.specs.declared.front.Found.TheVariants.{End, Bad, Token}

abbrev pub word_front : ℕ → Found
word_front n = if nat_le n 32 then Token (Word n) else Bad 32

abbrev pub fraction_behind : ℕ → List ℕ → Found
fraction_behind n [] = Token (Number n 0)
fraction_behind n (b ∷ bs) =
    if b == 46 then Token (Number n (length (take_while is_digit bs))) else Token (Number n 0)

abbrev pub text_end : ℕ → List ℕ → Found
text_end n [] = Bad n
text_end n (b ∷ bs) = if b == 34 then Token (Text (n + 1)) else Bad n

abbrev pub sign_front : ℕ → List ℕ → Found
sign_front c [] = if is_sign c then Token (One c) else Bad 0
sign_front c (b ∷ bs) =
    if pairs c && (b == 61) then Token (Two c) else if is_sign c then Token (One c) else Bad 0

-- a number with so many digits in front
abbrev digits_front : ℕ → List ℕ → Found
digits_front n bs = fraction_behind n (drop n bs)

-- a text with so many bytes after its first quote
abbrev quoted_front : ℕ → List ℕ → Found
quoted_front n bs = text_end (n + 1) (drop n bs)

unfoldable pub front : List ℕ → Found
front [] = End
front (c ∷ bs) =
    if starts_word c then word_front (length (take_while is_word_byte (c ∷ bs)))
    else if is_digit c then digits_front (length (take_while is_digit (c ∷ bs))) (c ∷ bs)
    else if c == 34 then quoted_front (length (take_while is_text_byte bs)) bs
    else sign_front c bs

-- how many bytes of a gap stand in front: a blank, or a comment, or none
abbrev pub gap_front : List ℕ → ℕ
gap_front [] = 0
gap_front (b ∷ bs) = if is_blank b then 1 else if b == 35 then length (take_while no_line_end bs) + 1 else 0
