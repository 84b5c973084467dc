-- The tokens of a whole text, found one after the other.
use Rattle.std.specs.Prelude.{ℕ, zero, suc, ◌+◌, if◌then◌else◌, ◌==◌, List, [], ◌∷◌, length, take, drop}
use Rattle.std.specs.List.{take_while}
use Rattle.pl_grammar.specs.declared.Place.{Place}
use Rattle.pl_grammar.specs.Tree as t
use Rattle.pl_grammar.specs.Tree.{Lexeme, mark}
use Rattle.pl_grammar.specs.Faults.{Tail, AtEnd, AtBad}
use Rattle.pl_syntax.specs.declared.front.Found.{Found}
use Rattle.pl_syntax.specs.declared.front.Found.TheVariants.{End, Bad, Token}
use Rattle.pl_syntax.specs.Bytes.{is_blank, no_line_end}
use Rattle.pl_syntax.specs.Tokens.{token_in, form_length}
use Rattle.pl_syntax.specs.Front.{front}
use Rattle.pl_syntax.specs.Text.{start, after, after_byte}

-- tokens, and what is after them
abbrev pub Whole : Type 0
Whole = List Lexeme × Tail

abbrev pub with_token : Place → t.Token → Whole → Whole
with_token p t r = (mark p t ∷ r.0, r.1)

abbrev pub at_found : Place → List ℕ → (Place → List ℕ → Whole) → Found → Whole
at_found p bs k End = ([], AtEnd p)
at_found p bs k (Bad n) = ([], AtBad (after (take n bs) p))
at_found p bs k (Token f) =
    let xs = take (form_length f) bs in
    with_token p (token_in f xs) (k (after xs p) (drop (form_length f) bs))

-- of a text from place p on, in so many steps: over a blank, over a comment, over the token in front
unfoldable pub reading : ℕ → Place → List ℕ → Whole
reading zero p bs = ([], AtEnd p)
reading (suc n) p [] = ([], AtEnd p)
reading (suc n) p (b ∷ bs) =
    let comment = take_while no_line_end bs in
    if is_blank b then reading n (after_byte b p) bs
    else if b == 35 then reading n (after (35 ∷ comment) p) (drop (length comment) bs)
    else at_found p (b ∷ bs) (reading n) (front (b ∷ bs))

-- a step takes a byte at least, so these are enough
abbrev pub whole : List ℕ → Whole
whole bytes = reading (length bytes + 1) start bytes
