-- What is proved of texts.
use Rattle.std.specs.Prelude.{ℕ, ◌≡◌, List}
use Rattle.pl_grammar.specs.declared.Place.{Place}
use Rattle.pl_grammar.specs.Tree.{Lexeme}
use Rattle.pl_grammar.specs.Faults.{Tail}
use Rattle.pl_syntax.specs.Text.{Read}

-- each text is some tokens and what is after them
abbrev pub EachIsRead : Type 0
EachIsRead = (p : Place) (bs : List ℕ) → (ts : List Lexeme) × (tail : Tail) × Read p bs ts tail

-- and no others
abbrev pub OneReading : Type 0
OneReading = (p : Place) (bs : List ℕ) (ts us : List Lexeme) (x y : Tail) → Read p bs ts x → Read p bs us y
    → (ts ≡ us) × (x ≡ y)
