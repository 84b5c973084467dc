-- What is proved of the verdict.
use Rattle.std.specs.Prelude.{◌≡◌, ◌↔◌, List}
use Rattle.pl_grammar.specs.declared.Place.{Place}
use Rattle.pl_grammar.specs.Tree.{Lexeme}
use Rattle.pl_grammar.specs.Script.{Statement, Opening}
use Rattle.pl_grammar.specs.Faults.{Tail, Kind, IsFirst, Spelled, Good, Fault, verdict}

abbrev pub VerdictIsRight : Type 0
VerdictIsRight =
    (ts : List Lexeme) (tail : Tail) →
    ((ss : List Statement) → (verdict 0 Opening ts tail ≡ Good ss) ↔ Spelled ts tail ss)
    × ((k : Kind) (p : Place) → (verdict 0 Opening ts tail ≡ Fault k p) ↔ IsFirst ts tail k p)

abbrev pub OneScript : Type 0
OneScript = (ts : List Lexeme) (tail : Tail) (a b : List Statement) → Spelled ts tail a → Spelled ts tail b
    → a ≡ b
