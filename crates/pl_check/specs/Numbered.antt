-- The first call of the function `number` in a script, and the terms that such calls make.
use Rattle.std.specs.Prelude.{◌≡◌, ◌↔◌, ℕ, Bool, List, [], ◌∷◌, ◌++◌, codes, Option, Some, IsSome, option_map, bytes_eq, slice_get, Ok}
use Rattle.std.specs.List.{find}
use Rattle.pl_spec.specs.declared.Figure.{Figure}
use Rattle.pl_pipeline.specs.Kind.{Number}
use Rattle.pl_pipeline.specs.Term.{Graph, Node}
use Rattle.pl_pipeline.specs.Table.{Pipeline}
use Rattle.pl_grammar.specs.declared.Place.{Place}
use Rattle.pl_grammar.specs.Tree.{Tree, number, text, name, call, prefix, binary, member, method, Args, no_args, arg}
use Rattle.pl_grammar.specs.Script.{Statement}
use Rattle.pl_syntax.specs.Spells.{Parsed}
use Rattle.pl_check.specs.Typed.{typed}

-- a call of a function: the function's name, and its place
pub record Call : Type 0 where
  pub place : Place
  pub name : List ℕ

-- the calls of functions in an expression, in the order of the text
unfoldable mutual
  pub calls : Tree → List Call
  calls (number p n) = []
  calls (text p t) = []
  calls (name p n) = []
  calls (call p f ps) = record { place = p; name = f } ∷ calls_among ps
  calls (prefix p s e) = calls e
  calls (binary p s a b) = calls a ++ calls b
  calls (member p e m) = calls e
  calls (method p e m ps) = calls e ++ calls_among ps

  pub calls_among : Args → List Call
  calls_among no_args = []
  calls_among (arg n e ps) = calls e ++ calls_among ps

unfoldable pub statement_calls : List Statement → List Call
statement_calls [] = []
statement_calls (s ∷ ss) = calls s.tree ++ statement_calls ss

abbrev pub is_number : Call → Bool
is_number c = bytes_eq c.name (codes "number")

abbrev pub first_place : List Call → Option Place
first_place cs = option_map (λ c. c.place) (find is_number cs)

-- the place of the first call of a function whose name is `number`
unfoldable pub first_number : Parsed → Option Place
first_number s = first_place (statement_calls s.statements)

-- a term of the graph is a number of a file
abbrev pub HasNumber : Graph → Type 0
HasNumber g = (k name : ℕ) × (figure : Figure) × (n : Node) × (slice_get g k ≡ Some n) × (n.kind ≡ Number figure name)

-- a typed script has such a term exactly where it calls that function
abbrev pub NumbersAreCalled : Type 0
NumbersAreCalled = (s : Parsed) (p : Pipeline) → typed s ≡ Ok p → IsSome (first_number s) ↔ HasNumber p.graph
