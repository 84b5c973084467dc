-- What a script means without numbers: the trees of all its terms in the order of judging, equal ones too, and
-- those of its columns and its screen. Kinds, windows and rules are those of the typed script.
use Rattle.std.specs.Prelude.{ℕ, List, [], ◌∷◌, ◌++◌, length, map, Option, Some, option_map, Result, Ok}
use Rattle.pl_pipeline.specs.Term.{Term, Node, Graph, trees, term_at}
use Rattle.pl_pipeline.specs.Table.{NamedColumn, Pipeline}
use Rattle.pl_terms.specs.Nodes.{Interned}
use Rattle.pl_syntax.specs.Spells.{Parsed}
use Rattle.pl_check.specs.Faults.{Broken, ◌>>=◌}
use Rattle.pl_check.specs.Typed.{typed_by}

-- Each node comes last, though an equal one may be there: none is shared, and there is always room.
abbrev pub added : Graph → Node → Option Interned
added g n = Some (record { number = length g; graph = g ++ n ∷ [] })

pub record TreeColumn : Type 0 where
  pub name : List ℕ
  pub tree : Term

abbrev pub tree_column : Graph → NamedColumn → TreeColumn
tree_column g c = record { name = c.name; tree = term_at g c.term }

-- the trees of a script, and the names of the labels and numbers among them
pub record ScriptTrees : Type 0 where
  pub trees : List Term
  pub names : List (List ℕ)
  pub columns : List TreeColumn
  pub screen : Option Term

-- a pipeline without its numbers
abbrev pub trees_of : Pipeline → ScriptTrees
trees_of p = record { trees = trees p.graph; names = p.names; columns = map (tree_column p.graph) p.columns; screen = option_map (term_at p.graph) p.screen }

-- the trees of a script, or its first broken rule; that there may be too many terms is no rule here
unfoldable pub script_trees : Parsed → Result ScriptTrees Broken
script_trees s = typed_by added s >>= λ p. Ok (trees_of p)
