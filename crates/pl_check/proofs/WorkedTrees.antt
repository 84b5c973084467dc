-- A script with its trees, worked out by hand.
use Rattle.std.specs.Prelude.{◌≡◌, ℕ, pos, [], ◌∷◌, codes, None, Ok, refl}
use Rattle.pl_pipeline.specs.Kind.{Point, Constant, Sub}
use Rattle.pl_pipeline.specs.Term.{Term, absent, node}
use Rattle.pl_grammar.specs.declared.Place.{Place}
use Rattle.pl_grammar.specs.declared.BinarySign.TheVariants as sign
use Rattle.pl_grammar.specs.Tree.{number, binary}
use Rattle.pl_grammar.specs.Script.{ColumnHead}
use Rattle.pl_terms.specs.Sorts.{sort_of, is_safe_kind, is_safe_over}
use Rattle.pl_check.specs.Typed.{asks_factor, object_of, bar_column, factor_value, with_constants, node_made, made, applied, combined, worth, stored, column_judged, statement_judged, statements_judged}
use Rattle.pl_check.specs.Rules.{broken, takes, is_within, is_window, is_safe_for}
use Rattle.pl_check.specs.Results.{kind_for, node_for, result_for, gives_input, columns_of}
use Rattle.pl_check.specs.Operations.{parameters}
use Rattle.pl_check.specs.Parameters.{number_of}
use Rattle.pl_check.specs.Values.{given}
use Rattle.pl_check.specs.Trees.{script_trees}

abbrev at : ℕ → Place
at n = record { line = 1; col = n }

abbrev one : Term
one = node (Constant (pos 1000000)) 1 absent absent absent absent absent

-- `column a = 1 - 1;`: the constant comes twice, and then the difference
difference : script_trees (record {
  version = 1;
  statements = record { head = ColumnHead (at 1) (codes "a"); tree = binary (at 3) sign.Sub (number (at 2) (pos 1000000)) (number (at 4) (pos 1000000)) } ∷ [];
  end = at 5;
})
    ≡ Ok (record {
      trees = one ∷ one ∷ node (Point Sub) 1 one one absent absent absent ∷ [];
      names = [];
      columns = record { name = codes "a"; tree = node (Point Sub) 1 one one absent absent absent } ∷ [];
      screen = None;
    })
unfolding script_trees statements_judged statement_judged worth combined applied made node_made with_constants factor_value node_for stored column_judged asks_factor object_of bar_column broken takes is_within is_window is_safe_for kind_for result_for sort_of is_safe_kind is_safe_over gives_input columns_of parameters number_of given
difference = refl
