-- The names under which the text of a plan has kinds.
use Rattle.std.specs.Prelude.{ℕ, List}
use Rattle.pl_pipeline.specs.Kind.{Kind}
use Rattle.pl_terms.specs.Rows.{kind_row}

unfoldable pub kind_name : Kind → List ℕ
kind_name k = (kind_row k).name
