-- How the values of each column of a pipeline are written.
use Rattle.std.specs.Prelude.{◌≡◌, ℕ, List, length, get_or, slice_get, Some}
use Rattle.pl_spec.specs.Limits.{most_columns}
use Rattle.pl_pipeline.specs.Table.{NamedColumn, Pipeline}
use Rattle.pl_terms.specs.Sorts.{sort_at}
use Rattle.pl_table.specs.declared.writing.Writing.{Writing}
use Rattle.pl_table.specs.declared.writing.Writing.TheVariants.{Cell}
use Rattle.pl_table.specs.Fields.{sort_written}

pub record AreWritings (p : Pipeline) (writings : List Writing) : Type 0 where
  pub long : length writings ≡ most_columns
  pub each : (k : ℕ) (c : NamedColumn) → slice_get p.columns k ≡ Some c → sort_at p.graph c.term ≡ Some (sort_written (get_or writings k Cell))
