use Rattle.std.proofs.Common.{◌≡◌, ℕ, ◌<◌, length, get_or, slice_get, Some}
use Rattle.pl_spec.specs.Limits.{most_columns}
use Rattle.pl_pipeline.specs.Table.{NamedColumn}
use Rattle.pl_terms.specs.Checked.{pipeline_of}
use Rattle.pl_terms.specs.Sorts.{sort_at}
use Rattle.pl_table.specs.Fields.{sort_written}
use Rattle.pl_table.specs.declared.writing.Writing.TheVariants.{Cell}
use Rattle.pl_table.proofs.writing.writings_of.Given as goal

abbrev pub invariant-loop-column : goal.invariant-loop-column
invariant-loop-column l = record {
  long : length l.writings ≡ most_columns;
  each : (k : ℕ) (c : NamedColumn) → k < l.column → slice_get (pipeline_of l.checked).columns k ≡ Some c → sort_at (pipeline_of l.checked).graph c.term ≡ Some (sort_written (get_or l.writings k Cell));
}
