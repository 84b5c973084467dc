use Rattle.std.proofs.Common.{◌≡◌, ◌++◌, take}
use Rattle.std.specs.Prelude.{flat_map}
use Rattle.pl_terms.specs.Checked.{pipeline_of}
use Rattle.pl_table.specs.Fields.{column_part}
use Rattle.pl_table.proofs.Lines.{front_of}
use Rattle.pl_table.proofs.header.make_header.Given as goal

abbrev pub invariant-loop-column : goal.invariant-loop-column
invariant-loop-column l =
    l.text.items ≡ front_of l.format ++ flat_map (column_part l.format (pipeline_of l.checked).graph) (take l.column (pipeline_of l.checked).columns)
