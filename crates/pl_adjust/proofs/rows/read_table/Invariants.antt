use Rattle.std.proofs.Common.{◌≡◌, ◌+◌, ◌++◌, drop, map}
use Rattle.pl_spec.specs.Order.{of_table}
use Rattle.pl_adjust.specs.Columns.{in_column}
use Rattle.pl_adjust.specs.Rows.{row_of}
use Rattle.pl_adjust.specs.Walk.{first_fault, in_table, kind_of}
use Rattle.pl_adjust.proofs.rows.read_table.Given as goal

-- what was appended, and the fault that is left to be met
abbrev pub invariant-loop-i : goal.invariant-loop-i
invariant-loop-i l = record {
  rows : map row_of l.rows.items ++ map (in_column l.assets) (of_table l.assets (kind_of l.table) (drop l.i l.raw))
      ≡ map row_of l.fn.rows.items ++ map (in_column l.assets) (of_table l.assets (kind_of l.table) l.raw);
  fault : first_fault (l.before + l.i) (in_table l.table (drop l.i l.raw)) ≡ first_fault l.before (in_table l.table l.raw);
}
