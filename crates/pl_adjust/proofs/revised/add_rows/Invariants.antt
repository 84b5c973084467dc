use Rattle.std.proofs.Common.{◌≡◌, ◌++◌, drop, map}
use Rattle.pl_adjust.specs.Revised.{revised_columns}
use Rattle.pl_adjust.specs.Rows.{row_of}
use Rattle.pl_adjust.proofs.revised.add_rows.Given as goal

abbrev pub invariant-loop-revision : goal.invariant-loop-revision
invariant-loop-revision l = record {
  rows : map row_of l.rows.items ++ revised_columns l.assets (drop l.revision-index l.revisions)
      ≡ map row_of l.fn.rows.items ++ revised_columns l.assets l.revisions;
}
