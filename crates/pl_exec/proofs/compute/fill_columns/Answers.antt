use Rattle.pl_exec.proofs.Levels.{rows_begin}
use Rattle.pl_exec.proofs.compute.fill_columns.Goals as goal

pub fill_from-requires-clause-free : goal.fill_from-requires-clause-free
fill_from-requires-clause-free g c = c.requires.free

pub fill_from-requires-clause-cells : goal.fill_from-requires-clause-cells
fill_from-requires-clause-cells g c = rows_begin _ _ _ _
