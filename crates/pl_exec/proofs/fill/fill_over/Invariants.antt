use Rattle.std.proofs.Common.{◌≡◌}
use Rattle.pl_exec.specs.Tasks.{assets_in, cell_in}
use Rattle.pl_exec.specs.ChunkInputs.{IsWritten, task_in}
use Rattle.pl_exec.proofs.fill.fill_over.Given as goal

abbrev pub invariant-loop-j : goal.invariant-loop-j
invariant-loop-j l = record {
  written : IsWritten (cell_in (task_in l.course) l.course.term.0) l.course.low l.course.count (assets_in (task_in l.course)) l.j l.own;
  cross : l.cross ≡ l.fn.cross;
}
