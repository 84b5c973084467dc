use Rattle.std.proofs.Common.{◌≡◌, ◌+◌, take}
use Rattle.pl_spec.specs.Limits.{saturated}
use Rattle.pl_exec.specs.Tasks.{cell_in}
use Rattle.pl_exec.specs.ChunkInputs.{IsWritten, node_in, steps_of, task_in}
use Rattle.pl_exec.proofs.fill.fill_bars.Given as goal

abbrev pub invariant-loop-i : goal.invariant-loop-i
invariant-loop-i g l = record {
  lanes : IsWritten (cell_in (task_in l.course) l.course.term.0) l.course.low l.course.count l.i l.course.count l.own;
  cost : l.steps ≡ l.fn.steps + steps_of l.course.chunk.now l.course.term.0 (node_in l.course) (take l.i l.course.chunk.now.cols.now);
  applied : l.applied ≡ saturated (steps_of l.course.chunk.now l.course.term.0 (node_in l.course) (take l.i l.course.chunk.now.cols.now));
}
