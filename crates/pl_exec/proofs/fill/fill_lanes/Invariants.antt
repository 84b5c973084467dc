use Rattle.pl_exec.specs.Tasks.{cell_in}
use Rattle.pl_exec.specs.ChunkInputs.{IsWritten, task_in}
use Rattle.pl_exec.proofs.fill.fill_lanes.Given as goal

abbrev pub invariant-loop-i : goal.invariant-loop-i
invariant-loop-i l = IsWritten (cell_in (task_in l.course) l.course.term.0) l.course.low l.course.count l.i l.course.count l.own
