use Rattle.std.proofs.Common.{◌≡◌, ◌+◌, ◌<◌, ◌≤◌, ℕ, pos, get_or}
use Rattle.pl_values.specs.Arrays.{chosen, is_kept}
use Rattle.pl_exec.specs.Tasks.{sids_in}
use Rattle.pl_exec.specs.ChunkInputs.{node_in, task_in}
use Rattle.pl_exec.proofs.keep.keep_cells.Given as goal

abbrev pub invariant-loop-j : goal.invariant-loop-j
invariant-loop-j l = record {
  done : (n : ℕ) → n < l.j → get_or l.out n (pos 0) ≡ chosen (is_kept (task_in l.lane.course.now).world (task_in l.lane.course.now).pipeline (sids_in (task_in l.lane.course.now)) (node_in l.lane.course.now).mask l.lane.i (l.lane.course.now.low + n)) (get_or l.fn.out n (pos 0)) l.lane.course.now.empty;
  rest : (n : ℕ) → l.j ≤ n → get_or l.out n (pos 0) ≡ get_or l.fn.out n (pos 0);
}
