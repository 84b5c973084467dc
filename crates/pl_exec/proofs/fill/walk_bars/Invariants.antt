use Rattle.std.proofs.Common.{◌≡◌, ℕ, ◌+◌, ◌-◌, ◌<◌, ◌≤◌, get_or, length, pos}
use Rattle.pl_exec.specs.ChunkInputs.{AreBars, IsGivenOn, counted, node_in, one_col}
use Rattle.pl_exec.proofs.fill.walk_bars.Given as goal

abbrev pub invariant-loop-done : goal.invariant-loop-done
invariant-loop-done g l = record {
  within : l.done ≤ l.lane.course.now.count;
  given : (m : ℕ) → m < l.done → IsGivenOn l.lane.course.now l.lane.i m (get_or l.out m (pos 0));
  bars : AreBars l.lane.course.now.chunk.now l.lane.course.now.term.0 (node_in l.lane.course.now) (one_col l.lane.course.now.chunk.now l.lane.i) l.done l.bars;
  cost : l.steps ≡ l.fn.steps + counted l.bars;
}

abbrev pub decreases-loop-done : goal.decreases-loop-done
decreases-loop-done g l = length l.out - l.done
