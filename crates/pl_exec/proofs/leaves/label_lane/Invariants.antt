use Rattle.std.proofs.Common.{◌<◌, ℕ, get_or, pos}
use Rattle.pl_exec.specs.ChunkInputs.{IsGivenOn}
use Rattle.pl_exec.proofs.leaves.label_lane.Given as goal

abbrev pub invariant-loop-j : goal.invariant-loop-j
invariant-loop-j l = (m : ℕ) → m < l.j → IsGivenOn l.lane.course.now l.lane.i m (get_or l.out m (pos 0))
