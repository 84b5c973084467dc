use Rattle.std.proofs.Common.{length}
use Rattle.pl_planner.proofs.steady.+are_still.Given as goal

abbrev pub decreases-are_still : goal.decreases-are_still
decreases-are_still l = length l.inputs.now
