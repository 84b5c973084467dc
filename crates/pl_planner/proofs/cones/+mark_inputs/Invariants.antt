use Rattle.std.proofs.Common.{length}
use Rattle.pl_planner.proofs.cones.+mark_inputs.Given as goal

abbrev pub decreases-mark_inputs : goal.decreases-mark_inputs
decreases-mark_inputs l = length l.inputs.now
