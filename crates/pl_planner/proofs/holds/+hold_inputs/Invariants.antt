use Rattle.std.proofs.Common.{length}
use Rattle.pl_planner.proofs.holds.+hold_inputs.Given as goal

abbrev pub decreases-hold_inputs : goal.decreases-hold_inputs
decreases-hold_inputs l = length l.inputs.now
