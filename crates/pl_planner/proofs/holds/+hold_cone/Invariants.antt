use Rattle.std.proofs.Common.{length}
use Rattle.pl_planner.proofs.holds.+hold_cone.Given as goal

abbrev pub decreases-hold_cone : goal.decreases-hold_cone
decreases-hold_cone l = length l.cone.now
