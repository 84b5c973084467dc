use Rattle.std.proofs.Common.{length}
use Rattle.pl_planner.proofs.cones.+any_terms.Given as goal

abbrev pub decreases-any_terms : goal.decreases-any_terms
decreases-any_terms l = length l.cones.now
