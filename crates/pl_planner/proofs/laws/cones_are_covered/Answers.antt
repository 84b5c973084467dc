use Rattle.pl_planner.proofs.Anew.{cones-covered}
use Rattle.pl_planner.proofs.laws.cones_are_covered.Goals as goal

pub returns : goal.returns
returns c = cones-covered
