use Rattle.pl_planner.proofs.Followers.{cones-tell}
use Rattle.pl_planner.proofs.laws.cones_tell_followers.Goals as goal

pub returns : goal.returns
returns c = cones-tell
