use Rattle.pl_planner.proofs.Covers.{reads-covered}
use Rattle.pl_planner.proofs.laws.reads_are_covered.Goals as goal

pub returns : goal.returns
returns c = reads-covered
