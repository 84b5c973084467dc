use Rattle.pl_planner.proofs.Anew.{borders-covered}
use Rattle.pl_planner.proofs.laws.borders_are_covered.Goals as goal

pub returns : goal.returns
returns c = borders-covered
