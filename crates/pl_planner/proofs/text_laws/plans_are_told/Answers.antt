use Rattle.pl_planner.proofs.Told.{plans-told}
use Rattle.pl_planner.proofs.text_laws.plans_are_told.Goals as goal

pub returns : goal.returns
returns c = plans-told
