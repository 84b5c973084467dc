use Rattle.pl_invariance.proofs.Restating.{worlds-can-be-restated}
use Rattle.pl_invariance.proofs.laws.worlds_can_be_restated.Goals as goal

pub returns : goal.returns
returns c = worlds-can-be-restated
