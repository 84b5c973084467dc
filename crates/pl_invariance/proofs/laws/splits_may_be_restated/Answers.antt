use Rattle.pl_invariance.proofs.Restated.{splits-may-be-restated}
use Rattle.pl_invariance.proofs.laws.splits_may_be_restated.Goals as goal

pub returns : goal.returns
returns c = splits-may-be-restated
