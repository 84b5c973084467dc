use Rattle.pl_invariance.proofs.Paired.{values-explain-themselves}
use Rattle.pl_invariance.proofs.laws.values_explain_themselves.Goals as goal

pub returns : goal.returns
returns c = values-explain-themselves
