use Rattle.pl_invariance.proofs.Paired.{pairs-have-no-order}
use Rattle.pl_invariance.proofs.laws.pairs_have_no_order.Goals as goal

pub returns : goal.returns
returns c = pairs-have-no-order
