use Rattle.pl_invariance.proofs.Origins.{pairs-have-no-origin}
use Rattle.pl_invariance.proofs.laws.pairs_have_no_origin.Goals as goal

pub returns : goal.returns
returns c = pairs-have-no-origin
