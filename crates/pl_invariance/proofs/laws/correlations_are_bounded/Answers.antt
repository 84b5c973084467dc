use Rattle.pl_invariance.proofs.Bounded.{correlations-are-bounded}
use Rattle.pl_invariance.proofs.laws.correlations_are_bounded.Goals as goal

pub returns : goal.returns
returns c = correlations-are-bounded
