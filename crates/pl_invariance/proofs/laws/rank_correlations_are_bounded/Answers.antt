use Rattle.pl_invariance.proofs.Ordered.{rank-correlations-are-bounded}
use Rattle.pl_invariance.proofs.laws.rank_correlations_are_bounded.Goals as goal

pub returns : goal.returns
returns c = rank-correlations-are-bounded
