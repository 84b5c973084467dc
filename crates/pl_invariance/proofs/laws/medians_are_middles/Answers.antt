use Rattle.pl_invariance.proofs.Ordered.{medians-are-middles}
use Rattle.pl_invariance.proofs.laws.medians_are_middles.Goals as goal

pub returns : goal.returns
returns c = medians-are-middles
