use Rattle.pl_invariance.proofs.Ordered.{percentiles-are-between}
use Rattle.pl_invariance.proofs.laws.percentiles_are_between.Goals as goal

pub returns : goal.returns
returns c = percentiles-are-between
