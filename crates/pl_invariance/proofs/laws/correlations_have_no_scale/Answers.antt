use Rattle.pl_invariance.proofs.Scales.{correlations-have-no-scale}
use Rattle.pl_invariance.proofs.laws.correlations_have_no_scale.Goals as goal

pub returns : goal.returns
returns c = correlations-have-no-scale
