use Rattle.pl_invariance.proofs.Scales.{regressions-have-units}
use Rattle.pl_invariance.proofs.laws.regressions_have_units.Goals as goal

pub returns : goal.returns
returns c = regressions-have-units
