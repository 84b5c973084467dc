use Rattle.pl_invariance.proofs.Indicators.{indicators-have-no-unit}
use Rattle.pl_invariance.proofs.laws.indicators_have_no_unit.Goals as goal

pub returns : goal.returns
returns c = indicators-have-no-unit
