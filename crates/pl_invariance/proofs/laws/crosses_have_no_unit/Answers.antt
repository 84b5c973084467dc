use Rattle.pl_invariance.proofs.Crossed.{crosses-have-no-unit}
use Rattle.pl_invariance.proofs.laws.crosses_have_no_unit.Goals as goal

pub returns : goal.returns
returns c = crosses-have-no-unit
