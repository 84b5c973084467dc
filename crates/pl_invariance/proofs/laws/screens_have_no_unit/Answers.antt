use Rattle.pl_invariance.proofs.Crossed.{screens-have-no-unit}
use Rattle.pl_invariance.proofs.laws.screens_have_no_unit.Goals as goal

pub returns : goal.returns
returns c = screens-have-no-unit
