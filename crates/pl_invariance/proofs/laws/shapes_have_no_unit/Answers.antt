use Rattle.pl_invariance.proofs.Shapes.{shapes-have-no-unit}
use Rattle.pl_invariance.proofs.laws.shapes_have_no_unit.Goals as goal

pub returns : goal.returns
returns c = shapes-have-no-unit
