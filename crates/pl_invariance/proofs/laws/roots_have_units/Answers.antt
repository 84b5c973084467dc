use Rattle.pl_invariance.proofs.Shapes.{roots-have-units}
use Rattle.pl_invariance.proofs.laws.roots_have_units.Goals as goal

pub returns : goal.returns
returns c = roots-have-units
