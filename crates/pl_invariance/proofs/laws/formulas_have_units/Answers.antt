use Rattle.pl_invariance.proofs.Formulas.{formulas-have-units}
use Rattle.pl_invariance.proofs.laws.formulas_have_units.Goals as goal

pub returns : goal.returns
returns c = formulas-have-units
