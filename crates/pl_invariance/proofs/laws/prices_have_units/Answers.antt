use Rattle.pl_invariance.proofs.Priced.{prices-have-units}
use Rattle.pl_invariance.proofs.laws.prices_have_units.Goals as goal

pub returns : goal.returns
returns c = prices-have-units
