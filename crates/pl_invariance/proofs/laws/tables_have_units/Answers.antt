use Rattle.pl_invariance.proofs.Tables.{tables-have-units}
use Rattle.pl_invariance.proofs.laws.tables_have_units.Goals as goal

pub returns : goal.returns
returns c = tables-have-units
