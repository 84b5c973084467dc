use Rattle.pl_invariance.proofs.Compared.{changes-have-no-unit}
use Rattle.pl_invariance.proofs.laws.changes_have_no_unit.Goals as goal

pub returns : goal.returns
returns c = changes-have-no-unit
