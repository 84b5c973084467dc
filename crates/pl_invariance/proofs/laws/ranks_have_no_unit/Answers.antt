use Rattle.pl_invariance.proofs.Ranked.{ranks-have-no-unit}
use Rattle.pl_invariance.proofs.laws.ranks_have_no_unit.Goals as goal

pub returns : goal.returns
returns c = ranks-have-no-unit
