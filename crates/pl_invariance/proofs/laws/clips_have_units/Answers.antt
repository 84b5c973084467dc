use Rattle.pl_invariance.proofs.Operated.{clips-have-units}
use Rattle.pl_invariance.proofs.laws.clips_have_units.Goals as goal

pub returns : goal.returns
returns c = clips-have-units
