use Rattle.pl_invariance.proofs.Renamed.{sids-are-names}
use Rattle.pl_invariance.proofs.laws.sids_are_names.Goals as goal

pub returns : goal.returns
returns c = sids-are-names
