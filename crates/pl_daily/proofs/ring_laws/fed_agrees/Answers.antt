use Rattle.pl_daily.proofs.Fed.{fed_agrees}
use Rattle.pl_daily.proofs.ring_laws.fed_agrees.Goals as goal

pub returns : goal.returns
returns c = fed_agrees
