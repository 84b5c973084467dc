use Rattle.pl_invariance.proofs.Shares.{scales-add-up}
use Rattle.pl_invariance.proofs.laws.scales_add_up.Goals as goal

pub returns : goal.returns
returns c = scales-add-up
