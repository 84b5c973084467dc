use Rattle.pl_cross.proofs.Allowed.{allowed-right}
use Rattle.pl_cross.proofs.laws.allowed_parameters_are_right.Goals as goal

pub returns : goal.returns
returns c = allowed-right
