use Rattle.pl_derivation.proofs.Standing.{right_is}
use Rattle.pl_derivation.proofs.laws.right_is_true.Goals as goal

pub returns : goal.returns
returns c w p known ok lines e l f at = right_is w p known ok lines e l f at
