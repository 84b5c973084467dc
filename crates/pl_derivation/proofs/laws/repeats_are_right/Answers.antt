use Rattle.pl_derivation.proofs.Standing.{repeat_is}
use Rattle.pl_derivation.proofs.laws.repeats_are_right.Goals as goal

pub returns : goal.returns
returns c w p known ok lines e l f at stated = repeat_is w p known ok lines e l f at stated
