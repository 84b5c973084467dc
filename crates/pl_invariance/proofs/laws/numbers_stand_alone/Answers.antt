use Rattle.pl_invariance.proofs.Alone.{numbers-stand-alone}
use Rattle.pl_invariance.proofs.laws.numbers_stand_alone.Goals as goal

pub returns : goal.returns
returns c = numbers-stand-alone
