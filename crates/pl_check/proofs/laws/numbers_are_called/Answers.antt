use Rattle.pl_check.proofs.NumberCalls.{numbers-called}
use Rattle.pl_check.proofs.laws.numbers_are_called.Goals as goal

pub returns : goal.returns
returns c = numbers-called
