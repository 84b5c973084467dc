use Rattle.pl_spec.proofs.Numbers.{numbers_look_back}
use Rattle.pl_numbers.proofs.laws.numbers_look_back.Goals as goal

pub returns : goal.returns
returns c = numbers_look_back
