use Rattle.pl_spec.proofs.Numbers.{numbers_are_found}
use Rattle.pl_numbers.proofs.laws.numbers_are_found.Goals as goal

pub returns : goal.returns
returns c = numbers_are_found
