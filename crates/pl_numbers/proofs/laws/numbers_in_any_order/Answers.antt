use Rattle.pl_numbers.proofs.NumbersMoved.{numbers-moved}
use Rattle.pl_numbers.proofs.laws.numbers_in_any_order.Goals as goal

pub returns : goal.returns
returns c = numbers-moved
