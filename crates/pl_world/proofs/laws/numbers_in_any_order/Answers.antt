use Rattle.pl_world.proofs.NumbersMoved.{numbers-in-any-order}
use Rattle.pl_world.proofs.laws.numbers_in_any_order.Goals as goal

pub returns : goal.returns
returns c = numbers-in-any-order
