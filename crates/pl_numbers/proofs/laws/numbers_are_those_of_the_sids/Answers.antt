use Rattle.pl_numbers.proofs.NumberWorlds.{numbers_those}
use Rattle.pl_numbers.proofs.laws.numbers_are_those_of_the_sids.Goals as goal

pub returns : goal.returns
returns c = numbers_those
