use Rattle.pl_numbers.proofs.NumberWorlds.{known_those}
use Rattle.pl_numbers.proofs.laws.known_days_are_those_of_the_sids.Goals as goal

pub returns : goal.returns
returns c = known_those
