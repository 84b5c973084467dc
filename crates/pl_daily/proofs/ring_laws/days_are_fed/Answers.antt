use Rattle.pl_daily.proofs.Moves.{days_are_fed}
use Rattle.pl_daily.proofs.ring_laws.days_are_fed.Goals as goal

pub returns : goal.returns
returns c = days_are_fed
