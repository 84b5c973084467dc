use Rattle.pl_daily.proofs.Values.{values_stay}
use Rattle.pl_daily.proofs.laws.values_stay.Goals as goal

pub returns : goal.returns
returns c = values_stay
