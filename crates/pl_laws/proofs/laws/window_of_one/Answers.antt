use Rattle.pl_laws.proofs.NoEvents.{window_of-one}
use Rattle.pl_laws.proofs.laws.window_of_one.Goals as goal

pub returns : goal.returns
returns c w term a d = window_of-one w term a d
