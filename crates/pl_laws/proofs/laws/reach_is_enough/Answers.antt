use Rattle.pl_laws.proofs.Reaches.{reach-value}
use Rattle.pl_laws.proofs.laws.reach_is_enough.Goals as goal

pub returns : goal.returns
returns c w bars low same names t ok = reach-value w bars low same names t ok
