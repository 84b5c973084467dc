use Rattle.pl_laws.proofs.Views.{on-stretch}
use Rattle.pl_laws.proofs.laws.stretches_hold.Goals as goal

pub returns : goal.returns
returns c w names a low d s later still t ok = on-stretch w names a low d s later still t ok
