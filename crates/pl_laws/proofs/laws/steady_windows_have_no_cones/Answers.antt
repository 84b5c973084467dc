use Rattle.pl_laws.proofs.ConeLists.{no-cone-at, reads-mentions}
use Rattle.pl_laws.proofs.laws.steady_windows_have_no_cones.Goals as goal

pub returns : goal.returns
returns c g steady t = record { cone = no-cone-at g steady t; reads = reads-mentions g steady t }
