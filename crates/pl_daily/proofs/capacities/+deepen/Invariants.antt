use Rattle.std.proofs.Common.{length}
use Rattle.pl_daily.proofs.capacities.+deepen.Given as goal

abbrev pub decreases-deepen : goal.decreases-deepen
decreases-deepen l = length l.cone.now
