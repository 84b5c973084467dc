use Rattle.pl_factors.specs.Lanes.{AreGiven, deviated_at}
use Rattle.pl_factors.proofs.lanes.fill_deviated.Given as goal

abbrev pub invariant-loop-k : goal.invariant-loop-k
invariant-loop-k l = AreGiven (deviated_at l.weights l.a) l.k l.out
