use Rattle.pl_factors.specs.Lanes.{AreGiven, weighted_at}
use Rattle.pl_factors.proofs.lanes.fill_weighted.Given as goal

abbrev pub invariant-loop-k : goal.invariant-loop-k
invariant-loop-k l = AreGiven (weighted_at l.weights l.a) l.k l.out
