use Rattle.pl_terms.specs.Kinds.{kind_of}
use Rattle.pl_factors.specs.Lanes.{AreValues}
use Rattle.pl_factors.proofs.lanes.fill_anew.Given as goal

abbrev pub invariant-loop-k : goal.invariant-loop-k
invariant-loop-k l = AreValues (kind_of l.kind) l.size l.a l.b l.c l.k l.out
