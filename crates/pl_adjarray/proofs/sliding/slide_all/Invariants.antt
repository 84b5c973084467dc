use Rattle.pl_adjarray.proofs.Slid.{AreSlid}
use Rattle.pl_adjarray.proofs.sliding.slide_all.Given as goal

abbrev pub invariant-loop-i : goal.invariant-loop-i
invariant-loop-i g l = AreSlid l.array l.older l.from l.to l.i l.fn.scratch l.scratch l.fn.steps l.steps l.fn.applied l.applied
