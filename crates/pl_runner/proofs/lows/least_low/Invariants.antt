use Rattle.pl_runner.proofs.Terms.{IsSoFar}
use Rattle.pl_runner.proofs.lows.least_low.Given as goal

abbrev pub invariant-loop-t : goal.invariant-loop-t
invariant-loop-t l = IsSoFar l.asked.plan.now l.from l.t l.low
