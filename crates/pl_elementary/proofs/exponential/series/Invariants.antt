use Rattle.std.proofs.Common.{◌-◌}
use Rattle.pl_elementary.proofs.Terms.{IsSum}
use Rattle.pl_elementary.proofs.exponential.series.Given as goal

abbrev pub invariant-terms : goal.invariant-terms
invariant-terms l = IsSum l.sum l.k l.term l.v

abbrev pub decreases-terms : goal.decreases-terms
decreases-terms l = 111 - l.k
