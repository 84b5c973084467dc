use Rattle.std.proofs.Common.{◌≡◌, ◌-◌}
use Rattle.pl_terms.specs.Kinds.{kind_of}
use Rattle.pl_regression.specs.Sums.{AreSums}
use Rattle.pl_factors.specs.Lanes.{AreGiven}
use Rattle.pl_factors.specs.Regressions.{sums_at, regression_at}
use Rattle.pl_factors.proofs.regressions.fill_regressions.Given as goal

abbrev pub invariant-loop-k : goal.invariant-loop-k
invariant-loop-k l = record {
  sums : l.sums ≡ sums_at l.size l.a l.b (l.k - 1);
  small : AreSums l.sums;
  values : AreGiven (regression_at (kind_of l.kind) l.size l.a l.b) l.k l.out;
}
