use Rattle.std.proofs.Common.{◌≡◌, ◌-◌}
use Rattle.pl_terms.specs.Kinds.{kind_of}
use Rattle.pl_pipeline.specs.Formula.{trend_sums}
use Rattle.pl_regression.specs.Sums.{AreSums}
use Rattle.pl_factors.specs.Lanes.{AreGiven, window_at}
use Rattle.pl_factors.specs.Trends.{trend_at}
use Rattle.pl_factors.proofs.trends.fill_trends.Given as goal

abbrev pub invariant-loop-k : goal.invariant-loop-k
invariant-loop-k l = record {
  sums : l.sums ≡ trend_sums (window_at l.size (l.k - 1) l.a);
  small : AreSums l.sums;
  values : AreGiven (trend_at (kind_of l.kind) l.size l.a) l.k l.out;
}
