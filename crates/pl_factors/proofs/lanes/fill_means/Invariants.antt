use Rattle.std.proofs.Common.{◌≡◌, ◌-◌}
use Rattle.pl_factors.specs.Kept.{sums}
use Rattle.pl_factors.specs.Lanes.{AreGiven, window_at}
use Rattle.pl_factors.proofs.Following.{mean_at}
use Rattle.pl_factors.proofs.lanes.fill_means.Given as goal

abbrev pub invariant-loop-k : goal.invariant-loop-k
invariant-loop-k l = record {
  stands : l.kept ≡ sums (window_at l.size (l.k - 1) l.a);
  means : AreGiven (mean_at l.size l.a) l.k l.out;
}
