use Rattle.std.proofs.Common.{◌≡◌, ◌-◌}
use Rattle.pl_terms.specs.Kinds.{kind_of}
use Rattle.pl_factors.specs.Kept.{kept_of}
use Rattle.pl_factors.specs.Lanes.{AreValues, window_at}
use Rattle.pl_factors.proofs.lanes.fill_slid.Given as goal

abbrev pub invariant-loop-k : goal.invariant-loop-k
invariant-loop-k l = record {
  stands : l.running ≡ kept_of (kind_of l.kind) (window_at l.size (l.k - 1) l.a) (window_at l.size (l.k - 1) l.b) (window_at l.size (l.k - 1) l.c);
  values : AreValues (kind_of l.kind) l.size l.a l.b l.c l.k l.out;
}
