use Rattle.std.proofs.Common.{◌≡◌, ◌≤◌}
use Rattle.std.specs.List.{range_with_len, count_by}
use Rattle.pl_planner.specs.Uses.{is_kept}
use Rattle.pl_planner.proofs.columns.live_at.Given as goal

abbrev pub invariant-loop-t : goal.invariant-loop-t
invariant-loop-t l = record {
  live : l.live ≡ count_by (is_kept l.uses l.k) (range_with_len 0 l.t);
  few : l.live ≤ l.t;
}
