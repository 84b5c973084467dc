use Rattle.std.proofs.Common.{◌≡◌, ◌≤◌, ◌+◌, fold, max, map}
use Rattle.std.specs.List.{range_with_len}
use Rattle.pl_spec.specs.Limits.{most_terms}
use Rattle.pl_terms.specs.Nodes.{graph_of}
use Rattle.pl_planner.specs.Columns.{held_at}
use Rattle.pl_planner.proofs.columns.bound_of.Given as goal

abbrev pub invariant-loop-k : goal.invariant-loop-k
invariant-loop-k l = record {
  most : l.bound ≡ fold max 0 (map (held_at (graph_of l.graph) l.uses) (range_with_len 0 l.k));
  few : l.bound ≤ most_terms + 5;
}
