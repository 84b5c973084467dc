use Rattle.std.proofs.Common.{◌≡◌, length}
use Rattle.pl_spec.specs.Limits.{most_terms}
use Rattle.pl_terms.specs.Nodes.{graph_of}
use Rattle.pl_planner.specs.Steady.{AreSteady}
use Rattle.pl_planner.proofs.steady.steady_terms.Given as goal

abbrev pub invariant-loop-k : goal.invariant-loop-k
invariant-loop-k l = record {
  are : AreSteady (graph_of l.graph) l.k l.steady;
  size : length l.steady ≡ most_terms;
}
