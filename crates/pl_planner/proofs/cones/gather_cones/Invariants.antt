use Rattle.std.proofs.Common.{◌≡◌, map}
use Rattle.std.specs.List.{range_with_len}
use Rattle.pl_pipeline.specs.Cones.{cone_depths}
use Rattle.pl_terms.specs.Nodes.{graph_of}
use Rattle.pl_planner.specs.Cones.{cones_of}
use Rattle.pl_planner.proofs.cones.gather_cones.Given as goal

abbrev pub invariant-loop-k : goal.invariant-loop-k
invariant-loop-k l = cones_of l.cones.items ≡ map (cone_depths (graph_of l.graph)) (range_with_len 0 l.k)
