use Rattle.pl_pipeline.specs.Cones.{border_terms}
use Rattle.pl_terms.specs.Nodes.{graph_of}
use Rattle.pl_planner.proofs.Held.{AreHeld}
use Rattle.pl_planner.proofs.holds.hold_borders.Given as goal

abbrev pub invariant-loop-k : goal.invariant-loop-k
invariant-loop-k l = AreHeld l.fn.uses (border_terms (graph_of l.graph)) l.k l.uses
