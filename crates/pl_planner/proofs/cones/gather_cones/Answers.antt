use Rattle.std.proofs.Common.{ap, ◌∙◌}
use Rattle.pl_pipeline.specs.Cones.{cone_depths}
use Rattle.pl_terms.specs.Nodes.{graph_of}
use Rattle.pl_planner.specs.Cones.{cones_of}
use Rattle.pl_planner.proofs.Coned.{cones-none, cones-more}
use Rattle.pl_planner.proofs.cones.gather_cones.Goals as goal

pub loop-k-init : goal.loop-k-init
loop-k-init c = ap cones_of c.in_ok-cones.ensures.items ∙ cones-none

pub loop-k-preserved : goal.loop-k-preserved
loop-k-preserved c =
    cones-more (cone_depths (graph_of c.args.graph.now)) c.loop-k.k c.loop-k.cones.items c.push.new.self.items c.in_ok-cone_of.field-0 c.loop-k.invariant c.in_ok-push.ensures.items c.in_ok-cone_of.ensures
