use Rattle.std.proofs.Common.{◌-◌}
use Rattle.pl_pipeline.specs.Cones.{is_windowed}
use Rattle.pl_terms.specs.Kinds.{kind_of}
use Rattle.pl_terms.specs.Nodes.{node_of}
use Rattle.pl_planner.specs.Cones.{moving_marks}
use Rattle.pl_planner.proofs.Coned.{windowed-adds, not-windowed}
use Rattle.pl_planner.proofs.cones.mark_window.Goals as goal

pub returns-then-is_windowed-clause-adds : goal.returns-then-is_windowed-clause-adds
unfolding node_of
returns-then-is_windowed-clause-adds c =
    windowed-adds c.is_windowed.result (is_windowed (kind_of c.args.node.now.kind)) c.sessions_before-before.result ((node_of c.args.node.now).window - 1) c.args.depths.now c.mark_node.new.depths c.args.steady.now (node_of c.args.node.now).inputs
    c.mark_node.ensures c.is_windowed.ensures c.if-is_windowed.true c.sessions_before-before.ensures.value

pub returns-else-is_windowed-clause-adds : goal.returns-else-is_windowed-clause-adds
unfolding node_of
returns-else-is_windowed-clause-adds c =
    not-windowed c.is_windowed.result (is_windowed (kind_of c.args.node.now.kind)) (moving_marks c.args.steady.now ((node_of c.args.node.now).window - 1) (node_of c.args.node.now).inputs) c.args.depths.now
    c.is_windowed.ensures c.if-is_windowed.false
