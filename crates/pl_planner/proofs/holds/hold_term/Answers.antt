use Rattle.std.proofs.Common.{◌≤◌, ◌∙◌, ap, length, arith}
use Rattle.pl_terms.specs.Nodes.{graph_of, node_of}
use Rattle.pl_terms.proofs.Graphs.{graph-at, graph-long}
use Rattle.pl_planner.specs.Holds.{all_held}
use Rattle.pl_planner.proofs.Held.{border-node, border-past}
use Rattle.pl_planner.proofs.holds.hold_term.Goals as goal

pub returns-then-t-len : goal.returns-then-t-len
returns-then-t-len c =
    c.hold_node.ensures ∙ ap (all_held c.args.uses.now c.args.by)
    (border-node c.args.steady.now (graph_of c.args.graph.now) c.args.t.0 (node_of c.node.result.now) (graph-at c.args.graph.now c.args.t.0 c.node.result.now c.node.ensures))

pub returns-else-t-len : goal.returns-else-t-len
returns-else-t-len c =
    let v = c.len.ensures.value in
    let f = c.if-t-len.false in
    let past : length (graph_of c.args.graph.now) ≤ c.args.t.0 = (let l = graph-long c.args.graph.now in omega arith) in
    ap (all_held c.args.uses.now c.args.by) (border-past c.args.steady.now (graph_of c.args.graph.now) c.args.t.0 past)
