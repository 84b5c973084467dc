use Rattle.std.proofs.Common.{◌≤◌, ◌∙◌, length, arith}
use Rattle.pl_spec.specs.World.{column_number}
use Rattle.pl_terms.specs.Nodes.{graph_of, node_of}
use Rattle.pl_terms.proofs.Graphs.{graph-at, graph-long}
use Rattle.pl_planner.proofs.Counting.{bars-node, bars-past}
use Rattle.pl_planner.proofs.columns.term_reads.Goals as goal

pub returns-then-t-len : goal.returns-then-t-len
returns-then-t-len c =
    c.reads.ensures ∙ bars-node (graph_of c.args.graph.now) c.args.t.0 (column_number c.args.column) (node_of c.node.result.now) (graph-at c.args.graph.now c.args.t.0 c.node.result.now c.node.ensures)

pub returns-else-t-len : goal.returns-else-t-len
returns-else-t-len c =
    let v = c.len.ensures.value in
    let f = c.if-t-len.false in
    let past : length (graph_of c.args.graph.now) ≤ c.args.t.0 = (let l = graph-long c.args.graph.now in omega arith) in
    bars-past (graph_of c.args.graph.now) c.args.t.0 (column_number c.args.column) past
