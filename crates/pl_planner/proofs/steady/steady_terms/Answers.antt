use Rattle.std.proofs.Common.{◌∙◌, ◌<◌, length, arith, length-set}
use Rattle.pl_terms.specs.Nodes.{graph_of, node_of}
use Rattle.pl_terms.proofs.Graphs.{graph-at, graph-long}
use Rattle.pl_planner.proofs.Steadied.{one-more, still-is, all-told}
use Rattle.pl_planner.proofs.steady.steady_terms.Goals as goal

pub loop-k-preserved : goal.loop-k-preserved
loop-k-preserved c =
    let v = c.len-k-end.ensures.value in
    let t = c.loop-k-test.true in
    let few = c.len-k-end.ensures.few in
    let size = c.loop-k.invariant.size in
    let inside : c.loop-k.k < length (graph_of c.args.graph.now) = (let l = graph-long c.args.graph.now in omega arith) in
    let own = c.is_still.ensures
    ∙ still-is (graph_of c.args.graph.now) c.len-k-end.ensures.graph c.loop-k.k inside c.loop-k.steady c.loop-k.invariant.are (node_of c.node.result.now) (graph-at c.args.graph.now c.loop-k.k c.node.result.now c.node.ensures) in
    record {
      are = one-more (graph_of c.args.graph.now) c.loop-k.k c.loop-k.steady c.is_still.result c.loop-k.invariant.are (omega arith) own;
      size = length-set c.loop-k.steady c.loop-k.k c.is_still.result ∙ size;
    }

pub returns : goal.returns
returns c = all-told (graph_of c.args.graph.now) c.loop-k.k _ c.loop-k.steady c.loop-k.invariant.are
    (let v = c.len-k-end.ensures.value in let t = c.loop-k-test.false in omega arith)
