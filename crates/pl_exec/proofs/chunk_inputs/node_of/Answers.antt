use Rattle.std.proofs.Common.{◌≡◌, length, ap, ◌∙◌, sym, arith, slice_get}
use Rattle.pl_terms.proofs.Graphs.{graph-long, graph-at}
use Rattle.pl_exec.proofs.chunk_inputs.node_of.Goals as goal

pub node-requires : goal.node-requires
node-requires c =
    let l = graph-long c.args.chunk.now.checked.now.graph in
    let e : length c.graph.result.now ≡ length c.args.chunk.now.checked.now.graph = ap (λ g. length g) c.graph.ensures.value in
    omega (arith, c.requires)

pub returns : goal.returns
returns c = graph-at c.args.chunk.now.checked.now.graph c.args.term.0 c.node.result.now (ap (λ g. slice_get g c.args.term.0) (sym c.graph.ensures.value) ∙ c.node.ensures)
