use Rattle.std.proofs.Common.{◌≡◌, ◌<◌, ap, ◌∙◌, sym, length, arith, slice_get, rules}
use Rattle.pl_spec.specs.Limits.{most_terms}
use Rattle.pl_terms.proofs.Graphs.{graph-long, graph-at}
use Rattle.pl_planner.proofs.pipeline.node_at.Goals as goal

pub overflow_cast-k : goal.overflow_cast-k
overflow_cast-k c =
    let small : c.args.k < most_terms = omega (arith, c.requires.within, c.requires.few) in
    search rules

pub node-requires : goal.node-requires
node-requires c =
    let e : length c.graph.result.now ≡ length c.args.checked.now.graph = ap (λ ns. length ns) c.graph.ensures.value in
    omega (arith, e, graph-long c.args.checked.now.graph, c.requires.within)

pub returns : goal.returns
returns c =
    graph-at c.args.checked.now.graph c.args.k c.node.result.now (ap (λ ns. slice_get ns c.args.k) (sym c.graph.ensures.value) ∙ c.node.ensures)
