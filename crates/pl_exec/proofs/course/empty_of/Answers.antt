use Rattle.std.proofs.Common.{◌≡◌, length, ap, arith}
use Rattle.pl_terms.proofs.Graphs.{graph-long}
use Rattle.pl_exec.proofs.course.empty_of.Goals as goal

pub empty_value-requires : goal.empty_value-requires
empty_value-requires c =
    let l = graph-long c.args.chunk.now.checked.now.graph in
    let e : length c.graph.result.now ≡ length c.args.chunk.now.checked.now.graph = ap (λ g. length g) c.graph.ensures.value in
    omega (arith, c.requires)
