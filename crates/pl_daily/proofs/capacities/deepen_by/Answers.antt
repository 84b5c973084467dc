use Rattle.std.proofs.Common.{arith, ap, length, ◌≡◌}
use Rattle.pl_terms.proofs.Graphs.{graph-long}
use Rattle.pl_daily.proofs.capacities.deepen_by.Goals as goal

pub cone_at-requires : goal.cone_at-requires
cone_at-requires c =
    let e : length c.graph.result.now ≡ length c.args.checked.now.graph = ap (λ ns. length ns) c.graph.ensures.value in
    let l = graph-long c.args.checked.now.graph in
    omega (arith, e, l, c.requires.within)
