use Rattle.std.proofs.Common.{arith}
use Rattle.pl_terms.proofs.Graphs.{graph-long}
use Rattle.pl_daily.proofs.capacities.is_used.Goals as goal

pub is_used-requires : goal.is_used-requires
is_used-requires c =
    let l = graph-long c.args.checked.now.graph in
    let r = c.requires.within in
    omega arith
