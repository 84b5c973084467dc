use Rattle.std.proofs.Common.{rules}
use Rattle.pl_planner.proofs.Coned.{any-first}
use Rattle.pl_planner.proofs.cones.+any_terms.Goals as goal

pub returns-in-len1-up : goal.returns-in-len1-up
returns-in-len1-up t c =
    let first = any-first c.args.cones.now c.first-item.result c.in-len1-up.len_at_least c.first-item.is in
    rw first (search rules)
