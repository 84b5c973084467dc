use Rattle.std.proofs.Common.{ap, arith, length}
use Rattle.pl_adjust.proofs.Kept.{length-in_columns}
use Rattle.pl_adjust.proofs.Made.{by_day_each}
use Rattle.pl_adjust.proofs.Adjustments.len.Goals as goal

pub returns-clause-length : goal.returns-clause-length
returns-clause-length c =
    let view = ap length c.self.view_is in
    omega (arith, view, length-in_columns c.self.inside.cols.items c.self.inside.adjusts.items c.self.invariant.0.as_many)

pub returns-clause-in_order : goal.returns-clause-in_order
returns-clause-in_order c = rw (← c.self.view_is) (by_day_each _ c.self.invariant.0.sorted)

pub returns-clause-cells : goal.returns-clause-cells
returns-clause-cells c = rw (← c.self.view_is) c.self.invariant.0.puts
