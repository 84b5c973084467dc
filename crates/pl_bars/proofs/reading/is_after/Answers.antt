use Rattle.std.proofs.Common.{◌-◌, ◌∙◌, length, sym, arith}
use Rattle.pl_bars.proofs.BarOrder.{last_after}
use Rattle.pl_bars.proofs.reading.is_after.Goals as goal

pub returns-else-count-eq0 : goal.returns-else-count-eq0
returns-else-count-eq0 c = λ t k d h.
    last_after c.args.before.now c.args.bar.now (length c.args.before.now - 1) _ (omega (arith, c.if-count-eq0.false)) (sym c.rises.ensures ∙ t) k d h
