use Rattle.std.proofs.Common.{◌-◌, ◌∙◌, sym, arith}
use Rattle.pl_bars.proofs.BarOnward.{before_one}
use Rattle.pl_bars.proofs.onward.are_before.Goals as goal

pub returns-else-place-eq0 : goal.returns-else-place-eq0
returns-else-place-eq0 c = λ t k d h.
    before_one c.args.col c.args.session c.args.rows.now (c.args.place - 1) _ c.requires.rows (omega (arith, c.requires.place, c.if-place-eq0.false))
    (sym c.stands_before.ensures ∙ t) k d (omega (arith, h))
