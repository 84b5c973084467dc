use Rattle.std.proofs.Common.{◌-◌, ◌+◌, ◌≡◌, ◌∙◌, sym, arith, subst}
use Rattle.pl_bars.specs.BarPoint.{IsStretch}
use Rattle.pl_bars.proofs.BarStretch.{stretch_by_last}
use Rattle.pl_bars.proofs.filling.is_stretch.Goals as goal

pub returns-then-last-bars : goal.returns-then-last-bars
returns-then-last-bars c = λ t.
    let all : c.args.count - 1 + 1 ≡ c.args.count = omega (arith, c.if-count-eq0.false) in
    subst (IsStretch c.args.col c.args.first c.args.bars.now c.args.at) all
    (stretch_by_last c.args.col c.args.first c.args.bars.now c.args.at (c.args.count - 1) _ c.requires.bars c.requires.point
    (omega (arith, c.requires.within, c.if-last-bars.true)) (sym c.is_bar_of.ensures ∙ t))
