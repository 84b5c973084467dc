use Rattle.std.proofs.Common.{◌-◌, ◌∙◌, length, sym, arith}
use Rattle.pl_numbers.proofs.NumberKeys.{all_below}
use Rattle.pl_numbers.proofs.seen.is_above.Goals as goal

pub returns-else-count-eq0 : goal.returns-else-count-eq0
returns-else-count-eq0 c = λ t.
    all_below c.args.places.now c.args.key c.requires (length c.args.places.now - 1) _ (omega (arith, c.if-count-eq0.false)) (sym c.is_below.ensures ∙ t)
