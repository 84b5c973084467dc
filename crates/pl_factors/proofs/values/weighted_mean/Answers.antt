use Rattle.std.proofs.Common.{arith, ap, ◌∙◌}
use Rattle.pl_factors.specs.Kept.{Kept}
use Rattle.pl_factors.proofs.Bounds.{sum-within, products-within}
use Rattle.pl_factors.proofs.KeptExact.{not-least}
use Rattle.pl_factors.proofs.values.weighted_mean.Goals as goal

pub quot-requires-clause-dividend : goal.quot-requires-clause-dividend
quot-requires-clause-dividend c =
    let w = products-within c.args.a.now c.args.w.now c.requires.cells c.requires.weights c.requires.paired c.requires.few in
    not-least _ _ (ap (λ (k : Kept). k.beside) (c.kept.view_is ∙ c.requires.stands)) (omega (arith, w))

pub quot-requires-clause-divisor : goal.quot-requires-clause-divisor
quot-requires-clause-divisor c =
    let w = sum-within c.args.w.now c.requires.weights (omega (arith, c.requires.few, c.requires.paired)) in
    not-least _ _ (ap (λ (k : Kept). k.main) (c.kept.view_is ∙ c.requires.stands)) (omega (arith, w))
