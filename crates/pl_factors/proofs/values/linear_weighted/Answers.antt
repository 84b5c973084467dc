use Rattle.std.proofs.Common.{arith, ap, ◌∙◌}
use Rattle.pl_factors.specs.Kept.{Kept}
use Rattle.pl_factors.proofs.Bounds.{placed-within}
use Rattle.pl_factors.proofs.KeptExact.{not-least}
use Rattle.pl_factors.proofs.values.linear_weighted.Goals as goal

pub quot-requires-clause-dividend : goal.quot-requires-clause-dividend
quot-requires-clause-dividend c =
    let w = placed-within c.args.a.now c.requires.cells c.requires.few in
    not-least _ _ (ap (λ (k : Kept). k.beside) (c.kept.view_is ∙ c.requires.stands)) (omega (arith, w))
