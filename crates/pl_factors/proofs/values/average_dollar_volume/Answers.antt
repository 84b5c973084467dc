use Rattle.std.proofs.Common.{arith, ap, ◌∙◌}
use Rattle.pl_factors.specs.Kept.{Kept}
use Rattle.pl_factors.proofs.Bounds.{products-within}
use Rattle.pl_factors.proofs.KeptExact.{not-least}
use Rattle.pl_factors.proofs.values.average_dollar_volume.Goals as goal

pub quot-requires-clause-dividend : goal.quot-requires-clause-dividend
quot-requires-clause-dividend c =
    let w = products-within c.args.a.now c.args.b.now c.requires.cells c.requires.volumes c.requires.paired c.requires.few in
    not-least _ _ (ap (λ (k : Kept). k.beside) (c.kept.view_is ∙ c.requires.stands)) (omega (arith, w))
