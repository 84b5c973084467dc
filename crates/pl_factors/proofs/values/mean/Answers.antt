use Rattle.std.proofs.Common.{arith, ap, ◌∙◌}
use Rattle.pl_factors.specs.Kept.{Kept}
use Rattle.pl_factors.proofs.Bounds.{sum-within}
use Rattle.pl_factors.proofs.KeptExact.{not-least}
use Rattle.pl_factors.proofs.values.mean.Goals as goal

pub quot-requires-clause-dividend : goal.quot-requires-clause-dividend
quot-requires-clause-dividend c =
    let w = sum-within c.args.a.now c.requires.cells c.requires.few in
    not-least _ _ (ap (λ (k : Kept). k.main) c.kept.view_is ∙ c.requires.main) (omega (arith, w))
