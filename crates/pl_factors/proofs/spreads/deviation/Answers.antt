use Rattle.std.proofs.Common.{arith, ap, refl, ◌∙◌}
use Rattle.pl_factors.proofs.Exact.{same}
use Rattle.pl_factors.specs.Kept.{Kept}
use Rattle.pl_factors.proofs.Bounds.{products-within}
use Rattle.pl_factors.proofs.spreads.deviation.Goals as goal

pub deviation_of-requires-clause-small : goal.deviation_of-requires-clause-small
deviation_of-requires-clause-small c =
    let w = products-within c.args.a.now c.args.a.now c.requires.cells c.requires.cells refl c.requires.few in
    rw (same _ _ (ap (λ (k : Kept). k.beside) (c.kept.view_is ∙ c.requires.stands)) (omega (arith, w))) w
