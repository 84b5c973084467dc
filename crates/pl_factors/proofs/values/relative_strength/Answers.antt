use Rattle.std.proofs.Common.{◌≤◌, ◌*◌, true, false, arith, ap, ◌∙◌, unsigned_abs}
use Rattle.pl_spec.specs.Limits.{most_window}
use Rattle.pl_spec.specs.Rounding.{LIMIT}
use Rattle.pl_pipeline.specs.Formula.{differences, gains, losses}
use Rattle.pl_factors.proofs.Exact.{same}
use Rattle.pl_factors.specs.Kept.{Kept}
use Rattle.pl_factors.proofs.Bounds.{swings-within}
use Rattle.pl_factors.proofs.values.relative_strength.Goals as goal

pub strength_of-requires : goal.strength_of-requires
strength_of-requires c =
    let xs = c.args.a.now in
    let g : unsigned_abs (gains (differences xs)) ≤ most_window * (2 * LIMIT) = swings-within false xs c.requires.cells c.requires.few in
    let l : unsigned_abs (losses (differences xs)) ≤ most_window * (2 * LIMIT) = swings-within true xs c.requires.cells c.requires.few in
    record {
      gains = rw (same _ _ (ap (λ (k : Kept). k.main) (c.kept.view_is ∙ c.requires.stands)) (omega (arith, g))) g;
      losses = rw (same _ _ (ap (λ (k : Kept). k.beside) (c.kept.view_is ∙ c.requires.stands)) (omega (arith, l))) l;
    }
