use Rattle.std.proofs.Common.{ap, ◌∙◌}
use Rattle.pl_factors.specs.Kept.{Kept}
use Rattle.pl_factors.proofs.Bounds.{before-cells}
use Rattle.pl_factors.proofs.Peaks.{best-cell, narrow-cell, narrow-fits}
use Rattle.pl_factors.proofs.extremes.next_kept.Goals as goal

pub overflow_cast-kept-inside : goal.overflow_cast-kept-inside
overflow_cast-kept-inside c =
    narrow-fits _ _ (ap (λ (k : Kept). k.main) (c.kept.view_is ∙ c.requires.stands)) (best-cell c.args.low _ (before-cells _ c.requires.cells))

pub next_best-requires-clause-is : goal.next_best-requires-clause-is
next_best-requires-clause-is c =
    narrow-cell _ _ (ap (λ (k : Kept). k.main) (c.kept.view_is ∙ c.requires.stands)) (best-cell c.args.low _ (before-cells _ c.requires.cells))
