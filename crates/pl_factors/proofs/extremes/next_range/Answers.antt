use Rattle.std.proofs.Common.{true, false, ap, ◌∙◌}
use Rattle.pl_factors.specs.Kept.{Kept}
use Rattle.pl_factors.proofs.Bounds.{before-cells}
use Rattle.pl_factors.proofs.Peaks.{best-cell, narrow-cell, narrow-fits}
use Rattle.pl_factors.proofs.extremes.next_range.Goals as goal

pub overflow_cast-kept-inside : goal.overflow_cast-kept-inside
overflow_cast-kept-inside c =
    narrow-fits _ _ (ap (λ (k : Kept). k.main) (c.kept.view_is ∙ c.requires.stands)) (best-cell true _ (before-cells _ c.requires.lows))

pub next_best-main-requires-clause-is : goal.next_best-main-requires-clause-is
next_best-main-requires-clause-is c =
    narrow-cell _ _ (ap (λ (k : Kept). k.main) (c.kept.view_is ∙ c.requires.stands)) (best-cell true _ (before-cells _ c.requires.lows))

pub overflow_cast-kept-inside-2 : goal.overflow_cast-kept-inside-2
overflow_cast-kept-inside-2 c =
    narrow-fits _ _ (ap (λ (k : Kept). k.beside) (c.kept.view_is ∙ c.requires.stands)) (best-cell false _ (before-cells _ c.requires.highs))

pub next_best-beside-requires-clause-is : goal.next_best-beside-requires-clause-is
next_best-beside-requires-clause-is c =
    narrow-cell _ _ (ap (λ (k : Kept). k.beside) (c.kept.view_is ∙ c.requires.stands)) (best-cell false _ (before-cells _ c.requires.highs))
