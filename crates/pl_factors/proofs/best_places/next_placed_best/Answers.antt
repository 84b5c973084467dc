use Rattle.std.proofs.Common.{ap, ◌∙◌}
use Rattle.std.proofs.lemmas.List.Elements.{All-take, All-drop}
use Rattle.pl_spec.specs.Rounding.{IsCell}
use Rattle.pl_factors.specs.Kept.{Kept}
use Rattle.pl_factors.proofs.Bounds.{before-cells}
use Rattle.pl_factors.proofs.Peaks.{best-cell, narrow-cell, narrow-fits}
use Rattle.pl_factors.proofs.best_places.next_placed_best.Goals as goal

pub overflow_cast-best : goal.overflow_cast-best
overflow_cast-best c =
    narrow-fits _ _ (ap (λ (k : Kept). k.main) (c.kept.view_is ∙ c.requires.stands)) (best-cell c.args.low _ (before-cells _ c.requires.cells))

pub placed_best-requires : goal.placed_best-requires
placed_best-requires c = record { cells = All-take IsCell _ _ (All-drop IsCell 1 c.args.a.now c.requires.cells) }

pub joined-requires-clause-best : goal.joined-requires-clause-best
joined-requires-clause-best c =
    narrow-cell _ _ (ap (λ (k : Kept). k.main) (c.kept.view_is ∙ c.requires.stands)) (best-cell c.args.low _ (before-cells _ c.requires.cells))
