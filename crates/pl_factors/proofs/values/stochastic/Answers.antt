use Rattle.std.proofs.Common.{◌≡◌, ap, refl, ◌∙◌, rules, FitsSigned, w64, to_z, of_z}
use Rattle.std.proofs.lemmas.Int.{to_z-of_z}
use Rattle.pl_pipeline.specs.Formula.{newest}
use Rattle.pl_factors.specs.Kept.{Kept}
use Rattle.pl_factors.proofs.Peaks.{narrow-cell}
use Rattle.pl_factors.proofs.Kept.{kept_cell}
use Rattle.pl_factors.proofs.values.stochastic.Goals as goal

pub returns-clause-value : goal.returns-clause-value
returns-clause-value c =
    let fr : FitsSigned w64 c.stochastic_of.result = search rules in
    let fn : FitsSigned w64 c.newest.result = search rules in
    let low = narrow-cell _ _ (ap (λ (k : Kept). k.main) c.kept.view_is) c.requires.low in
    let high = narrow-cell _ _ (ap (λ (k : Kept). k.beside) c.kept.view_is) c.requires.high in
    let close : to_z w64 (of_z w64 c.newest.result) ≡ newest c.args.close.now = to_z-of_z w64 _ fn ∙ c.newest.ensures.value in
    to_z-of_z w64 _ fr ∙ c.stochastic_of.ensures.value
    ∙ rw (close, low, high) refl

pub stochastic_of-requires-clause-close : goal.stochastic_of-requires-clause-close
stochastic_of-requires-clause-close c = kept_cell _ c.newest.ensures.cell

pub stochastic_of-requires-clause-low : goal.stochastic_of-requires-clause-low
stochastic_of-requires-clause-low c =
    let low = narrow-cell _ _ (ap (λ (k : Kept). k.main) c.kept.view_is) c.requires.low in
    rw low c.requires.low

pub stochastic_of-requires-clause-high : goal.stochastic_of-requires-clause-high
stochastic_of-requires-clause-high c =
    let high = narrow-cell _ _ (ap (λ (k : Kept). k.beside) c.kept.view_is) c.requires.high in
    rw high c.requires.high

pub returns-clause-cell : goal.returns-clause-cell
returns-clause-cell c = kept_cell _ c.stochastic_of.ensures.cell
