use Rattle.std.proofs.Common.{◌∙◌, ap, ap₂}
use Rattle.pl_spec.specs.Rounding.{mul}
use Rattle.pl_factors.specs.Kept.{Kept}
use Rattle.pl_factors.specs.Laws.{shifted}
use Rattle.pl_factors.proofs.KeptExact.{same-cell, stays-cell}
use Rattle.pl_factors.proofs.spreads.bollinger.Goals as goal

pub mean-requires : goal.mean-requires
mean-requires c = record {
  cells = c.requires.cells;
  few = c.requires.few;
  main = ap (λ (k : Kept). k.main) c.requires.stands;
  number = ap (λ (k : Kept). k.number) c.requires.stands;
}

pub mul-requires : goal.mul-requires
mul-requires c = record { left = stays-cell _ c.requires.factor; right = stays-cell _ c.deviation.ensures.cell }

pub shifted-requires : goal.shifted-requires
shifted-requires c = record { left = stays-cell _ c.mean.ensures.cell; right = stays-cell _ c.mul.ensures.cell }

pub returns-clause-value : goal.returns-clause-value
returns-clause-value c =
    let middle = same-cell _ c.mean.ensures.cell ∙ c.mean.ensures.value in
    let far = same-cell _ c.deviation.ensures.cell ∙ c.deviation.ensures.value in
    let times = same-cell _ c.mul.ensures.cell ∙ c.mul.ensures.value ∙ ap₂ mul (same-cell _ c.requires.factor) far in
    same-cell _ c.shifted.ensures.cell ∙ c.shifted.ensures.value ∙ ap₂ (shifted c.args.lower) middle times

pub returns-clause-cell : goal.returns-clause-cell
returns-clause-cell c = stays-cell _ c.shifted.ensures.cell
