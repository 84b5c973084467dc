use Rattle.std.proofs.Common.{ap₂, ◌∙◌}
use Rattle.pl_spec.specs.Rounding.{sub, mul}
use Rattle.pl_factors.proofs.Kept.{kept, kept_cell, kept_value}
use Rattle.pl_factors.proofs.deviations.bollinger_lower.Goals as goal

pub mul-requires-clause-left : goal.mul-requires-clause-left
mul-requires-clause-left c = kept_cell _ c.requires.factor

pub mul-requires-clause-right : goal.mul-requires-clause-right
mul-requires-clause-right c = kept_cell _ c.deviation.ensures.cell

pub sub-requires-clause-left : goal.sub-requires-clause-left
sub-requires-clause-left c = kept_cell _ c.mean.ensures.cell

pub sub-requires-clause-right : goal.sub-requires-clause-right
sub-requires-clause-right c = kept_cell _ c.mul.ensures.cell

pub returns-clause-value : goal.returns-clause-value
returns-clause-value c =
    let middle = kept_value _ _ c.mean.ensures.cell c.mean.ensures.value in
    let spread = kept_value _ _ c.deviation.ensures.cell c.deviation.ensures.value in
    let part = kept_value _ _ c.mul.ensures.cell c.mul.ensures.value ∙ ap₂ mul (kept _ c.requires.factor) spread in
    kept_value _ _ c.sub.ensures.cell c.sub.ensures.value ∙ ap₂ sub middle part

pub returns-clause-cell : goal.returns-clause-cell
returns-clause-cell c = kept_cell _ c.sub.ensures.cell
