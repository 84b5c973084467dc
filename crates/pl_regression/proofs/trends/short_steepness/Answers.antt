use Rattle.std.proofs.Common.{FitsSigned, w64, rules, ap₂, ◌∙◌}
use Rattle.std.specs.Int.{w128}
use Rattle.std.proofs.lemmas.Int.{to_z-of_z}
use Rattle.pl_spec.specs.Rounding.{quot}
use Rattle.pl_pipeline.specs.Formula.{steepness}
use Rattle.pl_regression.proofs.trends.short_steepness.Goals as goal

pub returns-clause-value : goal.returns-clause-value
unfolding steepness
returns-clause-value c =
    let fits : FitsSigned w64 c.short_quot.result = search rules in
    let joint : FitsSigned w128 c.short_joint_spread.result = search rules in
    let spread : FitsSigned w128 c.short_spread_x.result = search rules in
    let value = simp to_z-of_z at c.short_quot.ensures.value in
    to_z-of_z w64 _ fits ∙ value ∙ ap₂ quot c.short_joint_spread.ensures.value c.short_spread_x.ensures.value
