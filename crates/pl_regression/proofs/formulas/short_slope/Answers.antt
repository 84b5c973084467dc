use Rattle.std.proofs.Common.{◌<◌, ◌^◌, pos, ◌*ℤ◌, unsigned_abs, FitsSigned, w64, arith, rules, refl, ap₂, ◌∙◌}
use Rattle.std.specs.Int.{w128}
use Rattle.std.proofs.lemmas.Int.{to_z-of_z, fits_signed_from_abs}
use Rattle.pl_spec.specs.Rounding.{quot}
use Rattle.pl_pipeline.specs.Formula.{slope}
use Rattle.pl_regression.proofs.Bounds.{product_bits}
use Rattle.pl_regression.proofs.formulas.short_slope.Goals as goal

pub returns-then-unsigned_abs-lt-SHARE_END-clause-value : goal.returns-then-unsigned_abs-lt-SHARE_END-clause-value
unfolding slope
returns-then-unsigned_abs-lt-SHARE_END-clause-value c =
    let fits : FitsSigned w64 c.short_quot.result = search rules in
    let joint : FitsSigned w128 c.short_joint_spread-joint.result = search rules in
    let spread : FitsSigned w128 c.short_spread_x.result = search rules in
    let size = simp to_z-of_z at c.unsigned_abs.ensures.value in
    let small : unsigned_abs c.short_joint_spread-joint.result < 2 ^ 105 = omega (arith, size, c.if-unsigned_abs-lt-SHARE_END.true) in
    let few : unsigned_abs (pos 1000000) < 2 ^ 20 = omega arith in
    let p = product_bits c.short_joint_spread-joint.result (pos 1000000) (c.short_joint_spread-joint.result *ℤ pos 1000000) 105 20 refl small few in
    let rise : FitsSigned w128 (c.short_joint_spread-joint.result *ℤ pos 1000000) = fits_signed_from_abs w128 _ (omega (arith, p)) in
    let value = simp to_z-of_z at c.short_quot.ensures.value in
    to_z-of_z w64 _ fits ∙ value ∙ ap₂ (λ j x. quot (j *ℤ pos 1000000) x) c.short_joint_spread-joint.ensures.value c.short_spread_x.ensures.value

pub returns-then-unsigned_abs-lt-SHARE_END-clause-cell : goal.returns-then-unsigned_abs-lt-SHARE_END-clause-cell
returns-then-unsigned_abs-lt-SHARE_END-clause-cell c =
    let fits : FitsSigned w64 c.short_quot.result = search rules in
    rw (to_z-of_z w64 _ fits) c.short_quot.ensures.cell
