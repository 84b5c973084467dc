use Rattle.std.proofs.Common.{ℤ, pos, unsigned_abs, FitsSigned, w64, rules, ap, sym, ◌∙◌}
use Rattle.std.specs.Int.{w128}
use Rattle.std.specs.Int.RustNames.{int_lt}
use Rattle.std.proofs.lemmas.Int.{to_z-of_z}
use Rattle.pl_regression.proofs.Values.{correlated, correlated_below, correlated_above}
use Rattle.pl_regression.proofs.formulas.short_correlation.Goals as goal

pub returns-then-joint-lt0-clause-value : goal.returns-then-joint-lt0-clause-value
returns-then-joint-lt0-clause-value c =
    let fits : FitsSigned w64 c.share_of_root-share.result = search rules in
    let turned : FitsSigned w64 c.neg.result = search rules in
    let fx : FitsSigned w128 c.short_spread_x.result = search rules in
    let fy : FitsSigned w128 c.short_spread_y.result = search rules in
    let fj : FitsSigned w128 c.short_joint_spread-joint.result = search rules in
    let x = simp to_z-of_z at c.unsigned_abs-x.ensures.value in
    let y = simp to_z-of_z at c.unsigned_abs-y.ensures.value in
    let size = simp to_z-of_z at c.unsigned_abs-size.ensures.value in
    let below = simp to_z-of_z at c.if-joint-lt0.true in
    let h = correlated c.args.sums.now c.share_of_root-share.result c.unsigned_abs-size.result c.unsigned_abs-x.result c.unsigned_abs-y.result
    (size ∙ ap unsigned_abs c.short_joint_spread-joint.ensures.value) (x ∙ ap unsigned_abs c.short_spread_x.ensures.value) (y ∙ ap unsigned_abs c.short_spread_y.ensures.value)
    (search rules) (search rules) c.share_of_root-share.ensures.value in
    let sign = ap (λ (j : ℤ). int_lt j (pos 0)) (sym c.short_joint_spread-joint.ensures.value) ∙ below in
    rw (to_z-of_z w64 _ turned, c.neg.ensures.value, to_z-of_z w64 _ fits) (correlated_below _ _ _ _ h sign)

pub returns-then-joint-lt0-clause-cell : goal.returns-then-joint-lt0-clause-cell
returns-then-joint-lt0-clause-cell c =
    let turned : FitsSigned w64 c.neg.result = search rules in
    rw (to_z-of_z w64 _ turned) c.neg.ensures.cell

pub returns-else-joint-lt0-clause-value : goal.returns-else-joint-lt0-clause-value
returns-else-joint-lt0-clause-value c =
    let fits : FitsSigned w64 c.share_of_root-share.result = search rules in
    let fx : FitsSigned w128 c.short_spread_x.result = search rules in
    let fy : FitsSigned w128 c.short_spread_y.result = search rules in
    let fj : FitsSigned w128 c.short_joint_spread-joint.result = search rules in
    let x = simp to_z-of_z at c.unsigned_abs-x.ensures.value in
    let y = simp to_z-of_z at c.unsigned_abs-y.ensures.value in
    let size = simp to_z-of_z at c.unsigned_abs-size.ensures.value in
    let above = simp to_z-of_z at c.if-joint-lt0.false in
    let h = correlated c.args.sums.now c.share_of_root-share.result c.unsigned_abs-size.result c.unsigned_abs-x.result c.unsigned_abs-y.result
    (size ∙ ap unsigned_abs c.short_joint_spread-joint.ensures.value) (x ∙ ap unsigned_abs c.short_spread_x.ensures.value) (y ∙ ap unsigned_abs c.short_spread_y.ensures.value)
    (search rules) (search rules) c.share_of_root-share.ensures.value in
    let sign = ap (λ (j : ℤ). int_lt j (pos 0)) (sym c.short_joint_spread-joint.ensures.value) ∙ above in
    to_z-of_z w64 _ fits ∙ correlated_above _ _ _ _ h sign
