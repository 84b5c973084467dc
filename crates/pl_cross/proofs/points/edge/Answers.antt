use Rattle.std.proofs.Common.{rules, pos, w64, FitsSigned, ◌-◌, ◌*◌, ◌/◌, ◌+ℤ◌, ◌*ℤ◌, ap, ◌∙◌}
use Rattle.std.specs.Int.{w128}
use Rattle.std.proofs.lemmas.Int.{to_z-of_z}
use Rattle.pl_pipeline.specs.Cross.{values}
use Rattle.pl_pipeline.specs.Order.{value_at}
use Rattle.pl_cross.specs.Listing.{entries_of}
use Rattle.pl_cross.proofs.points.edge.Goals as goal

pub returns-clause-value : goal.returns-clause-value
returns-clause-value c =
    let low : FitsSigned w64 c.value_at-below.result = search rules in
    let high : FitsSigned w64 c.value_at-above.result = search rules in
    let wide : FitsSigned w128 c.mixed.result = search rules in
    let rest = c.args.point - c.args.point / 10000 * 10000 in
    let told = simp to_z-of_z at c.mixed.ensures.value in
    to_z-of_z w128 c.mixed.result wide ∙ told
    ∙ ap (λ v. v *ℤ pos (10000 - rest) +ℤ c.value_at-above.result *ℤ pos rest) c.value_at-below.ensures.value
    ∙ ap (λ v. value_at (values (entries_of c.args.group.now)) (c.args.point / 10000) *ℤ pos (10000 - rest) +ℤ v *ℤ pos rest) c.value_at-above.ensures.value
