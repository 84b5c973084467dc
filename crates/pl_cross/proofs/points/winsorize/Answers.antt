use Rattle.std.proofs.Common.{rules, w64, FitsSigned, ap, ◌∙◌}
use Rattle.std.proofs.lemmas.Int.{to_z-of_z}
use Rattle.pl_pipeline.specs.Cross.{values}
use Rattle.pl_pipeline.specs.Order.{value_at}
use Rattle.pl_cross.specs.Listing.{entries_of}
use Rattle.pl_cross.proofs.Shares.{drawn-in}
use Rattle.pl_cross.proofs.points.winsorize.Goals as goal

pub returns : goal.returns
returns c = λ k d h.
    let low : FitsSigned w64 c.value_at-least.result = search rules in
    let high : FitsSigned w64 c.value_at-greatest.result = search rules in
    let told = simp to_z-of_z at c.draw_in.ensures k d h in
    drawn-in c.args.low c.args.high c.args.group.now k d c.value_at-least.result c.value_at-greatest.result _ h c.value_at-least.ensures.value
    (c.value_at-greatest.ensures.value ∙ ap (value_at (values (entries_of c.args.group.now))) c.last_within.ensures) told d
