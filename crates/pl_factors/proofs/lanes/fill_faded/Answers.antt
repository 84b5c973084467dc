use Rattle.std.proofs.Common.{rules, ◌≡◌, ◌∙◌, ap, sym, length, FitsSigned, w64}
use Rattle.std.proofs.lemmas.Int.{to_z-of_z}
use Rattle.pl_pipeline.specs.Formula.{weights}
use Rattle.pl_factors.proofs.Following.{faded_are}
use Rattle.pl_factors.proofs.lanes.fill_faded.Goals as goal

pub returns : goal.returns
returns c =
    let fits : FitsSigned w64 c.args.decay = c.ranges.decay in
    let long : length c.faded_weights-sum.new.weights ≡ c.args.size = search rules in
    let made = simp to_z-of_z at c.faded_weights-sum.ensures.weights in
    faded_are c.args.one c.args.decay c.args.size (length c.args.out.now) c.args.a.now _ _ long
    (made ∙ ap (weights c.args.one c.args.decay) (sym c.faded_weights-sum.auto.weights ∙ long)) c.requires.long c.fill_weighted.ensures
