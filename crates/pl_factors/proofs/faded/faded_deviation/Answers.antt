use Rattle.std.proofs.Common.{rules, ◌≡◌, ◌∙◌, ap, sym, length, FitsSigned, w64}
use Rattle.std.proofs.lemmas.Int.{to_z-of_z}
use Rattle.pl_pipeline.specs.Formula.{FINE, weights}
use Rattle.pl_factors.specs.Terms.{deviation_by}
use Rattle.pl_factors.proofs.faded.faded_deviation.Goals as goal

pub returns-clause-value : goal.returns-clause-value
returns-clause-value c =
    let fits : FitsSigned w64 c.args.decay = c.ranges.decay in
    let fr : FitsSigned w64 c.deviation_by.result = search rules in
    let long : length c.faded_weights-sum.new.weights ≡ length c.args.a.now = search rules in
    let made = simp to_z-of_z at c.faded_weights-sum.ensures.weights in
    to_z-of_z w64 _ fr ∙ c.deviation_by.ensures.value
    ∙ ap (λ ws. deviation_by ws c.args.a.now) (made ∙ ap (weights FINE c.args.decay) (sym c.faded_weights-sum.auto.weights ∙ long))
