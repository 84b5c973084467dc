use Rattle.std.proofs.Common.{rules, refl, ap₂, ◌∙◌, FitsSigned, w64}
use Rattle.std.specs.Int.{w128}
use Rattle.std.proofs.lemmas.Int.{to_z-of_z}
use Rattle.pl_spec.specs.Rounding.{quot}
use Rattle.pl_factors.proofs.FadedLemmas.{none-missing, some-missing}
use Rattle.pl_factors.proofs.faded.mean_by.Goals as goal

pub returns-then-count-a-clause-value : goal.returns-then-count-a-clause-value
returns-then-count-a-clause-value c =
    let e = some-missing c.args.a.now (rw (← c.sum_present-count.ensures.count) c.if-count-a.true) in rw e refl

pub returns-clause-value : goal.returns-clause-value
returns-clause-value c =
    let none = none-missing c.args.a.now (rw (← c.sum_present-count.ensures.count) c.if-count-a.false) in
    let fr : FitsSigned w64 c.quot.result = search rules in
    let ft : FitsSigned w128 c.total_products.result = search rules in
    let fs : FitsSigned w128 c.args.sum = c.ranges.sum in
    let value = simp to_z-of_z at c.quot.ensures.value in
    rw none (to_z-of_z w64 _ fr ∙ value ∙ ap₂ quot c.total_products.ensures.value c.requires.sum)
