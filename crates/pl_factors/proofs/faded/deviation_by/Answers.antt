use Rattle.std.proofs.Common.{rules, refl, FitsSigned, w64}
use Rattle.std.specs.Int.{w128}
use Rattle.std.proofs.lemmas.Int.{to_z-of_z}
use Rattle.pl_pipeline.specs.Formula.{weighted_deviation}
use Rattle.pl_factors.proofs.FadedLemmas.{none-missing, some-missing}
use Rattle.pl_factors.proofs.faded.deviation_by.Goals as goal

pub returns-then-count-a-clause-value : goal.returns-then-count-a-clause-value
returns-then-count-a-clause-value c =
    let e = some-missing c.args.a.now (rw (← c.sum_present-count.ensures.count) c.if-count-a.true) in rw e refl

pub returns-clause-value : goal.returns-clause-value
unfolding weighted_deviation
returns-clause-value c =
    let none = none-missing c.args.a.now (rw (← c.sum_present-count.ensures.count) c.if-count-a.false) in
    let fr : FitsSigned w64 c.deviation_of.result = search rules in
    let ft : FitsSigned w128 c.total_products.result = search rules in
    let fs : FitsSigned w128 c.args.sum = c.ranges.sum in
    let fq : FitsSigned w128 c.args.squares = c.ranges.squares in
    let value = simp to_z-of_z at c.deviation_of.ensures.value in
    rw (none, to_z-of_z w64 _ fr, value, c.total_products.ensures.value, c.weighted_squares.ensures.value, c.requires.sum, c.requires.squares) refl
