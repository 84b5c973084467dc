use Rattle.std.proofs.Common.{rules, FitsSigned, w64, ◌∙◌}
use Rattle.std.specs.Int.{w128}
use Rattle.std.proofs.lemmas.Int.{to_z-of_z}
use Rattle.pl_spec.specs.Rounding.{div, quot}
use Rattle.pl_fixed.proofs.CellLemmas.{wide, millionths-fits, of_both-present}
use Rattle.pl_fixed.proofs.cell.div.Goals as goal

pub overflow_mul-a : goal.overflow_mul-a
overflow_mul-a c =
    let fa : FitsSigned w64 c.args.a = c.ranges.a in
    rw (to_z-of_z w64 _ fa, to_z-of_z w128 _ (wide c.args.a fa)) (millionths-fits c.args.a fa)

pub returns-else-b-eq-MISSING-clause-value : goal.returns-else-b-eq-MISSING-clause-value
unfolding div
returns-else-b-eq-MISSING-clause-value c =
    let a = c.args.a in
    let b = c.args.b in
    let fa : FitsSigned w64 a = c.ranges.a in
    let fb : FitsSigned w64 b = c.ranges.b in
    let wide_a : FitsSigned w128 a = wide a fa in
    let wide_b : FitsSigned w128 b = wide b fb in
    let product = millionths-fits a fa in
    let fr : FitsSigned w64 c.quot.result = search rules in
    let q = simp to_z-of_z at c.quot.ensures.value in
    rw (of_both-present a b _ fa fb c.if-b-eq-MISSING.false) (to_z-of_z w64 _ fr ∙ q)

pub returns-else-b-eq-MISSING-clause-cell : goal.returns-else-b-eq-MISSING-clause-cell
returns-else-b-eq-MISSING-clause-cell c =
    let fr : FitsSigned w64 c.quot.result = search rules in
    rw (to_z-of_z w64 _ fr) c.quot.ensures.cell
