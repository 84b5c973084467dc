use Rattle.std.proofs.Common.{arith, rules, FitsSigned, w64, ◌^◌, ◌∙◌, ap}
use Rattle.std.specs.Int.{w128}
use Rattle.std.proofs.lemmas.Int.{to_z-of_z, fits_signed_mul}
use Rattle.std.specs.Int.Signed.{nat_abs-le}
use Rattle.pl_spec.specs.Rounding.{to_cell, mul}
use Rattle.pl_fixed.proofs.CellLemmas.{of_both-present}
use Rattle.pl_fixed.proofs.cell.mul.Goals as goal

pub returns-else-b-eq-MISSING-clause-value : goal.returns-else-b-eq-MISSING-clause-value
unfolding mul
returns-else-b-eq-MISSING-clause-value c =
    let a = c.args.a in
    let b = c.args.b in
    let fa : FitsSigned w64 a = c.ranges.a in
    let fb : FitsSigned w64 b = c.ranges.b in
    let wide_a : FitsSigned w128 a = search rules in
    let wide_b : FitsSigned w128 b = search rules in
    let fp = fits_signed_mul w128 a b (2 ^ 63) (2 ^ 63) (nat_abs-le a fa.sfits) (nat_abs-le b fb.sfits) (omega arith) in
    let fd : FitsSigned w128 c.div_round.result = search rules in
    let fr : FitsSigned w64 c.to_cell.result = search rules in
    let d = simp to_z-of_z at c.div_round.ensures.value in
    rw (of_both-present a b _ fa fb c.if-b-eq-MISSING.false) (to_z-of_z w64 _ fr ∙ c.to_cell.ensures.value ∙ ap to_cell (to_z-of_z w128 _ fd ∙ d))

pub returns-else-b-eq-MISSING-clause-cell : goal.returns-else-b-eq-MISSING-clause-cell
returns-else-b-eq-MISSING-clause-cell c =
    let fr : FitsSigned w64 c.to_cell.result = search rules in
    rw (to_z-of_z w64 _ fr) c.to_cell.ensures.cell
