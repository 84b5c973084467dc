use Rattle.std.proofs.Common.{pos, arith, rules, FitsSigned, w64, ◌^◌, ◌∙◌, ap}
use Rattle.std.specs.Int.{w128}
use Rattle.std.specs.Int.Signed.{nat_abs-le}
use Rattle.std.proofs.lemmas.Int.{to_z-of_z, to_z_pos, fits_signed_mul}
use Rattle.pl_spec.specs.Rounding.{to_cell, scaled}
use Rattle.pl_fixed.specs.Ratios.{IsRatio}
use Rattle.pl_fixed.proofs.CellLemmas.{scaled-present, wide}
use Rattle.pl_fixed.proofs.ratio.Ratio.apply.Goals as goal

pub overflow_mul-cell : goal.overflow_mul-cell
overflow_mul-cell g c =
    let cell = c.args.cell in
    let num = c.self.inside.num in
    let parts : IsRatio (record { num = num; den = c.self.inside.den }) = c.self.invariant in
    let fc : FitsSigned w64 cell = c.ranges.cell in
    rw (to_z-of_z w64 _ fc, to_z-of_z w128 _ (wide cell fc), to_z_pos w128 num (omega arith))
    (fits_signed_mul w128 cell (pos num) (2 ^ 63) (2 ^ 32) (nat_abs-le cell fc.sfits) (omega arith) (omega arith))

pub returns-else-cell-eq-MISSING-clause-value : goal.returns-else-cell-eq-MISSING-clause-value
returns-else-cell-eq-MISSING-clause-value g c =
    let cell = c.args.cell in
    let num = c.self.inside.num in
    let den = c.self.inside.den in
    let parts : IsRatio (record { num = num; den = den }) = c.self.invariant in
    let fc : FitsSigned w64 cell = c.ranges.cell in
    let wide : FitsSigned w128 cell = search rules in
    let factor = to_z_pos w128 num (omega arith) in
    let divisor = to_z_pos w128 den (omega arith) in
    let fp = fits_signed_mul w128 cell (pos num) (2 ^ 63) (2 ^ 32) (nat_abs-le cell fc.sfits) (omega arith) (omega arith) in
    let fd : FitsSigned w128 c.div_round.result = search rules in
    let fr : FitsSigned w64 c.to_cell.result = search rules in
    let d = simp (factor, divisor, to_z-of_z) at c.div_round.ensures.value in
    to_z-of_z w64 _ fr
    ∙ c.to_cell.ensures.value
    ∙ ap to_cell (to_z-of_z w128 _ fd ∙ d)
    ∙ scaled-present (record { num = num; den = den }) cell fc c.if-cell-eq-MISSING.false
    ∙ ap (λ f. scaled f cell) c.self.view_is

pub returns-else-cell-eq-MISSING-clause-cell : goal.returns-else-cell-eq-MISSING-clause-cell
returns-else-cell-eq-MISSING-clause-cell g c =
    let fr : FitsSigned w64 c.to_cell.result = search rules in
    rw (to_z-of_z w64 _ fr) c.to_cell.ensures.cell
