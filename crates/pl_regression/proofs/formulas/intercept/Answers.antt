use Rattle.std.proofs.Common.{FitsSigned, w64, rules, arith, refl}
use Rattle.std.proofs.lemmas.Int.{to_z-of_z, ints}
use Rattle.pl_pipeline.specs.Formula.{intercept}
use Rattle.pl_regression.proofs.Bounds.{product_bits}
use Rattle.pl_regression.proofs.formulas.intercept.Goals as goal

pub minus-requires : goal.minus-requires
minus-requires c =
    let a = product_bits c.whole_y.result c.spread_x-x.result c.times-high.result 67 135 c.times-high.ensures c.whole_y.ensures.small c.spread_x-x.ensures.small in
    let b = product_bits c.joint_spread.result c.whole_x.result c.times-low.result 135 67 c.times-low.ensures c.joint_spread.ensures.small c.whole_x.ensures.small in
    omega (arith, a, b)

pub quot-requires-clause-dividend : goal.quot-requires-clause-dividend
quot-requires-clause-dividend c =
    let a = product_bits c.whole_y.result c.spread_x-x.result c.times-high.result 67 135 c.times-high.ensures c.whole_y.ensures.small c.spread_x-x.ensures.small in
    let b = product_bits c.joint_spread.result c.whole_x.result c.times-low.result 135 67 c.times-low.ensures c.joint_spread.ensures.small c.whole_x.ensures.small in
    omega (arith, ints, a, b, c.minus.ensures)

pub quot-requires-clause-divisor : goal.quot-requires-clause-divisor
quot-requires-clause-divisor c =
    let a = product_bits c.whole_number.result c.spread_x-x.result c.times.result 11 135 c.times.ensures c.whole_number.ensures.small c.spread_x-x.ensures.small in
    omega (arith, a)

pub returns-clause-value : goal.returns-clause-value
unfolding intercept
returns-clause-value c =
    let fits : FitsSigned w64 c.quot.result = search rules in
    rw (to_z-of_z w64 _ fits, c.quot.ensures.value, c.minus.ensures, c.times-high.ensures, c.times-low.ensures, c.times.ensures, c.whole_x.ensures.value, c.whole_y.ensures.value, c.whole_number.ensures.value, c.joint_spread.ensures.value, c.spread_x-x.ensures.value) refl
