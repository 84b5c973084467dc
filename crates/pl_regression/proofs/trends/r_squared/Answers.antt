use Rattle.std.proofs.Common.{FitsSigned, w64, rules, refl, arith, ◌<◌, ◌^◌, unsigned_abs}
use Rattle.std.proofs.lemmas.Int.{to_z-of_z}
use Rattle.pl_pipeline.specs.Formula.{r_squared}
use Rattle.pl_regression.proofs.Bounds.{product_bits}
use Rattle.pl_regression.proofs.trends.r_squared.Goals as goal

pub quot-requires-clause-dividend : goal.quot-requires-clause-dividend
quot-requires-clause-dividend c =
    let j = c.joint_spread-joint.ensures.small in
    let square = product_bits c.joint_spread-joint.result c.joint_spread-joint.result c.times.result 135 135 c.times.ensures j j in
    let million : unsigned_abs c.new.result < 2 ^ 20 = rw c.new.ensures (omega arith) in
    let p = product_bits c.times.result c.new.result c.times-square.result 270 20 c.times-square.ensures square million in
    omega (arith, p)

pub quot-requires-clause-divisor : goal.quot-requires-clause-divisor
quot-requires-clause-divisor c =
    let p = product_bits c.spread_x.result c.spread_y.result c.times-2.result 135 135 c.times-2.ensures c.spread_x.ensures.small c.spread_y.ensures.small in
    omega (arith, p)

pub returns-clause-value : goal.returns-clause-value
unfolding r_squared
returns-clause-value c =
    let fits : FitsSigned w64 c.quot.result = search rules in
    rw (to_z-of_z w64 _ fits, c.quot.ensures.value, c.times-square.ensures, c.times.ensures, c.new.ensures, c.times-2.ensures, c.joint_spread-joint.ensures.value, c.spread_x.ensures.value, c.spread_y.ensures.value) refl
