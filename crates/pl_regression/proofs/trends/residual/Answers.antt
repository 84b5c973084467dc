use Rattle.std.proofs.Common.{◌≡◌, ◌<◌, ◌^◌, ℤ, unsigned_abs, FitsSigned, w64, to_z, of_z, rules, arith, refl, ap, ◌∙◌}
use Rattle.std.specs.Int.{w128}
use Rattle.std.proofs.lemmas.Int.{to_z-of_z, ints, unsigned_abs-mul}
use Rattle.pl_pipeline.specs.Formula.{residual}
use Rattle.pl_regression.proofs.Bounds.{product_bits}
use Rattle.pl_regression.proofs.trends.residual.Goals as goal

-- a cell in 128 bits
cell_is : (x r : ℤ) → FitsSigned w64 x → r ≡ to_z w128 (of_z w128 (to_z w64 (of_z w64 x))) → r ≡ x
cell_is x r fits e =
    let wide : FitsSigned w128 x = search rules in
    e ∙ ap (λ (v : ℤ). to_z w128 (of_z w128 v)) (to_z-of_z w64 x fits) ∙ to_z-of_z w128 x wide

pub times-rise-requires : goal.times-rise-requires
times-rise-requires c =
    let y : c.new.result ≡ c.args.y = cell_is _ _ c.ranges.y c.new.ensures in
    let small_y : unsigned_abs c.new.result < 2 ^ 57 = rw y (omega (arith, c.requires.y)) in
    let a = product_bits c.whole_number-number.result c.new.result c.times.result 11 57 c.times.ensures c.whole_number-number.ensures.small small_y in
    let above : unsigned_abs c.minus-above.result < 2 ^ 69 = omega (arith, ints, a, c.minus-above.ensures, c.whole_y.ensures.small) in
    let x : c.new-2.result ≡ c.args.x = cell_is _ _ c.ranges.x c.new-2.ensures in
    let small_x : unsigned_abs c.new-2.result < 2 ^ 57 = rw x (omega (arith, c.requires.x)) in
    let b = product_bits c.whole_number-number.result c.new-2.result c.times-2.result 11 57 c.times-2.ensures c.whole_number-number.ensures.small small_x in
    let along : unsigned_abs c.minus-along.result < 2 ^ 69 = omega (arith, ints, b, c.minus-along.ensures, c.whole_x.ensures.small) in
    let p = product_bits c.joint_spread.result c.minus-along.result _ 135 69 refl c.joint_spread.ensures.small along in
    rw (← unsigned_abs-mul c.joint_spread.result c.minus-along.result) (omega (arith, p))

pub times-requires-3 : goal.times-requires-3
times-requires-3 c =
    let y : c.new.result ≡ c.args.y = cell_is _ _ c.ranges.y c.new.ensures in
    let small_y : unsigned_abs c.new.result < 2 ^ 57 = rw y (omega (arith, c.requires.y)) in
    let a = product_bits c.whole_number-number.result c.new.result c.times.result 11 57 c.times.ensures c.whole_number-number.ensures.small small_y in
    let above : unsigned_abs c.minus-above.result < 2 ^ 69 = omega (arith, ints, a, c.minus-above.ensures, c.whole_y.ensures.small) in
    let x : c.new-2.result ≡ c.args.x = cell_is _ _ c.ranges.x c.new-2.ensures in
    let small_x : unsigned_abs c.new-2.result < 2 ^ 57 = rw x (omega (arith, c.requires.x)) in
    let b = product_bits c.whole_number-number.result c.new-2.result c.times-2.result 11 57 c.times-2.ensures c.whole_number-number.ensures.small small_x in
    let along : unsigned_abs c.minus-along.result < 2 ^ 69 = omega (arith, ints, b, c.minus-along.ensures, c.whole_x.ensures.small) in
    let p = product_bits c.minus-above.result c.spread_x-spread.result _ 69 135 refl above c.spread_x-spread.ensures.small in
    rw (← unsigned_abs-mul c.minus-above.result c.spread_x-spread.result) (omega (arith, p))

pub minus-requires : goal.minus-requires
minus-requires c =
    let y : c.new.result ≡ c.args.y = cell_is _ _ c.ranges.y c.new.ensures in
    let small_y : unsigned_abs c.new.result < 2 ^ 57 = rw y (omega (arith, c.requires.y)) in
    let a = product_bits c.whole_number-number.result c.new.result c.times.result 11 57 c.times.ensures c.whole_number-number.ensures.small small_y in
    let above : unsigned_abs c.minus-above.result < 2 ^ 69 = omega (arith, ints, a, c.minus-above.ensures, c.whole_y.ensures.small) in
    let x : c.new-2.result ≡ c.args.x = cell_is _ _ c.ranges.x c.new-2.ensures in
    let small_x : unsigned_abs c.new-2.result < 2 ^ 57 = rw x (omega (arith, c.requires.x)) in
    let b = product_bits c.whole_number-number.result c.new-2.result c.times-2.result 11 57 c.times-2.ensures c.whole_number-number.ensures.small small_x in
    let along : unsigned_abs c.minus-along.result < 2 ^ 69 = omega (arith, ints, b, c.minus-along.ensures, c.whole_x.ensures.small) in
    let rise = product_bits c.joint_spread.result c.minus-along.result c.times-rise.result 135 69 c.times-rise.ensures c.joint_spread.ensures.small along in
    let high = product_bits c.minus-above.result c.spread_x-spread.result c.times-3.result 69 135 c.times-3.ensures above c.spread_x-spread.ensures.small in
    omega (arith, rise, high)

pub quot-requires-clause-dividend : goal.quot-requires-clause-dividend
quot-requires-clause-dividend c =
    let y : c.new.result ≡ c.args.y = cell_is _ _ c.ranges.y c.new.ensures in
    let small_y : unsigned_abs c.new.result < 2 ^ 57 = rw y (omega (arith, c.requires.y)) in
    let a = product_bits c.whole_number-number.result c.new.result c.times.result 11 57 c.times.ensures c.whole_number-number.ensures.small small_y in
    let above : unsigned_abs c.minus-above.result < 2 ^ 69 = omega (arith, ints, a, c.minus-above.ensures, c.whole_y.ensures.small) in
    let x : c.new-2.result ≡ c.args.x = cell_is _ _ c.ranges.x c.new-2.ensures in
    let small_x : unsigned_abs c.new-2.result < 2 ^ 57 = rw x (omega (arith, c.requires.x)) in
    let b = product_bits c.whole_number-number.result c.new-2.result c.times-2.result 11 57 c.times-2.ensures c.whole_number-number.ensures.small small_x in
    let along : unsigned_abs c.minus-along.result < 2 ^ 69 = omega (arith, ints, b, c.minus-along.ensures, c.whole_x.ensures.small) in
    let rise = product_bits c.joint_spread.result c.minus-along.result c.times-rise.result 135 69 c.times-rise.ensures c.joint_spread.ensures.small along in
    let high = product_bits c.minus-above.result c.spread_x-spread.result c.times-3.result 69 135 c.times-3.ensures above c.spread_x-spread.ensures.small in
    omega (arith, ints, rise, high, c.minus.ensures)

pub quot-requires-clause-divisor : goal.quot-requires-clause-divisor
quot-requires-clause-divisor c =
    let p = product_bits c.whole_number-number.result c.spread_x-spread.result c.times-4.result 11 135 c.times-4.ensures c.whole_number-number.ensures.small c.spread_x-spread.ensures.small in
    omega (arith, p)

pub returns-clause-value : goal.returns-clause-value
unfolding residual
returns-clause-value c =
    let fits : FitsSigned w64 c.quot.result = search rules in
    let y : c.new.result ≡ c.args.y = cell_is _ _ c.ranges.y c.new.ensures in
    let x : c.new-2.result ≡ c.args.x = cell_is _ _ c.ranges.x c.new-2.ensures in
    rw (to_z-of_z w64 _ fits, c.quot.ensures.value, c.minus.ensures, c.times-3.ensures, c.minus-above.ensures, c.times.ensures, y, c.whole_y.ensures.value, c.times-rise.ensures, c.minus-along.ensures, c.times-2.ensures, x, c.whole_x.ensures.value, c.times-4.ensures, c.whole_number-number.ensures.value, c.joint_spread.ensures.value, c.spread_x-spread.ensures.value) refl
