use Rattle.std.proofs.Common.{ℤ, pos, FitsSigned, w64, rules, arith, refl, ap, sym, ◌∙◌}
use Rattle.std.proofs.lemmas.Int.{to_z-of_z}
use Rattle.std.specs.Int.RustNames.{int_lt}
use Rattle.pl_regression.proofs.Values.{IsCorrelated, correlated_below, correlated_above}
use Rattle.pl_regression.proofs.Bounds.{size_bits}
use Rattle.pl_regression.proofs.formulas.wide_correlation.Goals as goal

pub product-requires : goal.product-requires
product-requires c =
    let j = c.joint_spread-joint.ensures.small in
    let p = size_bits c.size.result.now c.size-2.result.now _ 135 135 refl (omega (arith, j)) (omega (arith, j)) in
    omega (arith, p)

pub times-square-requires : goal.times-square-requires
times-square-requires c =
    let j = c.joint_spread-joint.ensures.small in
    let p = size_bits c.size.result.now c.size-2.result.now c.product.result 135 135 c.product.ensures (omega (arith, j)) (omega (arith, j)) in
    omega (arith, p)

pub product-requires-2 : goal.product-requires-2
product-requires-2 c =
    let x = c.spread_x-x.ensures.small in
    let y = c.spread_y-y.ensures.small in
    let p = size_bits c.size-3.result.now c.size-4.result.now _ 135 135 refl (omega (arith, x)) (omega (arith, y)) in
    omega (arith, p)

pub root-size-requires : goal.root-size-requires
root-size-requires c =
    let j = c.joint_spread-joint.ensures.small in
    let p = size_bits c.size.result.now c.size-2.result.now c.product.result 135 135 c.product.ensures (omega (arith, j)) (omega (arith, j)) in
    omega (arith, p, c.times-square.ensures)

pub returns-then-is_below-clause-value : goal.returns-then-is_below-clause-value
returns-then-is_below-clause-value c =
    let fits : FitsSigned w64 c.root-size.result = search rules in
    let turned : FitsSigned w64 c.neg.result = search rules in
    let s = c.args.sums.now in
    let h : IsCorrelated s c.root-size.result c.times-square.result c.product-2.result = record {
      root = c.root-size.ensures.value;
      square_is = rw (c.times-square.ensures, c.product.ensures, c.size.ensures, c.size-2.ensures, c.joint_spread-joint.ensures.value) refl;
      divisor_is = rw (c.product-2.ensures, c.size-3.ensures, c.size-4.ensures, c.spread_x-x.ensures.value, c.spread_y-y.ensures.value) refl;
    } in
    let below = ap (λ (j : ℤ). int_lt j (pos 0)) (sym c.joint_spread-joint.ensures.value) ∙ sym c.is_below.ensures.value ∙ c.if-is_below.true in
    rw (to_z-of_z w64 _ turned, c.neg.ensures.value, to_z-of_z w64 _ fits) (correlated_below _ _ _ _ h below)

pub returns-else-is_below-clause-value : goal.returns-else-is_below-clause-value
returns-else-is_below-clause-value c =
    let fits : FitsSigned w64 c.root-size.result = search rules in
    let s = c.args.sums.now in
    let h : IsCorrelated s c.root-size.result c.times-square.result c.product-2.result = record {
      root = c.root-size.ensures.value;
      square_is = rw (c.times-square.ensures, c.product.ensures, c.size.ensures, c.size-2.ensures, c.joint_spread-joint.ensures.value) refl;
      divisor_is = rw (c.product-2.ensures, c.size-3.ensures, c.size-4.ensures, c.spread_x-x.ensures.value, c.spread_y-y.ensures.value) refl;
    } in
    let above = ap (λ (j : ℤ). int_lt j (pos 0)) (sym c.joint_spread-joint.ensures.value) ∙ sym c.is_below.ensures.value ∙ c.if-is_below.false in
    to_z-of_z w64 _ fits ∙ correlated_above _ _ _ _ h above
