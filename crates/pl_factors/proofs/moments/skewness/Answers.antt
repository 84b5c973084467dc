use Rattle.std.proofs.Common.{ℤ, pos, ◌≤◌, ◌*◌, FitsSigned, w64, rules, arith, refl, ap, sym, ◌∙◌}
use Rattle.std.proofs.lemmas.Int.{to_z-of_z}
use Rattle.std.proofs.lemmas.Nat.{mul-le}
use Rattle.std.specs.Int.RustNames.{int_lt}
use Rattle.pl_factors.specs.Terms.{MOST_SUM}
use Rattle.pl_factors.proofs.Central.{IsSkewed, size_limited, skewed_above, skewed_below}
use Rattle.pl_factors.proofs.moments.skewness.Goals as goal

pub product-requires : goal.product-requires
product-requires c =
    let t = c.third_moment-third.ensures.small in
    let x : c.size.result.now ≤ (6 * (MOST_SUM * MOST_SUM * MOST_SUM)) = omega (arith, c.size.ensures, t) in
    let y : c.size-2.result.now ≤ (6 * (MOST_SUM * MOST_SUM * MOST_SUM)) = omega (arith, c.size-2.ensures, t) in
    let p = mul-le _ _ (6 * (MOST_SUM * MOST_SUM * MOST_SUM)) (6 * (MOST_SUM * MOST_SUM * MOST_SUM)) x y in
    omega (arith, p)

pub times-square-requires : goal.times-square-requires
times-square-requires c =
    let t = c.third_moment-third.ensures.small in
    let x : c.size.result.now ≤ (6 * (MOST_SUM * MOST_SUM * MOST_SUM)) = omega (arith, c.size.ensures, t) in
    let y : c.size-2.result.now ≤ (6 * (MOST_SUM * MOST_SUM * MOST_SUM)) = omega (arith, c.size-2.ensures, t) in
    let p = size_limited c.size.result.now c.size-2.result.now c.product.result (6 * (MOST_SUM * MOST_SUM * MOST_SUM)) (6 * (MOST_SUM * MOST_SUM * MOST_SUM)) c.product.ensures x y in
    omega (arith, p)

pub product-requires-2 : goal.product-requires-2
product-requires-2 c =
    let t = c.second_moment-second.ensures.small in
    let x : c.size-3.result.now ≤ (2 * (MOST_SUM * MOST_SUM)) = omega (arith, c.size-3.ensures, t) in
    let y : c.size-4.result.now ≤ (2 * (MOST_SUM * MOST_SUM)) = omega (arith, c.size-4.ensures, t) in
    let p = mul-le _ _ (2 * (MOST_SUM * MOST_SUM)) (2 * (MOST_SUM * MOST_SUM)) x y in
    omega (arith, p)

pub product-cube-requires : goal.product-cube-requires
product-cube-requires c =
    let t = c.second_moment-second.ensures.small in
    let x : c.size-3.result.now ≤ (2 * (MOST_SUM * MOST_SUM)) = omega (arith, c.size-3.ensures, t) in
    let y : c.size-4.result.now ≤ (2 * (MOST_SUM * MOST_SUM)) = omega (arith, c.size-4.ensures, t) in
    let z : c.size-5.result.now ≤ (2 * (MOST_SUM * MOST_SUM)) = omega (arith, c.size-5.ensures, t) in
    let p = size_limited c.size-3.result.now c.size-4.result.now c.product-2.result (2 * (MOST_SUM * MOST_SUM)) (2 * (MOST_SUM * MOST_SUM)) c.product-2.ensures x y in
    let q = mul-le _ _ ((2 * (MOST_SUM * MOST_SUM)) * (2 * (MOST_SUM * MOST_SUM))) (2 * (MOST_SUM * MOST_SUM)) p z in
    omega (arith, q)

pub root-size-requires : goal.root-size-requires
root-size-requires c =
    let t = c.third_moment-third.ensures.small in
    let x : c.size.result.now ≤ (6 * (MOST_SUM * MOST_SUM * MOST_SUM)) = omega (arith, c.size.ensures, t) in
    let y : c.size-2.result.now ≤ (6 * (MOST_SUM * MOST_SUM * MOST_SUM)) = omega (arith, c.size-2.ensures, t) in
    let p = size_limited c.size.result.now c.size-2.result.now c.product.result (6 * (MOST_SUM * MOST_SUM * MOST_SUM)) (6 * (MOST_SUM * MOST_SUM * MOST_SUM)) c.product.ensures x y in
    omega (arith, p, c.times-square.ensures)

pub returns-then-is_below-clause-value : goal.returns-then-is_below-clause-value
returns-then-is_below-clause-value c =
    let fits : FitsSigned w64 c.root-size.result = search rules in
    let turned : FitsSigned w64 c.neg.result = search rules in
    let s = c.args.sums.now in
    let h : IsSkewed s c.root-size.result c.times-square.result c.product-cube.result = record {
      root = c.root-size.ensures.value;
      square_is = rw (c.times-square.ensures, c.product.ensures, c.size.ensures, c.size-2.ensures, c.third_moment-third.ensures.value) refl;
      divisor_is = rw (c.product-cube.ensures, c.product-2.ensures, c.size-3.ensures, c.size-4.ensures, c.size-5.ensures, c.second_moment-second.ensures.value) refl;
    } in
    let below = ap (λ (j : ℤ). int_lt j (pos 0)) (sym c.third_moment-third.ensures.value) ∙ sym c.is_below.ensures.value ∙ c.if-is_below.true in
    rw (to_z-of_z w64 _ turned, c.neg.ensures.value, to_z-of_z w64 _ fits) (skewed_below _ _ _ _ h below)

pub returns-else-is_below-clause-value : goal.returns-else-is_below-clause-value
returns-else-is_below-clause-value c =
    let fits : FitsSigned w64 c.root-size.result = search rules in
    let s = c.args.sums.now in
    let h : IsSkewed s c.root-size.result c.times-square.result c.product-cube.result = record {
      root = c.root-size.ensures.value;
      square_is = rw (c.times-square.ensures, c.product.ensures, c.size.ensures, c.size-2.ensures, c.third_moment-third.ensures.value) refl;
      divisor_is = rw (c.product-cube.ensures, c.product-2.ensures, c.size-3.ensures, c.size-4.ensures, c.size-5.ensures, c.second_moment-second.ensures.value) refl;
    } in
    let above = ap (λ (j : ℤ). int_lt j (pos 0)) (sym c.third_moment-third.ensures.value) ∙ sym c.is_below.ensures.value ∙ c.if-is_below.false in
    to_z-of_z w64 _ fits ∙ skewed_above _ _ _ _ h above
