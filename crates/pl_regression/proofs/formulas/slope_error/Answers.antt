use Rattle.std.proofs.Common.{◌≡◌, ◌-◌, FitsSigned, w64, rules, arith, refl, ◌∙◌}
use Rattle.std.proofs.lemmas.Int.{to_z-of_z}
use Rattle.pl_regression.proofs.Values.{IsErring, erring}
use Rattle.pl_regression.proofs.formulas.slope_error.Goals as goal

pub returns-clause-value : goal.returns-clause-value
returns-clause-value c =
    let fits : FitsSigned w64 c.root.result = search rules in
    let s = c.args.sums.now in
    let freedom : c.saturating_sub-freedom.result ≡ s.number - 2 = omega (arith, c.saturating_sub-freedom.ensures, c.number.ensures) in
    let h : IsErring s c.times.result c.times-2.result = record {
      square_is = rw (c.times.ensures, c.left_over-left.ensures, c.size.ensures, c.size-2.ensures, c.size-3.ensures, c.spread_x-x.ensures.value, c.spread_y-y.ensures.value, c.joint_spread-joint.ensures.value) refl;
      divisor_is = rw (c.times-2.ensures, c.product.ensures, c.size-4.ensures, c.size-5.ensures, freedom, c.spread_x-x.ensures.value) refl;
    } in
    to_z-of_z w64 _ fits ∙ c.root.ensures.value ∙ erring _ _ _ h
