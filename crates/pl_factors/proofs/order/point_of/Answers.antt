use Rattle.std.proofs.Common.{◌≡◌, ◌+ℤ◌, ap, ap₂, ◌∙◌, ℤ, pos, refl, rules, arith, FitsSigned, w64, to_z, of_z}
use Rattle.std.specs.Int.{w128}
use Rattle.std.proofs.lemmas.Int.{to_z-of_z, ints, fits_signed_from_abs}
use Rattle.pl_spec.specs.Rounding.{quot}
use Rattle.pl_factors.proofs.Kept.{kept_cell}
use Rattle.pl_factors.proofs.InOrder.{point_is}
use Rattle.pl_factors.proofs.order.point_of.Goals as goal

pub returns-clause-value : goal.returns-clause-value
returns-clause-value c vs moved =
    let fr : FitsSigned w64 c.quot.result = search rules in
    let sum = c.times.result +ℤ c.times-2.result in
    let low : to_z w128 (of_z w128 c.times.result) ≡ c.times.result = to_z-of_z w128 _ (fits_signed_from_abs w128 c.times.result (omega (arith, c.times.ensures.small))) in
    let high : to_z w128 (of_z w128 c.times-2.result) ≡ c.times-2.result = to_z-of_z w128 _ (fits_signed_from_abs w128 c.times-2.result (omega (arith, c.times-2.ensures.small))) in
    let fits : FitsSigned w128 sum = fits_signed_from_abs w128 sum (omega (arith, ints, c.times.ensures.small, c.times-2.ensures.small)) in
    to_z-of_z w64 _ fr ∙ c.quot.ensures.value
    ∙ ap (λ z. quot z (pos 10000)) (ap₂ (λ (u v : ℤ). to_z w128 (of_z w128 (u +ℤ v))) low high ∙ to_z-of_z w128 sum fits ∙ ap₂ (λ (u v : ℤ). u +ℤ v) c.times.ensures.value c.times-2.ensures.value)
    ∙ point_is vs c.args.values.now moved c.requires.order c.args.percent _ _ _ c.requires.percent c.requires.some refl refl refl

pub returns-clause-cell : goal.returns-clause-cell
returns-clause-cell c = kept_cell _ c.quot.ensures.cell
