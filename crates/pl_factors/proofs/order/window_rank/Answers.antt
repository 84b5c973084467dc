use Rattle.std.proofs.Common.{◌≡◌, ◌*◌, ap, ap₂, ◌∙◌, sym, pos, false, rules, arith, FitsSigned, w64}
use Rattle.std.specs.Int.{w128}
use Rattle.std.proofs.lemmas.Int.{to_z-of_z, to_z_pos}
use Rattle.pl_spec.specs.Rounding.{is_missing, quot}
use Rattle.pl_spec.specs.Cells.{present_values}
use Rattle.pl_pipeline.specs.Formula.{newest}
use Rattle.pl_pipeline.specs.Order.{twice_rank}
use Rattle.pl_fixed.proofs.CellLemmas.{is_missing-not}
use Rattle.pl_factors.proofs.order.window_rank.Goals as goal

pub returns-clause-value : goal.returns-clause-value
returns-clause-value c =
    let vs = present_values c.args.a.now in
    let fx : FitsSigned w64 c.newest-x.result = search rules in
    let fr : FitsSigned w64 c.quot.result = search rules in
    let there = is_missing-not c.newest-x.result fx c.if-x.false in
    let gone : is_missing (newest c.args.a.now) ≡ false = ap is_missing (sym c.newest-x.ensures.value) ∙ there in
    let rank = c.twice_rank.ensures.value ∙ ap (λ v. twice_rank v vs) (to_z-of_z w64 _ fx ∙ c.newest-x.ensures.value) in
    rw gone (to_z-of_z w64 _ fr ∙ c.quot.ensures.value ∙ ap₂ quot
    (to_z_pos w128 (c.twice_rank.result * 1000000) (omega (arith, c.twice_rank.ensures.few, c.requires.few)) ∙ ap (λ n. pos (n * 1000000)) rank)
    (to_z_pos w128 (2 * c.sum_present-count.result.1) (omega (arith, c.sum_present-count.ensures.few, c.requires.few)) ∙ ap (λ n. pos (2 * n)) c.sum_present-count.ensures.count))
