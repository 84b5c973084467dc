use Rattle.std.proofs.Common.{rules, ◌∙◌, FitsSigned}
use Rattle.std.specs.Int.{w128}
use Rattle.std.proofs.lemmas.Int.{to_z-of_z}
use Rattle.pl_factors.proofs.Central.{same_powers}
use Rattle.pl_factors.proofs.Raised.{cubes-self, squares-self}
use Rattle.pl_factors.proofs.moments.PowerSums.of_window.Goals as goal

pub returns-clause-value : goal.returns-clause-value
returns-clause-value c =
    let a = c.args.a.now in
    let first : FitsSigned w128 c.sum_present-first.result.0 = search rules in
    let second : FitsSigned w128 c.total_products.result = search rules in
    same_powers _ _ c.sum_present-first.ensures.count (to_z-of_z w128 _ first ∙ c.sum_present-first.ensures.sum)
    (to_z-of_z w128 _ second ∙ c.total_products.ensures.value ∙ squares-self a) (c.weighted_squares.ensures.value ∙ cubes-self a) c.fourth_powers.ensures.value
