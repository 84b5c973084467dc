use Rattle.std.proofs.Common.{◌≡◌, rules, FitsSigned, to_z, of_z, w64, ap, ◌∙◌}
use Rattle.std.proofs.lemmas.Int.{to_z-of_z}
use Rattle.pl_pipeline.specs.Elementary.{exp}
use Rattle.pl_elementary.proofs.Growing.{exp-rise}
use Rattle.pl_elementary.proofs.exponential.exp.Goals as goal

pub returns-clause-rises : goal.returns-clause-rises
returns-clause-rises c =
    let f : FitsSigned w64 c.exp_of_cell.result = search rules in
    let e : to_z w64 (of_z w64 c.exp_of_cell.result) ≡ exp c.args.x = to_z-of_z w64 _ f ∙ c.exp_of_cell.ensures.value ∙ ap exp (to_z-of_z w64 c.args.x c.ranges.x) in
    rw e (λ there y less. exp-rise y c.args.x less there)
