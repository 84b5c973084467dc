use Rattle.std.proofs.Common.{◌≡◌, rules, FitsSigned, to_z, of_z, w64, ap, ◌∙◌}
use Rattle.std.proofs.lemmas.Int.{to_z-of_z}
use Rattle.pl_pipeline.specs.Elementary.{log}
use Rattle.pl_elementary.proofs.Rising.{log-rise, cell-most}
use Rattle.pl_elementary.proofs.logarithm.log.Goals as goal

pub returns-clause-rises : goal.returns-clause-rises
returns-clause-rises c =
    let f : FitsSigned w64 c.log_of_cell.result = search rules in
    let e : to_z w64 (of_z w64 c.log_of_cell.result) ≡ log c.args.x = to_z-of_z w64 _ f ∙ c.log_of_cell.ensures.value ∙ ap log (to_z-of_z w64 c.args.x c.ranges.x) in
    rw e (λ y some less. log-rise y c.args.x some less (cell-most c.args.x c.requires))
