use Rattle.std.proofs.lemmas.Result.{IfOk-weaker}
use Rattle.std.proofs.Common.{◌∙◌}
use Rattle.pl_spec.specs.Parts.{sid_at}
use Rattle.pl_world.proofs.Views.{own-cell}
use Rattle.pl_model.proofs.evaluation.cell_now.Goals as goal

pub returns-clause-value : goal.returns-clause-value
returns-clause-value g c =
    IfOk-weaker c.cell.result _ _ (λ x h. h.value ∙ own-cell c.args.world.now c.args.checked.now c.args.t.0 (sid_at c.args.world.now.assets.now c.args.col) c.args.session) c.cell.ensures
