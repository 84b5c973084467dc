use Rattle.std.proofs.Common.{◌∙◌, ap}
use Rattle.pl_assets.specs.Labels.{with_label}
use Rattle.pl_assets.proofs.LabelCuts.{text_known}
use Rattle.pl_assets.proofs.labels.rows.LabelRows.take.Goals as goal

pub returns-clause-texts : goal.returns-clause-texts
returns-clause-texts c =
    let from = c.args.from.now in
    c.in_ok-push.ensures.texts ∙ ap (λ l. with_label l c.text_of.result.now) c.requires.texts ∙ ap (with_label from.texts) c.text_of.ensures
    ∙ text_known from.names from.texts c.args.place.now c.requires.place
