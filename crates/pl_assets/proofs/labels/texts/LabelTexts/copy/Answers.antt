use Rattle.std.proofs.Common.{◌∙◌, ap}
use Rattle.pl_assets.specs.Labels.{with_text}
use Rattle.pl_assets.proofs.FirstSeen.{front_more}
use Rattle.pl_assets.proofs.labels.texts.LabelTexts.copy.Goals as goal

pub loop-code-preserved : goal.loop-code-preserved
loop-code-preserved c =
    c.in_ok-insert.ensures.texts ∙ ap (λ l. with_text l c.text.result.now) c.loop-code.invariant ∙ ap (with_text _) c.text.ensures
    ∙ front_more c.args.self.now c.loop-code.code c.requires.once (rw c.len-code-end.ensures at c.loop-code-test.true)
