use Rattle.std.proofs.Common.{◌∙◌, ap}
use Rattle.pl_assets.specs.Labels.{with_text}
use Rattle.pl_assets.proofs.FirstSeen.{front_more}
use Rattle.pl_numbers.proofs.cut.copy_of.Goals as goal

pub loop-number-preserved : goal.loop-number-preserved
loop-number-preserved c =
    c.in_ok-insert.ensures.texts ∙ ap (λ l. with_text l c.text.result.now) c.loop-number.invariant ∙ ap (with_text _) c.text.ensures
    ∙ front_more c.args.names.now c.loop-number.number c.requires (rw c.len-number-end.ensures at c.loop-number-test.true)
