use Rattle.std.proofs.Common.{◌∙◌, ap}
use Rattle.pl_assets.specs.Labels.{with_text}
use Rattle.pl_numbers.proofs.NumbersJoined.{text-joins}
use Rattle.pl_numbers.proofs.join.put_names.Goals as goal

pub loop-number-preserved : goal.loop-number-preserved
loop-number-preserved c =
    c.in_ok-insert.ensures.texts ∙ ap (λ l. with_text l c.text.result.now) c.loop-number.invariant ∙ ap (with_text _) c.text.ensures
    ∙ text-joins c.args.into.now c.args.names.now c.loop-number.number c.requires.once c.requires.apart (rw c.len-number-end.ensures at c.loop-number-test.true)
