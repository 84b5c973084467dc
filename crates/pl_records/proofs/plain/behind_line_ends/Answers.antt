use Rattle.std.proofs.Common.{◌∙◌, sym}
use Rattle.pl_records.proofs.PlainLines.{skipped}
use Rattle.pl_records.proofs.plain.behind_line_ends.Goals as goal

pub loop-i-preserved : goal.loop-i-preserved
loop-i-preserved c = skipped c.args.text.now c.loop-i.i c.loop-i-test.true (sym c.is_line_end.ensures ∙ c.if-not-is_line_end.false) ∙ c.loop-i.invariant
