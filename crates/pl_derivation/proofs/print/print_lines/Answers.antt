use Rattle.std.proofs.Common.{sym, ◌∙◌}
use Rattle.pl_derivation.proofs.Printing.{text_begun, text_next}
use Rattle.pl_derivation.proofs.print.print_lines.Goals as goal

pub loop-i-init : goal.loop-i-init
loop-i-init c = c.new-bytes.ensures.items ∙ sym text_begun

pub loop-i-preserved : goal.loop-i-preserved
loop-i-preserved c = c.in_ok-put_line.ensures ∙ rw (c.loop-i.invariant) (sym (text_next c.args.derivation.now c.loop-i.i _ c.line.ensures.line))
