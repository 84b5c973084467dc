use Rattle.std.proofs.Common.{◌∙◌, ap}
use Rattle.pl_syntax.specs.Canonical.{version_text}
use Rattle.pl_syntax.specs.Scripts.{version_in, statements_in, printed_text}
use Rattle.pl_syntax.proofs.Lines.{begun_lines, more_lines, ended_lines}
use Rattle.pl_syntax.proofs.writer.text_of.Goals as goal

pub loop-statement-init : goal.loop-statement-init
loop-statement-init c =
    begun_lines (version_in c.args.script.now) c.statements-statement-items.result.now (statements_in c.args.script.now) c.new-out.result.items c.put.new.out.items c.version_line.result.now
    c.statements-statement-items.ensures.value c.new-out.ensures.items c.in_ok-put.ensures (c.version_line.ensures ∙ ap version_text c.version.ensures.value)

pub loop-statement-preserved : goal.loop-statement-preserved
loop-statement-preserved c =
    more_lines c.statements-statement-items.result.now c.loop-statement.statement-index c.statement-item.result c.loop-statement.out.items c.put_statement.new.out.items (printed_text c.args.script.now)
    c.loop-statement-test.true c.statement-item.is c.in_ok-put_statement.ensures c.loop-statement.invariant

pub returns : goal.returns
returns c =
    ended_lines c.statements-statement-items.result.now c.loop-statement.statement-index c.loop-statement.out.items (printed_text c.args.script.now) c.loop-statement-test.false c.loop-statement.invariant
