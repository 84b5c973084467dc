use Rattle.std.proofs.Common.{◌≡◌, ◌++◌, drop}
use Rattle.pl_syntax.specs.Canonical.{statements_text}
use Rattle.pl_syntax.specs.Statements.{statements_of}
use Rattle.pl_syntax.specs.Scripts.{printed_text}
use Rattle.pl_syntax.proofs.writer.text_of.Given as goal

abbrev pub invariant-loop-statement : goal.invariant-loop-statement
invariant-loop-statement l = l.out.items ++ statements_text (statements_of (drop l.statement-index l.statement-items)) ≡ printed_text l.fn.script
