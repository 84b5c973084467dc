use Rattle.std.proofs.Common.{◌↔◌, drop}
use Rattle.pl_syntax.proofs.Same.{SameStatements}
use Rattle.pl_syntax.proofs.equal.same_statements.Given as goal

abbrev pub invariant-loop-statement : goal.invariant-loop-statement
invariant-loop-statement l = SameStatements l.fn.a l.fn.b ↔ SameStatements (drop l.statement-index l.a) l.rest
