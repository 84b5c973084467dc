use Rattle.std.proofs.Common.{refl}
use Rattle.pl_syntax.specs.Statements.{statements_of}
use Rattle.pl_syntax.proofs.parser.finish.Goals as goal

pub new-requires-clause-known : goal.new-requires-clause-known
new-requires-clause-known c = c.requires.known (statements_of c.in-Between.statements.items) (rw c.in-Between.is refl)
