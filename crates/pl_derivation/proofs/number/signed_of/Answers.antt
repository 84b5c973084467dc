use Rattle.std.proofs.Common.{arith}
use Rattle.pl_derivation.proofs.Numbers.{something_said}
use Rattle.pl_derivation.proofs.number.signed_of.Goals as goal

pub returns-then-is_empty-clause-only : goal.returns-then-is_empty-clause-only
returns-then-is_empty-clause-only c = λ x h e. absurd (something_said c.args.text.now x (grind arith) h e)
