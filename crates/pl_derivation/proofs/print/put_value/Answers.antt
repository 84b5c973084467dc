use Rattle.std.proofs.Common.{arith}
use Rattle.pl_derivation.proofs.Printing.{value_joined}
use Rattle.pl_derivation.proofs.print.put_value.Goals as goal

pub returns : goal.returns
returns c = grind (arith, value_joined)
