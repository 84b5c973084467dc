use Rattle.std.proofs.Common.{arith}
use Rattle.pl_derivation.proofs.Printing.{seen_joined}
use Rattle.pl_derivation.proofs.print.put_seen.Goals as goal

pub returns : goal.returns
returns c = grind (arith, seen_joined)
