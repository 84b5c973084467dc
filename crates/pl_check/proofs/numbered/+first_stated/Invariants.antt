use Rattle.std.proofs.Common.{length}
use Rattle.pl_check.proofs.numbered.+first_stated.Given as goal

abbrev pub decreases-first_stated : goal.decreases-first_stated
decreases-first_stated l = length l.statements.now
