use Rattle.std.proofs.Common.{length}
use Rattle.pl_check.proofs.methods.+name_others.Given as goal

abbrev pub decreases-name_others : goal.decreases-name_others
decreases-name_others l = length l.written.now
