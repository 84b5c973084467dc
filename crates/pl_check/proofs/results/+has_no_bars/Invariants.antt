use Rattle.std.proofs.Common.{length}
use Rattle.pl_check.proofs.results.+has_no_bars.Given as goal

abbrev pub decreases-has_no_bars : goal.decreases-has_no_bars
decreases-has_no_bars l = length l.bound.now
