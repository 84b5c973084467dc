use Rattle.std.proofs.Common.{length}
use Rattle.pl_daily.proofs.capacities.+has_term.Given as goal

abbrev pub decreases-has_term : goal.decreases-has_term
decreases-has_term l = length l.inputs.now
