use Rattle.std.proofs.Common.{◌-◌}
use Rattle.pl_exec.proofs.compute.+fill_from.Given as goal

abbrev pub decreases-fill_from : goal.decreases-fill_from
decreases-fill_from g l = 3 - l.place
