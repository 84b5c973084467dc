use Rattle.std.proofs.Common.{◌≡◌, take}
use Rattle.pl_planner.specs.Rows.{most_extra}
use Rattle.pl_planner.proofs.rows.most_extra.Given as goal

abbrev pub invariant-loop-extra : goal.invariant-loop-extra
invariant-loop-extra l = l.most ≡ most_extra (take l.extra-index l.extras)
