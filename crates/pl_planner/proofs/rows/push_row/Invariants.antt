use Rattle.std.proofs.Common.{◌≡◌, ◌++◌, map, take}
use Rattle.pl_planner.specs.Rows.{extra_in}
use Rattle.pl_planner.proofs.rows.push_row.Given as goal

abbrev pub invariant-loop-own : goal.invariant-loop-own
invariant-loop-own l = l.extras.items ≡ l.fn.extras.items ++ map extra_in (take l.own-index l.uses)
