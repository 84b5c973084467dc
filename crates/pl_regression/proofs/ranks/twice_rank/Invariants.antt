use Rattle.std.proofs.Common.{◌≡◌, ◌+◌, take, sum_by}
use Rattle.pl_regression.specs.Ranks.{share}
use Rattle.pl_regression.proofs.ranks.twice_rank.Given as goal

abbrev pub invariant-loop-at : goal.invariant-loop-at
invariant-loop-at l = l.rank ≡ 1 + sum_by (share l.x) (take l.at l.cells)
