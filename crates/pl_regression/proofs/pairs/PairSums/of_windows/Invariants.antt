use Rattle.std.proofs.Common.{◌≡◌, take}
use Rattle.pl_pipeline.specs.Formula.{pair_sums}
use Rattle.pl_regression.proofs.pairs.PairSums.of_windows.Given as goal

abbrev pub invariant-loop-at : goal.invariant-loop-at
invariant-loop-at l = l.sums ≡ pair_sums (take l.at l.xs) (take l.at l.ys)
