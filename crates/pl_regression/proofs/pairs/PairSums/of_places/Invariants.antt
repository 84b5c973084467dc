use Rattle.std.proofs.Common.{◌≡◌, take}
use Rattle.pl_pipeline.specs.Formula.{pair_sums, places}
use Rattle.pl_regression.proofs.pairs.PairSums.of_places.Given as goal

abbrev pub invariant-loop-at : goal.invariant-loop-at
invariant-loop-at l = l.sums ≡ pair_sums (take l.at (places l.ys)) (take l.at l.ys)
