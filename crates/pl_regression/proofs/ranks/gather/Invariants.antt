use Rattle.std.proofs.Common.{◌≡◌, ◌≤◌, length, take}
use Rattle.pl_pipeline.specs.Formula.{present_pairs}
use Rattle.pl_regression.specs.Ranks.{firsts, seconds}
use Rattle.pl_regression.proofs.ranks.gather.Given as goal

abbrev pub invariant-loop-at : goal.invariant-loop-at
invariant-loop-at l = record {
  first_long : length l.first ≡ length l.fn.first;
  second_long : length l.second ≡ length l.fn.second;
  few : l.count ≤ l.at;
  first : take l.count l.first ≡ firsts (present_pairs (take l.at l.xs) (take l.at l.ys));
  second : take l.count l.second ≡ seconds (present_pairs (take l.at l.xs) (take l.at l.ys));
}
