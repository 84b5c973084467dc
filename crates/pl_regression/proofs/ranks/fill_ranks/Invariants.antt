use Rattle.std.proofs.Common.{◌≡◌, ◌<◌, ℕ, pos, length, get_or}
use Rattle.pl_regression.specs.Ranks.{twice_ranks}
use Rattle.pl_regression.proofs.ranks.fill_ranks.Given as goal

abbrev pub invariant-loop-at : goal.invariant-loop-at
invariant-loop-at l = record {
  long : length l.out ≡ length l.fn.out;
  ranks : (j : ℕ) → j < l.at → get_or l.out j (pos 0) ≡ get_or (twice_ranks l.values) j (pos 0);
}
