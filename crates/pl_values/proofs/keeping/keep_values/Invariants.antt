use Rattle.std.proofs.Common.{◌≡◌, ℕ, ◌<◌, ◌≤◌, pos, get_or, length}
use Rattle.pl_values.specs.Arrays.{kept_or}
use Rattle.pl_values.proofs.keeping.keep_values.Given as goal

abbrev pub invariant-loop-i : goal.invariant-loop-i
invariant-loop-i l = record {
  same : length l.out ≡ length l.fn.out;
  done : (k : ℕ) → k < l.i → get_or l.out k (pos 0) ≡ kept_or l.empty l.keep (λ j. get_or l.fn.out j (pos 0)) k;
  rest : (k : ℕ) → l.i ≤ k → get_or l.out k (pos 0) ≡ get_or l.fn.out k (pos 0);
}
