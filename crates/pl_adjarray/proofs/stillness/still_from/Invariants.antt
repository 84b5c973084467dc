use Rattle.std.proofs.Common.{◌≡◌, ℕ, ◌<◌, []}
use Rattle.pl_adjarray.specs.Buffered.{col_at}
use Rattle.pl_adjarray.specs.Stillness.{IsGreatest, effective_within}
use Rattle.pl_adjarray.proofs.stillness.still_from.Given as goal

abbrev pub invariant-loop-i : goal.invariant-loop-i
invariant-loop-i l = IsGreatest (λ n. (j : ℕ) → j < l.i → effective_within l.array l.session n (col_at l.array j) ≡ []) l.most l.least
