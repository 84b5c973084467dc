use Rattle.std.proofs.Common.{◌≡◌, ℕ, ◌<◌, true, map, Some, slice_get}
use Rattle.pl_terms.specs.Checked.{columns_of}
use Rattle.pl_daily.specs.Ready.{has_first}
use Rattle.pl_daily.proofs.reaches.columns_have_first.Given as goal

abbrev pub invariant-loop-i : goal.invariant-loop-i
invariant-loop-i l = (j t : ℕ) → j < l.i → slice_get (map (λ c. c.term) (columns_of l.checked.columns)) j ≡ Some t → has_first l.since t ≡ true
