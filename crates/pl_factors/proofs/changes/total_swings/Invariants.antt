use Rattle.std.proofs.Common.{◌*◌, ◌+◌, pos, get_or}
use Rattle.pl_spec.specs.Rounding.{LIMIT}
use Rattle.pl_factors.specs.Terms.{swing}
use Rattle.pl_factors.proofs.Totals.{IsTermSum}
use Rattle.pl_factors.proofs.changes.total_swings.Given as goal

abbrev pub invariant-loop-at : goal.invariant-loop-at
invariant-loop-at l = IsTermSum (λ i. swing l.falls (get_or l.a i (pos 0)) (get_or l.a (i + 1) (pos 0))) (2 * LIMIT) l.at l.sum
