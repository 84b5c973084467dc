use Rattle.std.proofs.Common.{◌≡◌, ◌<◌, ℕ, get_or, pos}
use Rattle.pl_spec.specs.Rounding.{IsCell}
use Rattle.pl_numbers.specs.Numbers.{number_on}
use Rattle.pl_daily.proofs.leaves.lent_row.Given as goal

abbrev pub invariant-loop-i : goal.invariant-loop-i
invariant-loop-i l = record {
  each : (k : ℕ) → k < l.i → get_or l.out k (pos 0) ≡ number_on l.figure l.numbers.rows l.name k l.fn.day;
  cells : (k : ℕ) → k < l.i → IsCell (get_or l.out k (pos 0));
}
