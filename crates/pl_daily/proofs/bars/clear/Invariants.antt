use Rattle.std.proofs.Common.{◌≡◌, ℕ, ◌<◌, pos, length, get_or}
use Rattle.pl_spec.specs.Rounding.{MISSING}
use Rattle.pl_daily.proofs.bars.clear.Given as goal

abbrev pub invariant-loop-i : goal.invariant-loop-i
invariant-loop-i l = record {
  count : length l.row ≡ length l.fn.row;
  front : (k : ℕ) → k < l.i → get_or l.row k (pos 0) ≡ MISSING;
}
