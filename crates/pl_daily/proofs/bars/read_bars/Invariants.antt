use Rattle.std.proofs.Common.{◌≡◌, ℕ, ◌<◌, pos, length, get_or, take, All}
use Rattle.pl_spec.specs.Rounding.{IsCell}
use Rattle.pl_daily.specs.Days.{cell_brought}
use Rattle.pl_daily.proofs.bars.read_bars.Given as goal

abbrev pub invariant-loop-k : goal.invariant-loop-k
invariant-loop-k l = record {
  count : length l.row ≡ length l.fn.row;
  each : (i : ℕ) → i < length l.fn.row → get_or l.row i (pos 0) ≡ cell_brought l.column (take l.k l.bars) i;
  cells : All IsCell l.row;
}
