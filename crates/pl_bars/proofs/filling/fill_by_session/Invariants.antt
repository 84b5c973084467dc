use Rattle.std.proofs.Common.{◌≡◌, ◌+◌, ◌<◌, ◌≤◌, ℕ, length, get_or, pos}
use Rattle.pl_spec.specs.Rounding.{IsCell}
use Rattle.pl_bars.specs.Bars.{cell_at}
use Rattle.pl_bars.specs.BarPoint.{BarPoint}
use Rattle.pl_bars.proofs.filling.fill_by_session.Given as goal

abbrev pub invariant-loop-k : goal.invariant-loop-k
invariant-loop-k l = record {
  within : l.at ≤ length l.bars;
  point : BarPoint l.col (l.first + l.k) l.bars l.at;
  values : (j : ℕ) → j < l.k → get_or l.into j (pos 0) ≡ cell_at l.bars l.col l.column (l.first + j);
  cells : (j : ℕ) → j < l.k → IsCell (get_or l.into j (pos 0));
}
