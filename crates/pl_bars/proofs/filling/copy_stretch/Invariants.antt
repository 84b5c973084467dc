use Rattle.std.proofs.Common.{◌≡◌, ◌+◌, ◌<◌, ℕ, get_or, pos}
use Rattle.pl_spec.specs.Rounding.{IsCell}
use Rattle.pl_bars.specs.Bars.{cell_at}
use Rattle.pl_bars.proofs.filling.copy_stretch.Given as goal

abbrev pub invariant-loop-k : goal.invariant-loop-k
invariant-loop-k l = record {
  values : (j : ℕ) → j < l.k → get_or l.into j (pos 0) ≡ cell_at l.bars l.col l.fn.column (l.first + j);
  cells : (j : ℕ) → j < l.k → IsCell (get_or l.into j (pos 0));
}
