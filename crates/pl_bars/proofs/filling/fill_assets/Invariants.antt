use Rattle.std.proofs.Common.{◌≡◌, ◌+◌, ◌*◌, ◌<◌, ℕ, get_or, pos}
use Rattle.pl_spec.specs.Rounding.{IsCell}
use Rattle.pl_bars.specs.Bars.{cell_at}
use Rattle.pl_bars.proofs.filling.fill_assets.Given as goal

abbrev pub invariant-loop-i : goal.invariant-loop-i
invariant-loop-i l = record {
  values : (j k : ℕ) → j < l.i → k < l.rows → get_or l.into (j * l.rows + k) (pos 0) ≡ cell_at l.bars (get_or l.cols j 0) l.column (l.first + k);
  cells : (j k : ℕ) → j < l.i → k < l.rows → IsCell (get_or l.into (j * l.rows + k) (pos 0));
}
