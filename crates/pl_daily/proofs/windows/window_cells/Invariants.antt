use Rattle.std.proofs.Common.{◌≡◌, ◌<◌, ℕ, length, get_or, pos}
use Rattle.pl_daily.specs.TermDays.{node_at}
use Rattle.pl_daily.specs.Windows.{windowed_by, window_size}
use Rattle.pl_daily.proofs.RowsShown.{ShowsAt}
use Rattle.pl_daily.proofs.windows.window_cells.Given as goal

abbrev pub invariant-loop-i : goal.invariant-loop-i
invariant-loop-i l = record {
  shown : (k : ℕ) → k < l.i → ShowsAt (windowed_by l.term_day 0) l.fn.empty l.keep k (get_or l.out k (pos 0));
  first : length l.first ≡ window_size (node_at l.term_day) 0;
  second : length l.second ≡ window_size (node_at l.term_day) 1;
  third : length l.third ≡ window_size (node_at l.term_day) 2;
}
