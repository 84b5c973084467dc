use Rattle.std.proofs.Common.{◌≡◌, length, map, All}
use Rattle.pl_spec.specs.Rounding.{IsCell}
use Rattle.pl_spec.specs.Window.{downward}
use Rattle.pl_daily.specs.Earlier.{IsReadBack}
use Rattle.pl_daily.specs.TermDays.{IsTermDay, Moment, earlier_cell}
use Rattle.pl_daily.proofs.Cells.{IsBegun}
use Rattle.pl_daily.proofs.anew.renew_cells.Given as goal

abbrev pub invariant-loop-place : goal.invariant-loop-place
invariant-loop-place l = record {
  begun : (v : Moment) → IsTermDay l.term_day v → IsReadBack l.term_day v l.fed (length l.fn.cells)
      → IsBegun (map (earlier_cell l.term_day v l.term_day.term.0 l.i) (downward (length l.fn.cells))) l.place l.fn.cells l.cells;
  long : length l.cells ≡ length l.fn.cells;
  cells : All IsCell l.cells;
  first : length l.first ≡ length l.fn.first;
  second : length l.second ≡ length l.fn.second;
  third : length l.third ≡ length l.fn.third;
}
