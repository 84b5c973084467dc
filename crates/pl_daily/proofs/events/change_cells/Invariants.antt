use Rattle.std.proofs.Common.{◌≡◌, ◌+◌, ◌*◌, ◌-◌, ◌≤◌, [], ◌∷◌, length, All}
use Rattle.pl_spec.specs.Rounding.{IsCell}
use Rattle.pl_adjust.specs.Events.{event_of}
use Rattle.pl_daily.specs.Rings.{changed_cells, known_days, scaling}
use Rattle.pl_daily.proofs.Cells.{IsBegun}
use Rattle.pl_daily.proofs.events.change_cells.Given as goal

abbrev pub invariant-loop-i : goal.invariant-loop-i
invariant-loop-i g l = record {
  from : l.from ≤ l.i;
  begun : IsBegun (changed_cells l.column (event_of l.event.adjust ∷ []) (known_days l.fed l.days) l.fn.cells) l.i l.fn.cells l.cells;
  cells : All IsCell l.cells;
  cost : l.steps ≡ l.fn.steps + length (scaling l.column (l.event ∷ [])) * (l.i - l.from);
}
