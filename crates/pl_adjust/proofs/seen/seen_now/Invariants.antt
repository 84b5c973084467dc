use Rattle.std.proofs.Common.{◌≡◌, ◌+◌, drop}
use Rattle.pl_spec.specs.Rounding.{IsCell}
use Rattle.pl_spec.specs.Window.{after_all, step_count}
use Rattle.pl_adjust.specs.Events.{effects_of}
use Rattle.pl_adjust.proofs.seen.seen_now.Given as goal

-- the adjustments that are left make of the cell so far what all make of the bar's, in as many steps as are
-- left
abbrev pub invariant-loop-adjust : goal.invariant-loop-adjust
invariant-loop-adjust g l = record {
  seen : after_all l.seen (effects_of l.column l.fn.bar_day (drop l.adjust-index l.adjust-items)) ≡ after_all l.fn.cell (effects_of l.column l.fn.bar_day l.adjust-items);
  cell : IsCell l.seen;
  cost : l.steps + step_count (effects_of l.column l.fn.bar_day (drop l.adjust-index l.adjust-items)) ≡ l.fn.steps + step_count (effects_of l.column l.fn.bar_day l.adjust-items);
}
