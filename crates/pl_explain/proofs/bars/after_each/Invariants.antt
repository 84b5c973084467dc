use Rattle.std.proofs.Common.{◌≡◌, ◌+◌, All, drop}
use Rattle.pl_spec.specs.Rounding.{IsCell}
use Rattle.pl_spec.specs.Window.{step_count}
use Rattle.pl_adjust.specs.Events.{effects_of}
use Rattle.pl_explain.proofs.Growing.{IsGrown}
use Rattle.pl_explain.proofs.bars.after_each.Given as goal

-- the cells so far, and those that the adjustments that are left give
abbrev pub invariant-loop-adjust : goal.invariant-loop-adjust
invariant-loop-adjust g l = record {
  grown : IsGrown l.fn.cell (effects_of l.fn.column l.fn.bar_day l.fn.list) l.cells.items l.seen (effects_of l.fn.column l.fn.bar_day (drop l.adjust-index l.fn.list));
  cell : IsCell l.seen;
  cells : All IsCell l.cells.items;
  cost : l.steps + step_count (effects_of l.fn.column l.fn.bar_day (drop l.adjust-index l.fn.list)) ≡ l.fn.steps + step_count (effects_of l.fn.column l.fn.bar_day l.fn.list);
}
