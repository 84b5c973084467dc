use Rattle.std.proofs.Common.{◌≡◌, ℕ, ℤ, ◌+◌, ◌*◌, ◌<◌, ◌≤◌, drop, slice_get, Some}
use Rattle.pl_spec.specs.Rounding.{IsCell}
use Rattle.pl_spec.specs.Window.{after_all, step_count}
use Rattle.pl_spec.specs.Limits.{saturated}
use Rattle.pl_adjust.specs.Events.{effects_of}
use Rattle.pl_adjarray.specs.Buffered.{cell_at}
use Rattle.pl_adjarray.proofs.sliding.slide.Given as goal

-- the events that are left make of the cells so far what all make of the first cells, in as many steps as are
-- left
abbrev pub invariant-loop-event : goal.invariant-loop-event
invariant-loop-event g l = record {
  moved : (bar : ℤ) (j : ℕ) → j < l.part.count → slice_get l.sessions (l.part.first + j) ≡ Some bar → after_all (cell_at l.cells (l.part.at + j)) (effects_of l.column bar (drop l.event-index l.events)) ≡ after_all (cell_at l.fn.cells (l.part.at + j)) (effects_of l.column bar l.events);
  before : (k : ℕ) → k < l.part.at → cell_at l.cells k ≡ cell_at l.fn.cells k;
  behind : (k : ℕ) → l.part.at + l.part.count ≤ k → cell_at l.cells k ≡ cell_at l.fn.cells k;
  cells : (j : ℕ) → j < l.part.count → IsCell (cell_at l.cells (l.part.at + j));
  cost : (bar : ℤ) → l.steps + l.part.count * step_count (effects_of l.column bar (drop l.event-index l.events)) ≡ l.fn.steps + l.part.count * step_count (effects_of l.column bar l.events);
  tally : (bar : ℤ) → saturated (l.applied + l.part.count * step_count (effects_of l.column bar (drop l.event-index l.events))) ≡ saturated (l.fn.applied + l.part.count * step_count (effects_of l.column bar l.events));
}
