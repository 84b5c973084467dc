use Rattle.std.proofs.Common.{◌≡◌, ℕ, ◌<◌, ◌==◌, true, length, get_or, take}
use Rattle.std.specs.List.{list_any}
use Rattle.pl_daily.proofs.events.mark_changed.Given as goal

abbrev pub invariant-loop-event : goal.invariant-loop-event
invariant-loop-event l = record {
  long : length l.changed ≡ length l.fn.changed;
  marked : (i : ℕ) → i < length l.fn.changed → get_or l.changed i true ≡ list_any (λ e. e.col == i) (take l.event-index l.events);
}
