use Rattle.std.proofs.Common.{◌≡◌, ℕ, ◌+◌, ◌*◌, ◌<◌, min, map, length, take}
use Rattle.pl_daily.specs.Rings.{known_days, scaling}
use Rattle.pl_daily.specs.Changes.{AreRings, changed, column_event, ring_at}
use Rattle.pl_adjust.specs.Columns.{events_at}
use Rattle.pl_daily.proofs.events.take_events.Given as goal

abbrev pub invariant-loop-event : goal.invariant-loop-event
invariant-loop-event g l = record {
  rings : AreRings (length l.fn.rings) (length l.days) l.rings;
  each : (i : ℕ) → i < length l.fn.rings → ring_at l.rings i ≡ changed l.column (events_at (map column_event (take l.event-index l.events)) i) (known_days l.fed l.days) (ring_at l.fn.rings i);
  cost : l.steps ≡ l.fn.steps + length (scaling l.column (take l.event-index l.events)) * min (length l.days) l.fed;
}
