use Rattle.std.proofs.Common.{◌≡◌, ◌≤◌, length}
use Rattle.pl_daily.proofs.ring_starts.calendar_of.Given as goal

abbrev pub invariant-loop : goal.invariant-loop
invariant-loop l = record {
  room : l.calendar.capacity ≡ l.fn.capacity;
  full : length l.calendar.items ≡ l.counter;
  within : l.counter ≤ l.fn.capacity;
}
