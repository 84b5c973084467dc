use Rattle.std.proofs.Common.{◌≡◌, ◌≤◌, replicate}
use Rattle.circular_buffer.specs.Buffer.{buffer}
use Rattle.pl_daily.proofs.rings.Rings.new.Given as goal

abbrev pub invariant-loop : goal.invariant-loop
invariant-loop l = record {
  items : l.rings.items ≡ replicate l.counter (buffer (replicate l.fn.capacity l.fn.cell) l.fn.capacity);
  within : l.counter ≤ l.fn.assets;
}
