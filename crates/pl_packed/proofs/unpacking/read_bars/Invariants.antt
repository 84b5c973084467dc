use Rattle.std.proofs.Common.{◌≡◌, length}
use Rattle.pl_packed.specs.Reading.{AreRead}
use Rattle.pl_packed.proofs.unpacking.read_bars.Given as goal

abbrev pub invariant-bars : goal.invariant-bars
invariant-bars l = record {
  read : AreRead l.cols l.sessions l.bars.items l.sums l.after;
  count : length l.bars.items ≡ l.i;
}
