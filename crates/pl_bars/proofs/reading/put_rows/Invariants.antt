use Rattle.std.proofs.Common.{IsTrue, length}
use Rattle.pl_records.proofs.Readings.{AreReadFrom}
use Rattle.pl_spec.specs.Limits.{most_bars}
use Rattle.pl_bars.specs.Bars.{bar_or_rule}
use Rattle.pl_bars.specs.BarPoint.{Rise}
use Rattle.pl_bars.specs.BarSet.{AreBarsIn}
use Rattle.pl_bars.proofs.reading.put_rows.Given as goal

abbrev pub invariant-rows : goal.invariant-rows
invariant-rows l = record {
  read : AreReadFrom 2 most_bars (bar_or_rule l.sessions l.assets) l.fn.rows.items l.fn.records.left l.records l.rows.items;
  seen : AreBarsIn l.seen (length l.assets) (length l.sessions) l.rows.items;
  rises : IsTrue l.rise → Rise l.rows.items;
}

abbrev pub decreases-rows : goal.decreases-rows
decreases-rows l = length l.records.left
