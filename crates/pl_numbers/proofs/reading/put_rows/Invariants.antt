use Rattle.std.proofs.Common.{length}
use Rattle.pl_records.proofs.Readings.{AreReadSoFar}
use Rattle.pl_spec.specs.Limits.{most_numbers}
use Rattle.pl_numbers.specs.Numbers.{number_or_rule}
use Rattle.pl_numbers.specs.NumberPlaces.{AreNumbered, AreSeen, shown_rows}
use Rattle.pl_numbers.proofs.reading.put_rows.Given as goal

abbrev pub invariant-rows : goal.invariant-rows
invariant-rows l = record {
  read : AreReadSoFar 2 most_numbers (number_or_rule l.assets) l.fn.records.left l.records
      (shown_rows l.rows);
  numbered : AreNumbered l.rows;
  seen : AreSeen l.seen.keys l.rows.places.items;
}

abbrev pub decreases-rows : goal.decreases-rows
decreases-rows l = length l.records.left
