use Rattle.std.proofs.Common.{length}
use Rattle.pl_records.proofs.Readings.{AreReadSoFar}
use Rattle.pl_spec.specs.Limits.{most_numbers}
use Rattle.pl_numbers.specs.NumberPlaces.{AreNumbered, shown_rows, states}
use Rattle.pl_numbers.proofs.stated.put_stated.Given as goal

abbrev pub invariant-rows : goal.invariant-rows
invariant-rows l = record {
  read : AreReadSoFar 2 most_numbers (states l.assets) l.fn.records.left l.records (shown_rows l.rows);
  numbered : AreNumbered l.rows;
}

abbrev pub decreases-rows : goal.decreases-rows
decreases-rows l = length l.records.left
