use Rattle.std.proofs.Common.{length}
use Rattle.pl_records.specs.Records.{csv_records}
use Rattle.pl_records.proofs.Readings.{AreReadSoFar}
use Rattle.pl_calendar.specs.Days.{day_or_rule}
use Rattle.pl_spec.specs.Limits.{most_sessions}
use Rattle.pl_calendar.proofs.reading.read_days.Given as goal

abbrev pub invariant-rows : goal.invariant-rows
invariant-rows l = AreReadSoFar 1 most_sessions day_or_rule (csv_records l.fn.bytes) l.records l.days.items

abbrev pub decreases-rows : goal.decreases-rows
decreases-rows l = length l.records.left
