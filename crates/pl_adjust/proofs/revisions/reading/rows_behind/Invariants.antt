use Rattle.std.proofs.Common.{length}
use Rattle.pl_records.proofs.Readings.{AreReadSoFar}
use Rattle.pl_spec.specs.Limits.{most_revisions}
use Rattle.pl_adjust.specs.Revisions.{revision_or_rule}
use Rattle.pl_adjust.proofs.revisions.reading.rows_behind.Given as goal

abbrev pub invariant-rows : goal.invariant-rows
invariant-rows l =
    AreReadSoFar 2 most_revisions (revision_or_rule l.sessions l.assets) l.fn.records.left l.records l.rows

abbrev pub decreases-rows : goal.decreases-rows
decreases-rows l = length l.records.left
