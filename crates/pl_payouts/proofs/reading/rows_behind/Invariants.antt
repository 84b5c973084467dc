use Rattle.std.proofs.Common.{length}
use Rattle.pl_records.proofs.Readings.{AreReadSoFar}
use Rattle.pl_spec.specs.Limits.{most_payouts}
use Rattle.pl_payouts.specs.Payouts.{dividend_or_rule}
use Rattle.pl_payouts.proofs.reading.rows_behind.Given as goal

abbrev pub invariant-rows : goal.invariant-rows
invariant-rows l =
    AreReadSoFar 2 most_payouts (dividend_or_rule l.assets) l.fn.records.left l.records l.rows.items

abbrev pub decreases-rows : goal.decreases-rows
decreases-rows l = length l.records.left
