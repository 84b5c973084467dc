use Rattle.std.proofs.Common.{length}
use Rattle.pl_records.specs.Sorted.{AreKeys}
use Rattle.pl_records.proofs.Readings.{AreReadSoFar}
use Rattle.pl_lifetimes.specs.Assets.{asset_or_rule, sid_of}
use Rattle.pl_spec.specs.Limits.{most_assets}
use Rattle.pl_lifetimes.proofs.reading.rows_behind.Given as goal

abbrev pub invariant-rows : goal.invariant-rows
invariant-rows l = record {
  read : AreReadSoFar 2 most_assets asset_or_rule l.fn.records.left l.records l.rows.items;
  sids : AreKeys sid_of l.sids l.rows.items;
}

abbrev pub decreases-rows : goal.decreases-rows
decreases-rows l = length l.records.left
