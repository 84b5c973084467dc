use Rattle.std.proofs.Common.{◌≡◌, ◌≤◌, ◌*◌, unsigned_abs, take, sum_by}
use Rattle.pl_spec.specs.Rounding.{LIMIT}
use Rattle.pl_pipeline.specs.Cross.{values}
use Rattle.pl_cross.specs.Listing.{entries_of}
use Rattle.pl_cross.proofs.means.magnitudes.Given as goal

abbrev pub invariant-loop-asset : goal.invariant-loop-asset
invariant-loop-asset l = record {
  value : l.sum ≡ sum_by unsigned_abs (values (entries_of (take l.asset-index l.group)));
  size : l.sum ≤ l.asset-index * LIMIT;
}
