use Rattle.pl_records.specs.Records.{csv_records}
use Rattle.pl_lifetimes.proofs.AssetsRead.{AreAssets-read}
use Rattle.pl_lifetimes.proofs.Assets.read.Goals as goal

pub invariant_of-result : goal.invariant_of-result
invariant_of-result c = AreAssets-read (csv_records c.args.bytes.now) c.in_ok-rows.rows.items c.in_ok-rows.ensures

pub returns-clause-assets : goal.returns-clause-assets
returns-clause-assets c = AreAssets-read (csv_records c.args.bytes.now) c.in_ok-rows.rows.items c.in_ok-rows.ensures
