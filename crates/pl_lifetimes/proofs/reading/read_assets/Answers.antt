use Rattle.pl_records.specs.Records.{csv_records}
use Rattle.pl_lifetimes.proofs.AssetsRead.{OwnSids-read}
use Rattle.pl_lifetimes.proofs.reading.read_assets.Goals as goal

pub sort_by_sid-requires : goal.sort_by_sid-requires
sort_by_sid-requires c = rw c.deref_mut.ensures.value (OwnSids-read (csv_records c.args.bytes.now) c.in_ok-rows.rows.items c.in_ok-rows.ensures)
