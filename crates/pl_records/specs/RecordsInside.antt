-- Which reader the records of a file are kept by: csv's, where there is one.
use Rattle.std.specs.Prelude.{unwrap_or}
use Rattle.pl_records.specs.View.{RecordsView}
use Rattle.pl_records.specs.declared.Records.TheInside.{Inside}

abbrev pub view_of : Inside → RecordsView
view_of a = unwrap_or a.quoted a.plain
