-- How records of a text without quotes are kept.
use Rattle.std.specs.Prelude.{◌≤◌, map, take}
use Rattle.pl_records.specs.View.{RecordsView}
use Rattle.pl_records.specs.Records.{csv_records}
use Rattle.pl_records.specs.declared.plain.TheConstants.{MOST_FIELDS}
use Rattle.pl_records.specs.declared.plain.PlainRecords.TheInside.{Inside}

abbrev pub view_of : Inside → RecordsView
view_of a = record { fields = take a.count (map (λ f. f.now) a.fields); left = csv_records a.rest.now }

-- the fields of a record have their places
abbrev pub IsPlain : Inside → Type 0
IsPlain a = a.count ≤ MOST_FIELDS
