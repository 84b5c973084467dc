use Rattle.std.proofs.Common.{◌≡◌, ◌<◌, ◌++◌, length, ap}
use Rattle.std.proofs.lemmas.List.Elements.{All-append}
use Rattle.pl_records.specs.Records.{csv_records}
use Rattle.pl_spec.specs.Parts.{ColumnNumber}
use Rattle.pl_numbers.specs.NumberPlaces.{shown_rows, table_in}
use Rattle.pl_numbers.proofs.NumbersBeside.{records-few}
use Rattle.pl_numbers.proofs.join.with_file.Goals as goal

pub judge-requires-clause-few : goal.judge-requires-clause-few
judge-requires-clause-few c = records-few c.args.assets.now (csv_records c.args.bytes.now) (table_in c.in_ok-other.other) c.in_ok-other.ensures.exact

pub returns-clause-cols : goal.returns-clause-cols
returns-clause-cols c =
    let rows : shown_rows c.in_ok-rows.rows ≡ shown_rows c.args.first ++ shown_rows c.in_ok-other.other = ap (λ t. t.rows) c.in_ok-rows.ensures.both in
    rw rows (All-append (λ (r : ColumnNumber). r.col < length c.args.assets.now) (shown_rows c.args.first) (shown_rows c.in_ok-other.other) c.requires.cols c.in_ok-other.ensures.cols)
