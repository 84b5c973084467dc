use Rattle.std.proofs.Common.{◌∙◌, ap, arith, Ok}
use Rattle.pl_records.specs.Reading.{◌>>=◌}
use Rattle.pl_records.specs.Records.{csv_records}
use Rattle.pl_numbers.specs.Numbers.{numbers_of, table_of}
use Rattle.pl_records.proofs.Sorts.{length-sorted_by}
use Rattle.pl_numbers.specs.NumberPlaces.{key_of}
use Rattle.pl_numbers.proofs.NumberRowsMade.{few_names}
use Rattle.pl_numbers.proofs.NumberTables.{cols_kept, own_keys, table_kept, table_made}
use Rattle.pl_numbers.proofs.NumbersRead.{AreRead-read}
use Rattle.pl_numbers.proofs.table.exact_table.Goals as goal

pub sorted-rows-requires : goal.sorted-rows-requires
sorted-rows-requires c =
    own_keys c.in_ok-read.read c.in_ok-read.ensures.numbered (AreRead-read c.args.assets.now (csv_records c.args.bytes.now) _ c.in_ok-read.ensures.exact).once

pub returns-clause-exact : goal.returns-clause-exact
unfolding numbers_of
returns-clause-exact c =
    ap (λ x. x >>= λ rows. Ok (table_of rows)) c.in_ok-read.ensures.exact
    ∙ ap Ok (table_made c.in_ok-read.read c.sorted-rows.result c.in_ok-read.ensures.numbered c.sorted-rows.ensures.names c.sorted-rows.ensures.places)

pub returns-clause-table : goal.returns-clause-table
returns-clause-table c =
    table_kept c.in_ok-read.read c.sorted-rows.result c.in_ok-read.ensures.numbered c.sorted-rows.ensures.names c.sorted-rows.ensures.places
    c.args.assets.now (AreRead-read c.args.assets.now (csv_records c.args.bytes.now) _ c.in_ok-read.ensures.exact)

pub returns-clause-cols : goal.returns-clause-cols
returns-clause-cols c =
    cols_kept c.in_ok-read.read c.sorted-rows.result c.in_ok-read.ensures.numbered c.sorted-rows.ensures.names c.sorted-rows.ensures.places
    c.args.assets.now (AreRead-read c.args.assets.now (csv_records c.args.bytes.now) _ c.in_ok-read.ensures.exact)

pub returns-clause-named : goal.returns-clause-named
returns-clause-named c =
    let read = c.in_ok-read.read in
    rw (c.sorted-rows.ensures.names, c.sorted-rows.ensures.places) (omega (arith, few_names read c.in_ok-read.ensures.numbered, length-sorted_by key_of read.places.items))
