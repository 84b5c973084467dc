use Rattle.std.proofs.Common.{◌≡◌, ◌∙◌, ◌++◌, length, map, ap}
use Rattle.pl_numbers.specs.BesidePlaces.{moved}
use Rattle.pl_numbers.proofs.NumbersJoined.{joined_table, table_joined}
use Rattle.pl_numbers.proofs.rows.NumberRows.join.Goals as goal

pub returns-clause-both : goal.returns-clause-both
returns-clause-both c =
    let first = c.args.self in
    let other = c.args.other.now in
    let names : c.put_names.new.into ≡ first.names ++ other.names = rw c.into_parts-names.ensures.names at c.in_ok-put_names.ensures in
    let places : c.put_places.new.into.items ≡ first.places.items ++ map (moved (length first.names)) other.places.items =
    rw (c.into_parts-names.ensures.places, c.deref.ensures.value, c.len-count.ensures, c.into_parts-names.ensures.names) at c.in_ok-put_places.ensures in
    table_joined first other (record { names = c.put_names.new.into; places = c.put_places.new.into }) c.requires.first c.requires.other names places

pub returns-clause-table : goal.returns-clause-table
returns-clause-table c =
    let first = c.args.self in
    let other = c.args.other.now in
    let names : c.put_names.new.into ≡ first.names ++ other.names = rw c.into_parts-names.ensures.names at c.in_ok-put_names.ensures in
    let places : c.put_places.new.into.items ≡ first.places.items ++ map (moved (length first.names)) other.places.items =
    rw (c.into_parts-names.ensures.places, c.deref.ensures.value, c.len-count.ensures, c.into_parts-names.ensures.names) at c.in_ok-put_places.ensures in
    joined_table first other (record { names = c.put_names.new.into; places = c.put_places.new.into }) c.requires.first c.requires.other names places c.requires.apart c.requires.few_names c.requires.room
