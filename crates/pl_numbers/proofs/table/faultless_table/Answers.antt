use Rattle.pl_records.specs.Records.{csv_records}
use Rattle.pl_numbers.proofs.NumbersStated.{named_in_order, stated_in_order}
use Rattle.pl_numbers.proofs.table.faultless_table.Goals as goal

pub returns-in-Some-clause-table : goal.returns-in-Some-clause-table
returns-in-Some-clause-table c =
    stated_in_order c.args.assets.now (csv_records c.args.bytes.now) c.in-Some.rows c.in_order.result (rw c.in-Some.is at c.in_ok-stated.ensures)
    c.in_order.ensures.own c.in_order.ensures.names c.in_order.ensures.places

pub returns-in-Some-clause-named : goal.returns-in-Some-clause-named
returns-in-Some-clause-named c =
    let stated = rw c.in-Some.is at c.in_ok-stated.ensures in
    named_in_order c.in-Some.rows c.in_order.result stated.numbered c.in_order.ensures.names c.in_order.ensures.places
