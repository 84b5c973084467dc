use Rattle.std.proofs.Common.{rules}
use Rattle.pl_records.proofs.Readings.{none_read, goes_on, stops, is_done}
use Rattle.pl_numbers.proofs.reading.put_rows.Goals as goal

pub rows-init : goal.rows-init
rows-init c = record {
  read = none_read c.requires.none;
  numbered = c.requires.numbered;
  seen = c.requires.seen;
}

pub returns-in_err-number-clause-exact : goal.returns-in_err-number-clause-exact
returns-in_err-number-clause-exact c =
    stops _ c.rows.invariant.read c.in_ok-next.ensures.ok c.if-branch.true _ _ _ _
    c.from_residual-in_err-number.ensures.1 c.in_err-number.ensures.exact

pub rows-preserved : goal.rows-preserved
rows-preserved c =
    let it = c.in_ok-number.ensures in
    let row = rw c.field.ensures at c.in_ok-push.ensures.rows in
    record {
      read = goes_on c.rows.invariant.read c.in_ok-next.ensures.ok c.if-branch.true it.next.room it.exact row;
      numbered = c.in_ok-push.ensures.numbered;
      seen = rw c.in_ok-push.ensures.places (it.next.seen _ (search rules));
    }

pub returns-clause-exact : goal.returns-clause-exact
returns-clause-exact c = is_done _ c.rows.invariant.read c.in_ok-next.ensures.ok c.if-branch.false
