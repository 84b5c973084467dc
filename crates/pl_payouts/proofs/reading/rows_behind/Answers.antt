use Rattle.pl_records.proofs.Readings.{goes_on, stops, is_done}
use Rattle.pl_payouts.proofs.reading.rows_behind.Goals as goal

pub returns-in_err-dividend : goal.returns-in_err-dividend
returns-in_err-dividend c =
    stops _ c.rows.invariant c.in_ok-next.ensures.ok c.if-branch.true _ _ _ _
    c.from_residual-in_err-dividend.ensures.1 (rw c.deref.ensures.value at c.in_err-dividend.ensures.exact)

pub rows-preserved : goal.rows-preserved
rows-preserved c =
    let it = rw c.deref.ensures.value at c.in_ok-dividend.ensures in
    let items = c.in_ok-push.ensures.items in
    goes_on c.rows.invariant c.in_ok-next.ensures.ok c.if-branch.true it.room it.exact items

pub returns : goal.returns
returns c = is_done _ c.rows.invariant c.in_ok-next.ensures.ok c.if-branch.false
