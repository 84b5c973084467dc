use Rattle.pl_records.proofs.Readings.{goes_on, stops, is_done}
use Rattle.pl_adjust.proofs.revisions.reading.rows_behind.Goals as goal

pub returns-in_err-revision : goal.returns-in_err-revision
returns-in_err-revision c =
    stops _ c.rows.invariant c.in_ok-next.ensures.ok c.if-branch.true _ _ _ _
    c.from_residual-in_err-revision.ensures.1 c.in_err-revision.ensures.exact

pub rows-preserved : goal.rows-preserved
rows-preserved c =
    let it = c.in_ok-revision.ensures in
    goes_on c.rows.invariant c.in_ok-next.ensures.ok c.if-branch.true it.room it.exact c.in_ok-rows.ensures

pub returns : goal.returns
returns c = is_done _ c.rows.invariant c.in_ok-next.ensures.ok c.if-branch.false
