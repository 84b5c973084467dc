use Rattle.std.proofs.lemmas.Int.{to_z-of_z}
use Rattle.std.proofs.Common.{rules, FitsSigned, w32}
use Rattle.pl_records.proofs.Readings.{goes_on, stops, is_done}
use Rattle.pl_calendar.proofs.reading.read_days.Goals as goal

pub returns-in_err-day : goal.returns-in_err-day
returns-in_err-day c =
    stops _ c.rows.invariant c.in_ok-next.ensures.ok c.if-branch.true _ _ _ _
    c.from_residual-in_err-day.ensures.1 (rw c.deref.ensures.value at c.in_err-day.ensures.exact)

pub rows-preserved : goal.rows-preserved
rows-preserved c =
    let fits : FitsSigned w32 c.in_ok-day.day = search rules in
    let it = rw c.deref.ensures.value at c.in_ok-day.ensures in
    let items = simp to_z-of_z at c.in_ok-push.ensures.items in
    goes_on c.rows.invariant c.in_ok-next.ensures.ok c.if-branch.true it.room it.exact items

pub returns : goal.returns
returns c = is_done _ c.rows.invariant c.in_ok-next.ensures.ok c.if-branch.false
