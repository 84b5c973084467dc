use Rattle.std.proofs.Common.{refl}
use Rattle.pl_records.proofs.Readings.{goes_on, stops, is_done}
use Rattle.pl_bars.proofs.BarOrder.{rise_more}
use Rattle.pl_bars.proofs.reading.put_rows.Goals as goal

pub returns-in_err-bar-clause-exact : goal.returns-in_err-bar-clause-exact
returns-in_err-bar-clause-exact c =
    stops _ c.rows.invariant.read c.in_ok-next.ensures.ok c.if-branch.true _ _ _ _
    c.from_residual-in_err-bar.ensures.1 (rw c.deref.ensures.value at c.in_err-bar.ensures.exact)

pub rows-init : goal.rows-init
rows-init c = record {
  read = record { same = refl; few = c.requires.few };
  seen = c.requires.seen;
  rises = c.requires.rises;
}

pub rows-preserved : goal.rows-preserved
rows-preserved c =
    let it = rw c.deref.ensures.value at c.in_ok-bar.ensures in
    let items = c.in_ok-push.ensures.items in
    record {
      read = goes_on c.rows.invariant.read c.in_ok-next.ensures.ok c.if-branch.true it.room it.exact items;
      seen = rw items it.seen;
      rises = λ t. rw items (rise_more c.rows.rows.items c.in_ok-bar.bar
          (c.rows.invariant.rises (c.rise_on-rise.ensures.before t))
          (rw c.deref-in-rows.ensures.value at c.rise_on-rise.ensures.after t));
    }

pub returns-clause-exact : goal.returns-clause-exact
returns-clause-exact c = is_done _ c.rows.invariant.read c.in_ok-next.ensures.ok c.if-branch.false
