use Rattle.pl_records.proofs.Readings.{goes_on, stops, is_done}
use Rattle.pl_lifetimes.proofs.reading.rows_behind.Goals as goal

pub next_asset-requires-clause-sids : goal.next_asset-requires-clause-sids
next_asset-requires-clause-sids c = rw c.deref.ensures.value c.rows.invariant.sids

pub returns-in_err-asset : goal.returns-in_err-asset
returns-in_err-asset c =
    stops _ c.rows.invariant.read c.in_ok-next.ensures.ok c.if-branch.true _ _ _ _
    c.from_residual-in_err-asset.ensures.1 (rw c.deref.ensures.value at c.in_err-asset.ensures.exact)

pub rows-preserved : goal.rows-preserved
rows-preserved c =
    let it = rw c.deref.ensures.value at c.in_ok-asset.ensures in
    let items = c.in_ok-push.ensures.items in
    record {
      read = goes_on c.rows.invariant.read c.in_ok-next.ensures.ok c.if-branch.true it.room it.exact items;
      sids = rw items it.sids;
    }

pub returns : goal.returns
returns c = is_done _ c.rows.invariant.read c.in_ok-next.ensures.ok c.if-branch.false
