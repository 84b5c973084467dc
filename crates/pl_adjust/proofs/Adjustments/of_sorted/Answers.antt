use Rattle.pl_adjust.proofs.Kept.{cols_rise}
use Rattle.pl_adjust.proofs.Made.{kept_from, view_is}
use Rattle.pl_adjust.proofs.Adjustments.of_sorted.Goals as goal

pub starts_of-requires : goal.starts_of-requires
starts_of-requires c =
    rw c.deref.ensures.value (cols_rise _ _ (kept_from c.args.rows.now _ _ c.requires.sorted c.requires.cells c.in_ok-cols.ensures c.in_ok-adjusts.ensures))

pub invariant_of-result : goal.invariant_of-result
invariant_of-result c = (
  kept_from c.args.rows.now _ _ c.requires.sorted c.requires.cells c.in_ok-cols.ensures c.in_ok-adjusts.ensures,
  rw c.deref.ensures.value at c.in_ok-starts.ensures,
)

pub returns : goal.returns
returns c = view_is c.args.rows.now _ _ c.in_ok-cols.ensures c.in_ok-adjusts.ensures
