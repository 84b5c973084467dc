use Rattle.std.proofs.Common.{rules, pos, slice_index_or}
use Rattle.pl_spec.specs.Rounding.{IsCell}
use Rattle.pl_parts.proofs.Fields.{joined, on-ok-joined, cell-put}
use Rattle.pl_parts.proofs.bars.put_bar.Goals as goal

pub returns : goal.returns
returns c =
    let e : IsCell (slice_index_or c.args.bar.cells 4 (pos 0)) = search rules in
    on-ok-joined c.put_end.result _ _ _ _ _
    (joined _ _ _ _ _ (joined _ _ _ _ _ c.in_ok-put_front.ensures (c.in_ok-put_prices.ensures c.args.world.now.assets.now)) (cell-put _ _ _ e c.in_ok-put_further_cell.ensures))
    c.put_end.ensures
