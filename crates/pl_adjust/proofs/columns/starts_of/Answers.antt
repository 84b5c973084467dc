use Rattle.std.proofs.Common.{refl, arith, ◌∷◌, [], length-append}
use Rattle.pl_adjust.proofs.Starts.{one_start_more}
use Rattle.pl_adjust.proofs.columns.starts_of.Goals as goal

pub loop-col-init : goal.loop-col-init
loop-col-init c = rw c.new-starts.ensures.items (record { long = refl; starts = λ k h. absurd (omega arith) })

pub loop-col-preserved : goal.loop-col-preserved
loop-col-preserved c =
    let starts = c.loop-col.starts.items in
    let n = c.first_from.result in
    let longer = length-append starts (n ∷ []) in
    rw c.in_ok-push.ensures.items (record {
      long = omega (arith, longer, c.loop-col.invariant.long);
      starts = one_start_more c.args.cols.now starts n c.loop-col.col c.loop-col.invariant.long c.loop-col.invariant.starts c.first_from.ensures;
    })
