use Rattle.std.proofs.Common.{rules, refl, get_or, pos, w64, FitsSigned, length}
use Rattle.std.proofs.lemmas.Int.{to_z-of_z}
use Rattle.pl_exec.proofs.Spans.{one_put}
use Rattle.pl_exec.proofs.fill.put_row.Goals as goal

pub loop-i-preserved : goal.loop-i-preserved
loop-i-preserved c =
    let fits : FitsSigned w64 (get_or c.args.row.now c.loop-i.i (pos 0)) = search rules in
    rw (c.put.ensures, to_z-of_z w64 _ fits)
    (one_put (λ i. get_or c.args.row.now i (pos 0)) (length c.args.row.now) c.args.count c.args.session c.loop-i.i c.args.cells.now c.loop-i.cells (get_or c.args.row.now c.loop-i.i (pos 0)) c.loop-i.invariant c.loop-i-test.true
    c.requires.within c.requires.room refl (c.requires.cells c.loop-i.i c.loop-i-test.true))
