use Rattle.std.proofs.Common.{◌+◌, length, drop, arith}
use Rattle.std.proofs.lemmas.Result.{err_from_is_err_and}
use Rattle.pl_outside.proofs.Pieces.{writing-more, writing-end, writing-stop, writing-over, writes-over}
use Rattle.pl_spec.specs.Parts.{sid_at}
use Rattle.pl_windows.specs.Ranges.{line_there}
use Rattle.pl_windows.proofs.SessionLines.{asked_sids, lines_of, lines-all, lines-end, lines-next}
use Rattle.pl_windows.proofs.session.write_session.Goals as goal

pub returns-in_err-write_there : goal.returns-in_err-write_there
returns-in_err-write_there g c =
    let a = c.args.asked.now in let s = c.args.session in let i = c.loop-col.col in
    let q = err_from_is_err_and c.from_residual.result c.from_residual.ensures.1 in
    rw (q.1, q.2) (writes-over (lines-all a c.requires.asked s)
    (writing-stop (line_there a s (sid_at a.world.assets.now i)) (lines_of a s (drop (i + 1) (asked_sids a))) (writing-over (lines-next a s i (omega (arith, c.loop-col-test.true, c.len-col-end.ensures.length))) c.loop-col.invariant) c.in_err-write_there.ensures))

pub loop-col-preserved : goal.loop-col-preserved
loop-col-preserved g c =
    let a = c.args.asked.now in let s = c.args.session in let i = c.loop-col.col in
    writing-more (line_there a s (sid_at a.world.assets.now i)) (lines_of a s (drop (i + 1) (asked_sids a))) (writing-over (lines-next a s i (omega (arith, c.loop-col-test.true, c.len-col-end.ensures.length))) c.loop-col.invariant) c.in_ok-write_there.ensures

pub returns : goal.returns
returns g c =
    let a = c.args.asked.now in let s = c.args.session in
    writes-over (lines-all a c.requires.asked s) (writing-end (writing-over (lines-end a s c.loop-col.col (omega (arith, c.loop-col-test.false, c.len-col-end.ensures.length))) c.loop-col.invariant))
