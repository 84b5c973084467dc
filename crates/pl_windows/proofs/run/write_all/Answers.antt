use Rattle.std.proofs.Common.{◌≤◌, ◌+◌, ◌-◌, arith}
use Rattle.std.proofs.lemmas.Result.{err_from_is_err_and}
use Rattle.pl_outside.proofs.Pieces.{writing-start, writing-more, writing-end, writing-stop, writing-over}
use Rattle.pl_windows.specs.Ranges.{asked_lines, asked_text}
use Rattle.pl_windows.specs.Windows.{header}
use Rattle.pl_windows.proofs.SessionLines.{lines-next-chunk, lines-no-session, text-is}
use Rattle.pl_windows.proofs.run.write_all.Goals as goal

pub returns-in_err-write_bytes : goal.returns-in_err-write_bytes
returns-in_err-write_bytes g c =
    let a = c.args.asked.now in
    let q = err_from_is_err_and c.from_residual.result c.from_residual.ensures.1 in
    rw (q.1, q.2) (writing-stop header (asked_lines a a.from (a.to + 1 - a.from))
    (writing-over (text-is a) (writing-start g.O.Sink.taken g.O.Sink.faults g.O.Sink.sound g.O.Sink.room c.args.out.now (asked_text a))) c.in_err-write_bytes.ensures.writes)

pub loop-first-init : goal.loop-first-init
loop-first-init g c =
    let a = c.args.asked.now in
    record {
      from = omega arith;
      to = omega (arith, c.requires.asked.range.order);
      writing = writing-more header (asked_lines a a.from (a.to + 1 - a.from))
          (writing-over (text-is a) (writing-start g.O.Sink.taken g.O.Sink.faults g.O.Sink.sound g.O.Sink.room c.args.out.now (asked_text a))) c.in_ok-write_bytes.ensures.writes;
    }

pub returns-in_err-write_chunk : goal.returns-in_err-write_chunk
returns-in_err-write_chunk g c =
    let a = c.args.asked.now in let first = c.loop-first.first in let last = c.min-last.result in
    let order : first ≤ last = omega (arith, c.min-last.ensures, c.loop-first-test.true) in
    let to : last ≤ a.to = omega (arith, c.min-last.ensures) in
    let q = err_from_is_err_and c.from_residual-in_err-write_chunk.result c.from_residual-in_err-write_chunk.ensures.1 in
    rw (q.1, q.2) (writing-stop (asked_lines a first (last + 1 - first)) (asked_lines a (last + 1) (a.to + 1 - (last + 1)))
    (writing-over (lines-next-chunk a first last a.to order to) c.loop-first.invariant.writing) c.in_err-write_chunk.ensures)

pub loop-first-preserved : goal.loop-first-preserved
loop-first-preserved g c =
    let a = c.args.asked.now in let first = c.loop-first.first in let last = c.min-last.result in
    let order : first ≤ last = omega (arith, c.min-last.ensures, c.loop-first-test.true) in
    let to : last ≤ a.to = omega (arith, c.min-last.ensures) in
    record {
      from = omega (arith, order, c.loop-first.invariant.from);
      to = omega (arith, to);
      writing = writing-more (asked_lines a first (last + 1 - first)) (asked_lines a (last + 1) (a.to + 1 - (last + 1)))
          (writing-over (lines-next-chunk a first last a.to order to) c.loop-first.invariant.writing) c.in_ok-write_chunk.ensures;
    }

pub returns : goal.returns
returns g c =
    let a = c.args.asked.now in
    writing-end (writing-over (lines-no-session a c.loop-first.first a.to (omega (arith, c.loop-first-test.false))) c.loop-first.invariant.writing)
