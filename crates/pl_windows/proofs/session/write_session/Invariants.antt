use Rattle.std.proofs.Common.{drop}
use Rattle.pl_outside.proofs.Pieces.{Writing}
use Rattle.pl_windows.proofs.SessionLines.{asked_sids, lines_of}
use Rattle.pl_windows.proofs.session.write_session.Given as goal

abbrev pub invariant-loop-col : goal.invariant-loop-col
invariant-loop-col g l =
    let out = g.O.Sink in
    Writing out.taken out.faults out.sound out.room l.fn.out l.out (lines_of l.asked l.session (asked_sids l.asked)) (lines_of l.asked l.session (drop l.col (asked_sids l.asked)))
