use Rattle.std.proofs.Common.{◌≡◌, ◌+◌, ◌≤◌}
use Rattle.pl_outside.specs.Taken.{IsWrittenIn}
use Rattle.pl_outside.proofs.Pieces.{Writing}
use Rattle.pl_payouts.specs.Texts.{lines_of, kept_of, payouts_text, payouts_kept}
use Rattle.pl_payouts.proofs.PayoutLines.{left_of}
use Rattle.pl_payouts.proofs.writing.write_payouts.Given as goal

abbrev pub invariant-loop-i : goal.invariant-loop-i
invariant-loop-i g l =
    let out = g.O.Sink in
    record {
      writing : Writing out.taken out.faults out.sound out.room l.fn.out l.out (payouts_text l.sessions l.assets l.bars l.payouts)
          (lines_of l.sessions l.assets l.bars (left_of l.payouts l.i));
      pieces : IsWrittenIn out.whole out.calls l.fn.out l.out (1 + l.i);
      kept : l.kept + kept_of l.sessions l.assets l.bars (left_of l.payouts l.i) ≡ payouts_kept l.sessions l.assets l.bars l.payouts;
      few : l.kept ≤ l.i;
    }
