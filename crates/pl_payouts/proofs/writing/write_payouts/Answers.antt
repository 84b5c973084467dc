use Rattle.std.proofs.Common.{◌≡◌, ◌≤◌, ◌∙◌, is_ok, refl, sym, ap, length, arith}
use Rattle.std.proofs.lemmas.Result.{err_from_is_err_and}
use Rattle.pl_outside.proofs.Pieces.{writing-start, writing-more, writing-end, writing-stop, writing-over, writes-over, written-none, written-more}
use Rattle.pl_payouts.specs.Ratios.{ratio_in}
use Rattle.pl_payouts.specs.Texts.{payout_line, payouts_text}
use Rattle.pl_payouts.proofs.PayoutLines.{known-at, text-is, kept-is, lines-next, lines-none, kept-ok, kept-err, kept-none}
use Rattle.pl_payouts.proofs.writing.write_payouts.Goals as goal
use Rattle.pl_payouts.proofs.writing.write_payouts.Goals.{then-is_ok, else-is_ok}

pub returns-in_err-write_bytes-clause-writes : goal.returns-in_err-write_bytes-clause-writes
returns-in_err-write_bytes-clause-writes g c =
    let text = payouts_text c.args.sessions.now c.args.assets.now c.args.bars.now c.args.payouts.now in
    let whole = text-is c.args.sessions.now c.args.assets.now c.args.bars.now c.args.payouts.now in
    let p = err_from_is_err_and c.from_residual.result c.from_residual.ensures.1 in
    rw (p.1, p.2)
    (writing-stop _ _ (writing-over whole (writing-start g.O.Sink.taken g.O.Sink.faults g.O.Sink.sound g.O.Sink.room c.args.out.now text)) c.in_err-write_bytes.ensures.writes)

pub loop-i-init : goal.loop-i-init
loop-i-init g c =
    let text = payouts_text c.args.sessions.now c.args.assets.now c.args.bars.now c.args.payouts.now in
    let whole = text-is c.args.sessions.now c.args.assets.now c.args.bars.now c.args.payouts.now in
    record {
      writing = writing-more _ _ (writing-over whole (writing-start g.O.Sink.taken g.O.Sink.faults g.O.Sink.sound g.O.Sink.room c.args.out.now text)) c.in_ok-write_bytes.ensures.writes;
      pieces = c.in_ok-write_bytes.ensures.pieces;
      kept = omega (arith, kept-is c.args.sessions.now c.args.assets.now c.args.bars.now c.args.payouts.now);
      few = omega arith;
    }

pub ratio_of-ratio-requires-clause-known : goal.ratio_of-ratio-requires-clause-known
ratio_of-ratio-requires-clause-known g c = known-at c.args.assets.now c.args.payouts.now c.loop-i.i c.get-payout.result c.requires.known c.get-payout.ensures.exact

pub returns-in_err-write_bytes-2-clause-writes : goal.returns-in_err-write_bytes-2-clause-writes
returns-in_err-write_bytes-2-clause-writes g c =
    let next = lines-next c.args.sessions.now c.args.assets.now c.args.bars.now c.args.payouts.now c.loop-i.i c.get-payout.result c.get-payout.ensures.exact in
    let line = c.as_slice.ensures.value ∙ c.line_of-line.ensures ∙ ap (payout_line c.get-payout.result) c.ratio_of-ratio.ensures.exact in
    let p = err_from_is_err_and c.from_residual-in_err-write_bytes-2.result c.from_residual-in_err-write_bytes-2.ensures.1 in
    rw (p.1, p.2) (writing-stop _ _ (writing-over next c.loop-i.invariant.writing) (writes-over line c.in_err-write_bytes-2.ensures.writes))

pub loop-i-preserved : goal.loop-i-preserved
loop-i-preserved g c =
    let days = c.args.sessions.now in
    let assets = c.args.assets.now in
    let bars = c.args.bars.now in
    let rows = c.args.payouts.now in
    let p = c.get-payout.result in
    let next = lines-next days assets bars rows c.loop-i.i p c.get-payout.ensures.exact in
    let line = c.as_slice.ensures.value ∙ c.line_of-line.ensures ∙ ap (payout_line p) c.ratio_of-ratio.ensures.exact in
    let writing = writing-more _ _ (writing-over next c.loop-i.invariant.writing) (writes-over line c.in_ok-write_bytes-2.ensures.writes) in
    let test : is_ok (ratio_in days assets bars p) ≡ c.is_ok.result = ap is_ok (sym c.ratio_of-ratio.ensures.exact) ∙ sym c.is_ok.ensures.value in
    elim c.if-is_ok.branch [
      | then-is_ok w ↦
          let more = kept-ok days assets bars rows c.loop-i.i p c.get-payout.ensures.exact (test ∙ w.if-is_ok.true) in
          record { writing = writing; pieces = written-more c.loop-i.invariant.pieces c.in_ok-write_bytes-2.ensures.pieces (omega arith); kept = rw w.kept-is (omega (arith, more, c.loop-i.invariant.kept)); few = rw w.kept-is (omega (arith, c.loop-i.invariant.few)) }
      | else-is_ok w ↦
          let same = kept-err days assets bars rows c.loop-i.i p c.get-payout.ensures.exact (test ∙ w.if-is_ok.false) in
          record { writing = writing; pieces = written-more c.loop-i.invariant.pieces c.in_ok-write_bytes-2.ensures.pieces (omega arith); kept = rw w.kept-is (omega (arith, same, c.loop-i.invariant.kept)); few = rw w.kept-is (omega (arith, c.loop-i.invariant.few)) }
    ]

pub returns-clause-writes : goal.returns-clause-writes
returns-clause-writes g c =
    let done : length c.args.payouts.now ≤ c.loop-i.i = omega (arith, c.len-i-end.ensures.length, c.loop-i-test.false) in
    writing-end (writing-over (lines-none c.args.sessions.now c.args.assets.now c.args.bars.now c.args.payouts.now c.loop-i.i done) c.loop-i.invariant.writing)

pub returns-clause-kept : goal.returns-clause-kept
returns-clause-kept g c =
    let done : length c.args.payouts.now ≤ c.loop-i.i = omega (arith, c.len-i-end.ensures.length, c.loop-i-test.false) in
    let none = kept-none c.args.sessions.now c.args.assets.now c.args.bars.now c.args.payouts.now c.loop-i.i done in
    omega (arith, none, c.loop-i.invariant.kept)

pub returns-clause-pieces : goal.returns-clause-pieces
returns-clause-pieces g c = written-more (written-none refl) c.loop-i.invariant.pieces (omega (arith, c.len-i-end.ensures.length, c.loop-i-test.false, c.loop-i.auto.i-end))
