use Rattle.std.proofs.Common.{◌≡◌, subst, ◌+◌, ◌-◌, ◌*◌, ◌∙◌, ap, refl, ℕ, length, pos, arith, length-append}
use Rattle.std.proofs.lemmas.Int.{ints}
use Rattle.std.proofs.lemmas.Nat.{mul-le}
use Rattle.std.proofs.lemmas.Result.{err_from_is_err_and}
use Rattle.pl_outside.proofs.Pieces.{writing-start, writing-more, writing-end, writing-stop, writing-over, written-none, written-more}
use Rattle.pl_pipeline.specs.Table.{session_rows}
use Rattle.pl_table.specs.Outcomes.{lines, pipeline_in, rows_of_sessions, world_in}
use Rattle.pl_table.specs.Sums.{rows_sum}
use Rattle.pl_table.specs.Tiles.{HasRows}
use Rattle.pl_table.proofs.RowSums.{rows_sum-append}
use Rattle.pl_table.proofs.SessionRows.{lines-append, sessions-next, sessions-end, times-more}
use Rattle.pl_table.proofs.rows.write_rows.Goals as goal

pub loop-session-init : goal.loop-session-init
loop-session-init g c =
    record {
      start = omega arith;
      within = omega (arith, c.requires.outcome.order);
      writing = writing-start g.O.Sink.taken g.O.Sink.faults g.O.Sink.sound g.O.Sink.room c.args.out.now _;
      pieces = written-none (omega arith);
      more = omega arith;
      rows = refl;
      sum = refl;
      room = refl;
      filled = λ h. absurd (omega arith);
      few = omega arith;
    }

pub write_session-requires-clause-session : goal.write_session-requires-clause-session
write_session-requires-clause-session g c = record { from = c.loop-session.invariant.start; to = omega arith }

pub write_session-requires-clause-few : goal.write_session-requires-clause-few
write_session-requires-clause-few g c =
    let o = c.args.outcome.now in
    let m = mul-le (c.loop-session.session - o.from + 1) (length o.cols.now) (o.to + 1 - o.from) (length o.cols.now) (omega arith) (omega arith) in
    omega (arith, m, c.requires.few, c.loop-session.invariant.few)

pub returns-in_err-write_session-clause-writes : goal.returns-in_err-write_session-clause-writes
returns-in_err-write_session-clause-writes g c =
    let o = c.args.outcome.now in let w = world_in o in let pl = pipeline_in o in let s = c.loop-session.session in
    let next = ap (lines w pl o.asked.format) (sessions-next w pl s o.to (omega arith)) ∙ lines-append w pl o.asked.format (session_rows w pl (pos s)) (rows_of_sessions w pl (s + 1) (o.to + 1 - (s + 1))) in
    let p = err_from_is_err_and c.from_residual.result c.from_residual.ensures.1 in
    rw (p.1, p.2) (writing-stop _ _ (writing-over next c.loop-session.invariant.writing) c.in_err-write_session.ensures.writes)

pub loop-session-preserved : goal.loop-session-preserved
loop-session-preserved g c =
    let o = c.args.outcome.now in let w = world_in o in let pl = pipeline_in o in let s = c.loop-session.session in
    let own = sessions-next w pl s o.to (omega arith) in
    let rest = rows_of_sessions w pl (s + 1) (o.to + 1 - (s + 1)) in
    let next = ap (lines w pl o.asked.format) own ∙ lines-append w pl o.asked.format (session_rows w pl (pos s)) rest in
    let one : s + 1 - o.from ≡ s - o.from + 1 = omega (arith, c.loop-session.invariant.start) in
    let more = ap (λ (n : ℕ). n * length o.cols.now) one ∙ times-more (s - o.from) (length o.cols.now) in
    record {
      start = omega (arith, c.loop-session.invariant.start);
      within = omega arith;
      writing = writing-more _ _ (writing-over next c.loop-session.invariant.writing) c.in_ok-write_session.ensures.writes;
      pieces = written-more c.loop-session.invariant.pieces c.in_ok-write_session.ensures.pieces (omega (arith, c.loop-session.invariant.more, c.in_ok-write_session.ensures.rows));
      more = omega (arith, c.loop-session.invariant.more, c.in_ok-write_session.ensures.rows);
      rows = omega (arith, ap length own, length-append (session_rows w pl (pos s)) rest, c.loop-session.invariant.rows, c.in_ok-write_session.ensures.rows);
      sum = omega (arith, ints, ap (rows_sum w.texts) own, rows_sum-append w.texts (session_rows w pl (pos s)) rest, c.loop-session.invariant.sum, c.in_ok-write_session.ensures.sum);
      room = c.fill_at_first-first.ensures.size ∙ c.loop-session.invariant.room;
      filled = λ h. subst (λ (n : ℕ). HasRows o n (length o.cols.now) c.fill_at_first-first.new.tile) (c.fill_at_first-first.ensures.first ∙ omega (arith, h, c.loop-session.invariant.start)) c.fill_at_first-first.ensures.rows;
      few = omega (arith, more, c.loop-session.invariant.few, c.in_ok-write_session.ensures.few);
    }

pub returns : goal.returns
returns g c =
    let o = c.args.outcome.now in let w = world_in o in let pl = pipeline_in o in
    let none = sessions-end w pl c.loop-session.session o.to (omega arith) in
    let end : c.loop-session.session ≡ o.to + 1 = omega (arith, c.loop-session.invariant.within) in
    let all = ap (λ (s : ℕ). (s - o.from) * length o.cols.now) end in
    record {
      writes = writing-end (writing-over (ap (lines w pl o.asked.format) none) c.loop-session.invariant.writing);
      pieces = c.loop-session.invariant.pieces;
      rows = omega (arith, ap length none, c.loop-session.invariant.rows);
      sum = omega (arith, ints, ap (rows_sum w.texts) none, c.loop-session.invariant.sum);
      few = omega (arith, all, c.loop-session.invariant.few);
      room = c.loop-session.invariant.room;
    }
