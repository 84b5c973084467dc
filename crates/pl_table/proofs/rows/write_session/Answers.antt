use Rattle.std.proofs.Common.{◌<◌, ◌≤◌, ◌+◌, ap, refl, drop, length, pos, arith, get_or}
use Rattle.std.proofs.lemmas.Int.{ints}
use Rattle.std.proofs.lemmas.List.{length-map}
use Rattle.std.proofs.lemmas.Result.{err_from_is_err_and}
use Rattle.pl_outside.proofs.Pieces.{writing-start, writing-more, writing-end, writing-stop, writing-over, writes-over, written-none, written-more}
use Rattle.pl_spec.specs.Parts.{sid_at}
use Rattle.pl_pipeline.specs.Table.{table_row}
use Rattle.pl_table.specs.declared.totals.Totals.{Totals}
use Rattle.pl_table.specs.Outcomes.{lines, pipeline_in, sids_in, world_in}
use Rattle.pl_table.specs.Sums.{rows_sum}
use Rattle.pl_table.proofs.RowSums.{rows_sum-cons}
use Rattle.pl_table.proofs.SessionRows.{rows_of, rows_of_session, rows_with, rows_without, rows_end}
use Rattle.pl_table.proofs.rows.write_session.Goals as goal
use Rattle.pl_table.proofs.rows.write_session.Goals.{in-Some+in_ok-write_row, in_default}

pub loop-place-init : goal.loop-place-init
loop-place-init g c =
    record {
      writing = writing-start g.O.Sink.taken g.O.Sink.faults g.O.Sink.sound g.O.Sink.room c.args.out.now _;
      pieces = written-none (omega arith);
      more = omega arith;
      rows = refl;
      sum = refl;
      few = omega arith;
    }

pub returns-in_err-write_row-clause-writes : goal.returns-in_err-write_row-clause-writes
returns-in_err-write_row-clause-writes g c =
    let o = c.args.table.now.outcome.now in let w = world_in o in let pl = pipeline_in o in
    let inside : c.loop-place.place < length (sids_in o) = omega (arith, length-map o.cols.now (sid_at o.asked.world.assets.now)) in
    let next = rows_with w pl c.args.session (sids_in o) c.loop-place.place inside c.in-Some.ensures.some in
    let p = err_from_is_err_and c.from_residual.result c.from_residual.ensures.1 in
    rw (p.1, p.2)
    (writes-over (ap (lines w pl o.asked.format) (rows_of_session w pl (sids_in o) c.args.session (c.requires.table.outcome.all c.args.session c.requires.session.from c.requires.session.to)))
    (writing-stop _ _ (writing-over (ap (lines w pl o.asked.format) next) c.loop-place.invariant.writing) c.in_err-write_row.ensures.writes))

pub loop-place-preserved : goal.loop-place-preserved
loop-place-preserved g c =
    let o = c.args.table.now.outcome.now in let w = world_in o in let pl = pipeline_in o in let i = c.loop-place.place in
    let inside : i < length (sids_in o) = omega (arith, length-map o.cols.now (sid_at o.asked.world.assets.now)) in
    elim c.match-row_at.branch [
      | in-Some+in_ok-write_row b ↦
          let next = rows_with w pl c.args.session (sids_in o) i inside b.in-Some.ensures.some in
          let rest = rows_of w pl c.args.session (drop (i + 1) (sids_in o)) in
          let count = ap (λ (t : Totals). t.rows) b.totals-is in
          let total = ap (λ (t : Totals). t.sum) b.totals-is in
          record {
            writing = rw b.out-is (writing-more _ _ (writing-over (ap (lines w pl o.asked.format) next) c.loop-place.invariant.writing) b.in_ok-write_row.ensures.writes);
            pieces = rw b.out-is (written-more c.loop-place.invariant.pieces b.in_ok-write_row.ensures.pieces (omega (arith, count, c.loop-place.invariant.more, b.in_ok-write_row.ensures.rows)));
            more = omega (arith, count, c.loop-place.invariant.more, b.in_ok-write_row.ensures.rows);
            rows = omega (arith, count, ap length next, c.loop-place.invariant.rows, b.in_ok-write_row.ensures.rows);
            sum = omega (arith, ints, total, ap (rows_sum w.texts) next, rows_sum-cons w.texts (table_row w pl (pos c.args.session) (get_or (sids_in o) i 0)) rest, c.loop-place.invariant.sum, b.in_ok-write_row.ensures.sum);
            few = omega (arith, count, c.loop-place.invariant.few, b.in_ok-write_row.ensures.rows);
          }
      | in_default b ↦
          let next = rows_without w pl c.args.session (sids_in o) i inside b.in_default.ensures.none in
          let count = ap (λ (t : Totals). t.rows) b.totals-is in
          let total = ap (λ (t : Totals). t.sum) b.totals-is in
          record {
            writing = rw b.out-is (writing-over (ap (lines w pl o.asked.format) next) c.loop-place.invariant.writing);
            pieces = rw (b.out-is, count) c.loop-place.invariant.pieces;
            more = omega (arith, count, c.loop-place.invariant.more);
            rows = omega (arith, count, ap length next, c.loop-place.invariant.rows);
            sum = omega (arith, ints, total, ap (rows_sum w.texts) next, c.loop-place.invariant.sum);
            few = omega (arith, count, c.loop-place.invariant.few);
          }
    ]

pub returns : goal.returns
returns g c =
    let o = c.args.table.now.outcome.now in let w = world_in o in let pl = pipeline_in o in
    let done : length (sids_in o) ≤ c.loop-place.place = omega (arith, length-map o.cols.now (sid_at o.asked.world.assets.now)) in
    let none = rows_end w pl c.args.session (sids_in o) c.loop-place.place done in
    let all = rows_of_session w pl (sids_in o) c.args.session (c.requires.table.outcome.all c.args.session c.requires.session.from c.requires.session.to) in
    record {
      writes = writes-over (ap (lines w pl o.asked.format) all) (writing-end (writing-over (ap (lines w pl o.asked.format) none) c.loop-place.invariant.writing));
      pieces = c.loop-place.invariant.pieces;
      rows = omega (arith, ap length all, ap length none, c.loop-place.invariant.rows);
      sum = omega (arith, ints, ap (rows_sum w.texts) all, ap (rows_sum w.texts) none, c.loop-place.invariant.sum);
      few = omega arith;
    }
