use Rattle.std.proofs.Common.{◌≡◌, ◌≤◌, ◌+◌, ◌-◌, ◌+ℤ◌, drop, length}
use Rattle.pl_outside.specs.Taken.{IsWrittenIn}
use Rattle.pl_outside.proofs.Pieces.{Writing}
use Rattle.pl_table.specs.Outcomes.{lines, pipeline_in, sids_in, world_in}
use Rattle.pl_table.specs.Sums.{rows_sum}
use Rattle.pl_table.proofs.SessionRows.{rows_of}
use Rattle.pl_table.proofs.rows.write_session.Given as goal

abbrev pub invariant-loop-place : goal.invariant-loop-place
invariant-loop-place g l =
    let out = g.O.Sink in let w = world_in l.table.outcome.now in let p = pipeline_in l.table.outcome.now in let s = l.session in let sids = sids_in l.table.outcome.now in
    record {
      writing : Writing out.taken out.faults out.sound out.room l.fn.out l.out (lines w p l.table.outcome.now.asked.format (rows_of w p s sids)) (lines w p l.table.outcome.now.asked.format (rows_of w p s (drop l.place sids)));
      pieces : IsWrittenIn out.whole out.calls l.fn.out l.out (l.totals.rows - l.fn.totals.rows);
      more : l.fn.totals.rows ≤ l.totals.rows;
      rows : l.totals.rows + length (rows_of w p s (drop l.place sids)) ≡ l.fn.totals.rows + length (rows_of w p s sids);
      sum : l.totals.sum +ℤ rows_sum w.texts (rows_of w p s (drop l.place sids)) ≡ l.fn.totals.sum +ℤ rows_sum w.texts (rows_of w p s sids);
      few : l.totals.rows ≤ l.fn.totals.rows + l.place;
    }
