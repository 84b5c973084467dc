use Rattle.std.proofs.Common.{◌≡◌, ◌<◌, ◌≤◌, ◌+◌, ◌-◌, ◌*◌, ◌+ℤ◌, length}
use Rattle.pl_outside.specs.Taken.{IsWrittenIn}
use Rattle.pl_outside.proofs.Pieces.{Writing}
use Rattle.pl_table.specs.Outcomes.{lines, pipeline_in, rows_of_sessions, world_in}
use Rattle.pl_table.specs.Sums.{rows_sum}
use Rattle.pl_table.specs.Tiles.{HasRows, first_in}
use Rattle.pl_table.proofs.rows.write_rows.Given as goal

abbrev pub invariant-loop-session : goal.invariant-loop-session
invariant-loop-session g l =
    let out = g.O.Sink in let w = world_in l.outcome in let p = pipeline_in l.outcome in let to = l.outcome.to in let from = l.outcome.from in
    record {
      start : from ≤ l.session;
      within : l.session ≤ to + 1;
      writing : Writing out.taken out.faults out.sound out.room l.fn.out l.out (lines w p l.outcome.asked.format (rows_of_sessions w p from (to + 1 - from)))
          (lines w p l.outcome.asked.format (rows_of_sessions w p l.session (to + 1 - l.session)));
      pieces : IsWrittenIn out.whole out.calls l.fn.out l.out (l.totals.rows - l.fn.totals.rows);
      more : l.fn.totals.rows ≤ l.totals.rows;
      rows : l.totals.rows + length (rows_of_sessions w p l.session (to + 1 - l.session)) ≡ l.fn.totals.rows + length (rows_of_sessions w p from (to + 1 - from));
      sum : l.totals.sum +ℤ rows_sum w.texts (rows_of_sessions w p l.session (to + 1 - l.session)) ≡ l.fn.totals.sum +ℤ rows_sum w.texts (rows_of_sessions w p from (to + 1 - from));
      room : length l.tile ≡ length l.fn.tile;
      filled : first_in from l.session < l.session → HasRows l.outcome (first_in from l.session) (length l.outcome.cols.now) l.tile;
      few : l.totals.rows ≤ l.fn.totals.rows + (l.session - from) * length l.outcome.cols.now;
    }
