use Rattle.std.proofs.Common.{◌≡◌, ◌≤◌, ◌+◌, ◌*◌, ◌++◌, take, length, pos}
use Rattle.pl_table.specs.Rows.{value_fields}
use Rattle.pl_runner.specs.Sessions.{pipeline_in, sid_of, world_in}
use Rattle.pl_runner.proofs.rows.put_values.Given as goal

abbrev pub invariant-loop-column : goal.invariant-loop-column
invariant-loop-column l =
    let w = world_in l.fed in let p = pipeline_in l.fed in
    record {
      text : l.line ≡ l.fn.line ++ value_fields w p l.fed.asked.format (sid_of l.fed l.i) (pos l.fed.session) (take l.column p.columns);
      within : length l.line ≤ length l.fn.line + 131 * l.column;
    }
