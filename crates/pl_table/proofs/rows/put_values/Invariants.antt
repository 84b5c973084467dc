use Rattle.std.proofs.Common.{◌≡◌, ◌≤◌, ◌+◌, ◌*◌, ◌++◌, take, length, pos}
use Rattle.std.specs.Prelude.{unsigned_abs}
use Rattle.pl_spec.specs.Rounding.{LIMIT}
use Rattle.pl_cross.specs.Arrays.{sid_in}
use Rattle.pl_table.specs.Outcomes.{pipeline_in, sids_in, world_in}
use Rattle.pl_table.specs.Rows.{row_values, value_fields}
use Rattle.pl_table.specs.Sums.{values_sum}
use Rattle.pl_table.proofs.rows.put_values.Given as goal

abbrev pub invariant-loop-column : goal.invariant-loop-column
invariant-loop-column l =
    let w = world_in l.cells.outcome.now in let p = pipeline_in l.cells.outcome.now in let a = sid_in (sids_in l.cells.outcome.now) l.cells.place in
    record {
      text : l.line ≡ l.fn.line ++ value_fields w p l.cells.outcome.now.asked.format a (pos l.cells.session) (take l.column p.columns);
      within : length l.line ≤ length l.fn.line + 131 * l.column;
      sum : l.sum ≡ values_sum w.texts (row_values w p a (pos l.cells.session) (take l.column p.columns));
      small : unsigned_abs l.sum ≤ l.column * LIMIT;
    }
