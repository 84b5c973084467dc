use Rattle.std.proofs.Common.{arith, inl, inr, [], get_or}
use Rattle.pl_spec.specs.declared.BarRow.{BarRow}
use Rattle.pl_bars.proofs.BarSearch.{bar_found, bar_none, not_here}
use Rattle.pl_bars.proofs.onward.row_onward.Goals as goal
use Rattle.pl_bars.proofs.onward.row_onward.Goals.{else-i-rows-via-then-i-rows+then-rows-i+else-rows-i-2, else-i-rows-via-then-i-rows+else-rows-i, else-i-rows-via-else-i-rows}

abbrev blank : BarRow
blank = record { col = 0; session = 0; cells = [] }

pub returns-then-rows-i-2 : goal.returns-then-rows-i-2
returns-then-rows-i-2 c =
    bar_found c.args.col c.args.session c.args.rows.now c.point_onward-i.result blank c.if-i-rows.true
    c.point_onward-i.ensures.point
    c.if-rows-i.true c.if-rows-i-2.true

pub returns-else-i-rows : goal.returns-else-i-rows
returns-else-i-rows c =
    bar_none c.args.col c.args.session c.args.rows.now c.point_onward-i.result blank c.requires
    c.point_onward-i.ensures.point
    (λ inside. elim c.else-i-rows.branch [
      | else-i-rows-via-then-i-rows+then-rows-i+else-rows-i-2 w ↦ not_here c.args.col c.args.session (get_or c.args.rows.now c.point_onward-i.result blank) (inr w.if-rows-i-2.false)
      | else-i-rows-via-then-i-rows+else-rows-i w ↦ not_here c.args.col c.args.session (get_or c.args.rows.now c.point_onward-i.result blank) (inl w.if-rows-i.false)
      | else-i-rows-via-else-i-rows w ↦ absurd (omega (arith, w.if-i-rows.false))
    ])
