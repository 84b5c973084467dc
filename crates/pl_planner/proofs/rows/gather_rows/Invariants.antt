use Rattle.std.proofs.Common.{◌-◌, ◌≤◌, ◌+◌}
use Rattle.pl_terms.specs.Checked.{pipeline_of}
use Rattle.pl_terms.specs.Uses.{outputs}
use Rattle.pl_planner.specs.Rows.{AreRows}
use Rattle.pl_planner.proofs.rows.gather_rows.Given as goal

abbrev pub invariant-loop-session : goal.invariant-loop-session
invariant-loop-session l = record {
  from : l.from ≤ l.session;
  to : l.session ≤ l.to + 1;
  rows : AreRows l.sessions (pipeline_of l.checked).graph (outputs (pipeline_of l.checked)) l.from (l.session - l.from) l.extras.items;
}
