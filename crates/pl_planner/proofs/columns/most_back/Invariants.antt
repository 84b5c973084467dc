use Rattle.std.proofs.Common.{◌≡◌, ◌≤◌, ◌+◌, ◌*◌}
use Rattle.pl_spec.specs.Limits.{most_terms, most_window}
use Rattle.pl_terms.specs.Checked.{pipeline_of}
use Rattle.pl_planner.specs.Columns.{most_back}
use Rattle.pl_planner.proofs.columns.most_back.Given as goal

abbrev pub invariant-loop-t : goal.invariant-loop-t
invariant-loop-t l = record {
  most : l.most ≡ most_back l.sessions l.session (pipeline_of l.checked).graph l.uses l.t;
  few : l.most ≤ l.session + most_window * (most_terms + 1);
}
