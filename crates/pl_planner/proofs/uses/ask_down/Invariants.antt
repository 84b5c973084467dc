use Rattle.std.proofs.Common.{◌≤◌, length, option_map}
use Rattle.pl_terms.specs.Checked.{pipeline_of}
use Rattle.pl_terms.specs.Nodes.{number_of}
use Rattle.pl_planner.specs.Asked.{wanted}
use Rattle.pl_planner.proofs.Gathers.{AreGathered}
use Rattle.pl_planner.proofs.uses.ask_down.Given as goal

abbrev pub invariant-loop-k : goal.invariant-loop-k
invariant-loop-k l = record {
  gathered : AreGathered l.sessions l.session (pipeline_of l.checked).graph (wanted (pipeline_of l.checked) (option_map number_of l.fn.only)) l.k l.uses;
  within : l.k ≤ length (pipeline_of l.checked).graph;
}

abbrev pub decreases-loop-k : goal.decreases-loop-k
decreases-loop-k l = l.k
