use Rattle.std.proofs.Common.{◌≡◌, length, map, take, filter_map}
use Rattle.pl_terms.specs.Nodes.{input_of}
use Rattle.pl_planner.specs.Extra.{input_ask}
use Rattle.pl_planner.specs.Uses.{all_asked}
use Rattle.pl_planner.proofs.uses.ask_inputs.Given as goal

abbrev pub invariant-loop-input : goal.invariant-loop-input
invariant-loop-input l = record {
  uses : l.uses ≡ all_asked l.fn.uses l.by (filter_map (input_ask l.back l.node.window) (map input_of (take l.input-index l.input-items)));
  size : length l.uses ≡ length l.fn.uses;
}
