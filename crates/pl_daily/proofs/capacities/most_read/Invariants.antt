use Rattle.std.proofs.Common.{◌≡◌, fold, max, map}
use Rattle.std.specs.List.{range_with_len}
use Rattle.pl_terms.specs.Checked.{pipeline_of}
use Rattle.pl_terms.specs.Nodes.{input_of}
use Rattle.pl_daily.specs.Inside.{used_sessions}
use Rattle.pl_daily.proofs.capacities.most_read.Given as goal

abbrev pub invariant-loop-k : goal.invariant-loop-k
invariant-loop-k l = l.most ≡ fold max 0 (map (used_sessions (input_of l.input) (pipeline_of l.checked)) (range_with_len 0 l.k))
