use Rattle.std.proofs.Common.{◌≡◌, ◌≤◌}
use Rattle.pl_terms.specs.Nodes.{node_of}
use Rattle.pl_exec.specs.ChunkInputs.{new_before}
use Rattle.pl_exec.proofs.columns.new_count.Given as goal

abbrev pub invariant-loop-before : goal.invariant-loop-before
invariant-loop-before l = record { value : l.count ≡ new_before (node_of l.node) l.before; few : l.count ≤ l.before }
