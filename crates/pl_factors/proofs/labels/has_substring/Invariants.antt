use Rattle.std.proofs.Common.{length, ◌+◌, ◌-◌, ◌≡◌}
use Rattle.pl_pipeline.specs.Pointwise.{has_substring}
use Rattle.pl_factors.proofs.Substrings.{stands_from}
use Rattle.pl_factors.proofs.labels.has_substring.Given as goal

abbrev pub invariant-loop-at : goal.invariant-loop-at
invariant-loop-at l = has_substring l.text l.label ≡ stands_from l.text l.label l.at

abbrev pub decreases-loop-at : goal.decreases-loop-at
decreases-loop-at l = length l.label + 1 - l.at
