use Rattle.std.specs.Prelude.{length}
use Rattle.pl_derivation.specs.Reading.{IsRead}
use Rattle.pl_derivation.proofs.read.read_lines.Given as goal

abbrev pub invariant-loop-left : goal.invariant-loop-left
invariant-loop-left l = IsRead l.bytes l.lines.items l.left

abbrev pub decreases-loop-left : goal.decreases-loop-left
decreases-loop-left l = length l.left
