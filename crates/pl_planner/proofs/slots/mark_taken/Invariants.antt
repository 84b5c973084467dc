use Rattle.pl_planner.specs.Slotting.{IsTaken}
use Rattle.pl_planner.proofs.slots.mark_taken.Given as goal

abbrev pub invariant-loop-t : goal.invariant-loop-t
invariant-loop-t l = IsTaken l.uses l.slots l.k l.t l.taken
