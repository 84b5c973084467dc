use Rattle.std.proofs.Common.{◌≡◌, length}
use Rattle.pl_planner.specs.Slotting.{AreSlotted}
use Rattle.pl_planner.proofs.slots.slot_terms.Given as goal

abbrev pub invariant-loop-k : goal.invariant-loop-k
invariant-loop-k l = record {
  slotted : AreSlotted l.uses l.slots.items;
  size : length l.slots.items ≡ l.k;
}
