use Rattle.std.proofs.Common.{take}
use Rattle.pl_records.specs.Sorted.{AreKeys}
use Rattle.pl_numbers.specs.NumberPlaces.{key_of}
use Rattle.pl_numbers.proofs.seen.keys_of.Given as goal

abbrev pub invariant-loop-i : goal.invariant-loop-i
invariant-loop-i l = record { keys : AreKeys key_of l.keys (take l.i l.places) }
