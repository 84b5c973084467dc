use Rattle.std.proofs.Common.{◌≡◌, ◌++◌, map, take}
use Rattle.pl_numbers.specs.BesidePlaces.{moved}
use Rattle.pl_numbers.proofs.join.put_places.Given as goal

abbrev pub invariant-loop-i : goal.invariant-loop-i
invariant-loop-i l = l.into.items ≡ l.fn.into.items ++ map (moved l.count) (take l.i l.places)
