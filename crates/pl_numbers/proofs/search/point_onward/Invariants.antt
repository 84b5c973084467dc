use Rattle.std.proofs.Common.{◌≤◌, ◌-◌, length}
use Rattle.pl_numbers.specs.NumberPlaces.{AllLow}
use Rattle.pl_numbers.proofs.search.point_onward.Given as goal

abbrev pub invariant-loop-at : goal.invariant-loop-at
invariant-loop-at l = record {
  within : l.at ≤ length l.places;
  low : AllLow l.places l.key l.at;
}

abbrev pub decreases-loop-at : goal.decreases-loop-at
decreases-loop-at l = length l.places - l.at
