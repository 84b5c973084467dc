use Rattle.std.proofs.Common.{◌≡◌}
use Rattle.pl_assets.specs.LabelPlaces.{numbers}
use Rattle.pl_assets.proofs.labels.order.numbers_below.Given as goal

abbrev pub invariant-loop-i : goal.invariant-loop-i
invariant-loop-i l = record { below : l.order.items ≡ numbers l.i }
