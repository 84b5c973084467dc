use Rattle.std.proofs.Common.{◌≡◌, false, take}
use Rattle.std.specs.List.{list_any}
use Rattle.pl_numbers.specs.Beside.{is_among}
use Rattle.pl_numbers.proofs.join.has_some.Given as goal

abbrev pub invariant-loop-i : goal.invariant-loop-i
invariant-loop-i l = list_any (is_among l.names) (take l.i l.texts) ≡ false
