use Rattle.std.proofs.Common.{◌≡◌, ◌++◌, take}
use Rattle.pl_numbers.proofs.join.put_names.Given as goal

abbrev pub invariant-loop-number : goal.invariant-loop-number
invariant-loop-number l = l.into ≡ l.fn.into ++ take l.number l.names
