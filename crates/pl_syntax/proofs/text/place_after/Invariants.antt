use Rattle.std.proofs.Common.{◌≡◌, take}
use Rattle.pl_syntax.specs.Text.{after}
use Rattle.pl_syntax.proofs.text.place_after.Given as goal

abbrev pub invariant-loop-b : goal.invariant-loop-b
invariant-loop-b l = l.here ≡ after (take l.b-index l.bytes) l.fn.place
