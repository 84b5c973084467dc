use Rattle.std.proofs.Common.{◌≡◌, ◌++◌, take}
use Rattle.std.specs.Prelude.{flat_map}
use Rattle.pl_parts.specs.Texts.{session_line}
use Rattle.pl_parts.proofs.sessions.sessions_text.Given as goal

abbrev pub invariant-loop-i : goal.invariant-loop-i
invariant-loop-i l = l.out.items ≡ flat_map session_line (take l.i (l.world.sessions.now))
