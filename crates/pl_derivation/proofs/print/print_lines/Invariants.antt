use Rattle.std.specs.Prelude.{◌≡◌, take}
use Rattle.pl_derivation.specs.Texts.{text_of}
use Rattle.pl_derivation.proofs.print.print_lines.Given as goal

abbrev pub invariant-loop-i : goal.invariant-loop-i
invariant-loop-i l = l.bytes.items ≡ text_of (take l.i l.derivation)
