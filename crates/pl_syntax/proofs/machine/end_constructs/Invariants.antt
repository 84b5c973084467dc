use Rattle.std.proofs.Common.{◌≡◌, length}
use Rattle.pl_grammar.specs.Machine.{close}
use Rattle.pl_syntax.specs.Plain.{plain}
use Rattle.pl_syntax.specs.Open.{open_in}
use Rattle.pl_syntax.proofs.machine.end_constructs.Given as goal

abbrev pub invariant-loop-frame : goal.invariant-loop-frame
invariant-loop-frame l = close l.level l.height (plain l.expr) (open_in l.stack) ≡ close l.level 8 (plain l.fn.operand) (open_in l.fn.stack)

abbrev pub decreases-loop-frame : goal.decreases-loop-frame
decreases-loop-frame l = length (open_in l.stack)
