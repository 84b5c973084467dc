use Rattle.std.proofs.Common.{◌≡◌, ◌↔◌, drop}
use Rattle.pl_grammar.specs.Places.{bare_args}
use Rattle.pl_syntax.specs.Plain.{args_tree}
use Rattle.pl_syntax.proofs.Same.{SameArgs}
use Rattle.pl_syntax.proofs.equal.+equal.Given as goal

abbrev pub invariant-same_args-loop-arg : goal.invariant-same_args-loop-arg
invariant-same_args-loop-arg l = (bare_args (args_tree l.fn.a) ≡ bare_args (args_tree l.fn.b)) ↔ SameArgs (drop l.arg-index l.arg-items) l.rest
