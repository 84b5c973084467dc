use Rattle.std.proofs.Common.{◌≡◌, ◌+◌, ◌*◌, ◌++◌, drop}
use Rattle.std.specs.Prelude.{codes}
use Rattle.pl_grammar.specs.Machine.{args_of}
use Rattle.pl_syntax.specs.Frames.{args_list}
use Rattle.pl_syntax.specs.Plain.{args_tree}
use Rattle.pl_syntax.specs.Canonical.{list_text, args_text}
use Rattle.pl_syntax.proofs.writer.+print.Given as goal

abbrev pub invariant-put_args-loop-arg : goal.invariant-put_args-loop-arg
invariant-put_args-loop-arg l = l.out.items ++ (list_text l.first (args_of (args_list (drop l.arg-index l.arg-items))) ++ codes ")") ≡ l.fn.out.items ++ args_text (args_tree l.fn.list)

abbrev pub decreases-put_expr : goal.decreases-put_expr
decreases-put_expr l = 2 * goal.size-put_expr l

abbrev pub decreases-put_placed : goal.decreases-put_placed
decreases-put_placed l = 2 * goal.size-put_placed l + 1

abbrev pub decreases-put_args : goal.decreases-put_args
decreases-put_args l = 2 * goal.size-put_args l
