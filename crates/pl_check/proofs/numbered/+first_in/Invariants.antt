use Rattle.pl_grammar.specs.Machine.{args_of}
use Rattle.pl_syntax.specs.Frames.{args_list}
use Rattle.pl_syntax.specs.Plain.{plain}
use Rattle.pl_check.specs.Sizes.{tree_size, args_size}
use Rattle.pl_check.proofs.numbered.+first_in.Given as goal

abbrev pub decreases-first_in : goal.decreases-first_in
decreases-first_in l = tree_size (plain l.expr.now)

abbrev pub decreases-first_among : goal.decreases-first_among
decreases-first_among l = args_size (args_of (args_list l.args.now))
