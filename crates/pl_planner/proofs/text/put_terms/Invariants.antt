use Rattle.std.proofs.Common.{◌≡◌, ◌++◌}
use Rattle.pl_terms.specs.Checked.{pipeline_of}
use Rattle.pl_planner.specs.Plans.{extra}
use Rattle.pl_planner.proofs.Lines.{lines_below}
use Rattle.pl_planner.proofs.text.put_terms.Given as goal

abbrev pub invariant-loop-k : goal.invariant-loop-k
invariant-loop-k l = l.out.items ≡ l.fn.out.items ++ lines_below (pipeline_of l.checked) (extra l.plan) l.k
