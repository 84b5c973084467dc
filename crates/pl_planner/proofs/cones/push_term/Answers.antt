use Rattle.std.proofs.Common.{ap, ◌∙◌}
use Rattle.pl_planner.specs.Cones.{pairs_of}
use Rattle.pl_planner.proofs.Coned.{pairs-more}
use Rattle.pl_planner.proofs.cones.push_term.Goals as goal

pub returns : goal.returns
returns c = ap pairs_of c.in_ok-push.ensures.items ∙ pairs-more c.args.cone.now.items (record { term = c.args.term; depth = c.args.depth })
