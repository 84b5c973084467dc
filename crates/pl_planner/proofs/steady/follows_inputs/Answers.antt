use Rattle.std.proofs.Common.{◌∙◌, ap, not}
use Rattle.pl_planner.proofs.Steadied.{follows-kept}
use Rattle.pl_planner.proofs.steady.follows_inputs.Goals as goal

pub returns : goal.returns
returns c = ap not c.kind_row.ensures.keeps_values ∙ follows-kept _
