use Rattle.std.proofs.Common.{◌∙◌}
use Rattle.pl_terms.proofs.Steady.{keeps-safe}
use Rattle.pl_terms.proofs.row.windowed.Goals as goal

pub returns-clause-keeps_values : goal.returns-clause-keeps_values
returns-clause-keeps_values c = c.window_row-row.ensures.is_safe ∙ keeps-safe c.args.kind
