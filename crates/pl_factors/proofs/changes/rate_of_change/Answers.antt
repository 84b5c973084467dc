use Rattle.pl_factors.proofs.Kept.{kept_cell}
use Rattle.pl_factors.proofs.changes.rate_of_change.Goals as goal

pub change-requires-clause-from : goal.change-requires-clause-from
change-requires-clause-from c = kept_cell _ c.oldest.ensures.cell

pub change-requires-clause-to : goal.change-requires-clause-to
change-requires-clause-to c = kept_cell _ c.newest.ensures.cell

pub returns-clause-cell : goal.returns-clause-cell
returns-clause-cell c = kept_cell _ c.change.ensures.cell
