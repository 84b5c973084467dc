use Rattle.pl_adjust.proofs.RevisionsMoved.{changed-alike, revisions-moved}
use Rattle.pl_adjust.proofs.laws.revisions_in_any_order.Goals as goal

pub returns-clause-revisions : goal.returns-clause-revisions
returns-clause-revisions c = revisions-moved

pub returns-clause-cells : goal.returns-clause-cells
returns-clause-cells c = changed-alike
