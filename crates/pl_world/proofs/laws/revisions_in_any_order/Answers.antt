use Rattle.pl_world.proofs.RevisionsMoved.{revisions-in-any-order}
use Rattle.pl_world.proofs.laws.revisions_in_any_order.Goals as goal

pub returns : goal.returns
returns c = revisions-in-any-order
