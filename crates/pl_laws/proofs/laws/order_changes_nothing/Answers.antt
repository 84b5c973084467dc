use Rattle.pl_laws.proofs.Permuted.{order-changes-nothing}
use Rattle.pl_laws.proofs.laws.order_changes_nothing.Goals as goal

pub returns : goal.returns
returns c = order-changes-nothing
