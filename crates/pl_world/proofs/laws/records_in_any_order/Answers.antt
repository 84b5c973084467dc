use Rattle.pl_world.proofs.Moved.{records-in-any-order}
use Rattle.pl_world.proofs.laws.records_in_any_order.Goals as goal

pub returns : goal.returns
returns c = records-in-any-order
