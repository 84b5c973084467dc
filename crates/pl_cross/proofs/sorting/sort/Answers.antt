use Rattle.pl_cross.proofs.Order.{in-order}
use Rattle.pl_cross.proofs.sorting.sort.Goals as goal

pub returns-clause-order : goal.returns-clause-order
returns-clause-order c = in-order _ _ c.requires c.sort_unstable.ensures.permutation c.sort_unstable.ensures.sorted
