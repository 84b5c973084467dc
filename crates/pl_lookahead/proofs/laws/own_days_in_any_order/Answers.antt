use Rattle.pl_lookahead.proofs.OwnDays.{own-days-in-any-order}
use Rattle.pl_lookahead.proofs.laws.own_days_in_any_order.Goals as goal

pub returns : goal.returns
returns c = own-days-in-any-order
