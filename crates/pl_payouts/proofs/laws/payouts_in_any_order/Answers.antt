use Rattle.pl_payouts.proofs.PayoutsMoved.{payouts-moved}
use Rattle.pl_payouts.proofs.laws.payouts_in_any_order.Goals as goal

pub returns : goal.returns
returns c = payouts-moved
