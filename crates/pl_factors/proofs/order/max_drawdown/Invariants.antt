use Rattle.pl_factors.specs.Falls.{AreFalls}
use Rattle.pl_factors.proofs.order.max_drawdown.Given as goal

abbrev pub invariant-loop-at : goal.invariant-loop-at
invariant-loop-at l = AreFalls l.a l.at l.falls
