use Rattle.std.proofs.lemmas.Result.{IfOk-weaker}
use Rattle.pl_daily.proofs.Beginning.{fresh_bars}
use Rattle.pl_daily.proofs.ring_starts.rings_of.Goals as goal

pub returns-clause-begins : goal.returns-clause-begins
returns-clause-begins c = IfOk-weaker c.new.result _ _ (λ r e. fresh_bars c.args.assets c.args.capacity r.rings.items e) c.new.ensures.items
