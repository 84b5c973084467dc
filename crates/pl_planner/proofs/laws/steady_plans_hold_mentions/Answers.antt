use Rattle.pl_laws.proofs.ConeLists.{reads-mentions}
use Rattle.pl_planner.proofs.Held.{most-bound}
use Rattle.pl_planner.proofs.laws.steady_plans_hold_mentions.Goals as goal

pub returns : goal.returns
returns c = λ g steady. (λ t. reads-mentions g steady t, λ outs. most-bound g outs steady)
