use Rattle.pl_planner.proofs.Pipelines.{back-own}
use Rattle.pl_planner.proofs.uses.back_from.Goals as goal

pub returns-in-None : goal.returns-in-None
returns-in-None c = back-own c.args.sessions.now c.args.session c.args.node.now c.args.extra c.in-None.ensures.none
