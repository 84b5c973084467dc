use Rattle.std.proofs.Common.{arith}
use Rattle.pl_planner.proofs.Pipelines.{back-early, back-start}
use Rattle.pl_planner.proofs.uses.back_to_start.Goals as goal

pub returns-then-extra-session : goal.returns-then-extra-session
returns-then-extra-session c = back-early c.args.sessions.now c.args.session c.args.frequency c.args.extra c.if-extra-session.true

pub returns : goal.returns
returns c =
    back-start c.args.sessions.now c.args.session c.args.frequency c.args.extra c.period_start.result (omega arith) c.period_start.ensures.within c.period_start.ensures.exact
