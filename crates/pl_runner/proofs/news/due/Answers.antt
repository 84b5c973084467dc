use Rattle.std.proofs.Common.{rules, ◌∙◌, w32, FitsSigned}
use Rattle.std.proofs.lemmas.Int.{to_z-of_z}
use Rattle.pl_adjust.specs.Columns.{events_at}
use Rattle.pl_runner.proofs.Puts.{due-between}
use Rattle.pl_runner.proofs.news.due.Goals as goal

pub returns-else-session-eq0 : goal.returns-else-session-eq0
returns-else-session-eq0 c =
    let w = c.args.world.now in
    let low : FitsSigned w32 c.day-before.result = search rules in
    let high : FitsSigned w32 c.day-day.result = search rules in
    let events = simp to_z-of_z at c.events_between.ensures.events in
    events ∙ due-between w.sessions.now (events_at w.adjustments.now c.args.col) c.args.session c.day-before.result c.day-day.result c.if-session-eq0.false c.day-before.ensures.exact c.day-day.ensures.exact
