use Rattle.pl_daily.proofs.Sessions.{fed_days_are_sessions}
use Rattle.pl_daily.proofs.laws.fed_days_are_sessions.Goals as goal

pub returns : goal.returns
returns c = fed_days_are_sessions
