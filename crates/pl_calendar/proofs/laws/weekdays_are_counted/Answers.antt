use Rattle.pl_spec.proofs.Ages.{weekdays_are_counted}
use Rattle.pl_calendar.proofs.laws.weekdays_are_counted.Goals as goal

pub returns : goal.returns
returns c = weekdays_are_counted
