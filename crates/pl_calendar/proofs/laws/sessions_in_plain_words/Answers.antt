use Rattle.pl_calendar.proofs.DaysSaid.{days_judged}
use Rattle.pl_calendar.proofs.DaysRead.{sessions-are, sessions-fault}
use Rattle.pl_calendar.proofs.laws.sessions_in_plain_words.Goals as goal

pub returns-clause-record : goal.returns-clause-record
returns-clause-record c = days_judged

pub returns-clause-days : goal.returns-clause-days
returns-clause-days c = sessions-are

pub returns-clause-fault : goal.returns-clause-fault
returns-clause-fault c = sessions-fault
