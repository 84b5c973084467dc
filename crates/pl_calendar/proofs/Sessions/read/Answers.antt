use Rattle.pl_records.specs.Records.{csv_records}
use Rattle.pl_calendar.proofs.DaysRead.{AreDays-read}
use Rattle.pl_calendar.proofs.Sessions.read.Goals as goal

pub invariant_of-result : goal.invariant_of-result
invariant_of-result c = AreDays-read (csv_records c.args.bytes.now) c.in_ok-days.days.items c.in_ok-days.ensures.exact

pub returns-clause-days : goal.returns-clause-days
returns-clause-days c = AreDays-read (csv_records c.args.bytes.now) c.in_ok-days.days.items c.in_ok-days.ensures.exact
