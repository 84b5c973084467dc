use Rattle.std.proofs.Common.{◌-◌}
use Rattle.pl_calendar.proofs.PeriodSearch.{IsBracket}
use Rattle.pl_calendar.proofs.periods.period_start.Given as goal

abbrev pub invariant-loop-low : goal.invariant-loop-low
invariant-loop-low l = record { bracket : IsBracket l.frequency l.days l.i l.low l.high }

abbrev pub decreases-loop-low : goal.decreases-loop-low
decreases-loop-low l = l.high - l.low
