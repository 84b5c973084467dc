-- The fault that an error tells; want of memory tells none.
use Rattle.std.specs.Prelude.{Option, Some, None}
use Rattle.pl_records.specs.Reading.{Fault}
use Rattle.pl_calendar.specs.Days.{DataFault}
use Rattle.pl_calendar.specs.Days as rules
use Rattle.pl_calendar.specs.declared.error.CalendarError.{CalendarError}
use Rattle.pl_calendar.specs.declared.error.CalendarError.TheVariants.{BadDate, NotAscending, Empty, TooMany, Memory}

abbrev pub fault_of : CalendarError → Option (Fault DataFault)
fault_of (BadDate line) = Some (record { rule = rules.BadDate; line = line })
fault_of (NotAscending line) = Some (record { rule = rules.NotAscending; line = line })
fault_of Empty = Some (record { rule = rules.Empty; line = 1 })
fault_of (TooMany line) = Some (record { rule = rules.TooMany; line = line })
fault_of Memory = None
