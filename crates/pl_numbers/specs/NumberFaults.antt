-- The fault that an error tells; want of memory tells none.
use Rattle.std.specs.Prelude.{Option, Some, None}
use Rattle.pl_records.specs.Reading.{Fault}
use Rattle.pl_numbers.specs.Numbers.{DataFault}
use Rattle.pl_numbers.specs.Numbers as rules
use Rattle.pl_numbers.specs.declared.error.NumbersError.{NumbersError}
use Rattle.pl_numbers.specs.declared.error.NumbersError.TheVariants.{BadHeader, BadField, UnknownSid, Duplicate, TooMany, Memory}

abbrev pub fault_of : NumbersError → Option (Fault DataFault)
fault_of BadHeader = Some (record { rule = rules.BadHeader; line = 1 })
fault_of (BadField line) = Some (record { rule = rules.BadField; line = line })
fault_of (UnknownSid line) = Some (record { rule = rules.UnknownSid; line = line })
fault_of (Duplicate line) = Some (record { rule = rules.Duplicate; line = line })
fault_of (TooMany line) = Some (record { rule = rules.TooMany; line = line })
fault_of Memory = None
