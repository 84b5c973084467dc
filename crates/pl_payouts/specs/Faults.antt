-- The fault that an error tells; want of memory tells none.
use Rattle.std.specs.Prelude.{Option, Some, None}
use Rattle.pl_records.specs.Reading.{Fault}
use Rattle.pl_payouts.specs.Payouts.{DataFault}
use Rattle.pl_payouts.specs.Payouts as rules
use Rattle.pl_payouts.specs.declared.error.PayoutsError.{PayoutsError}
use Rattle.pl_payouts.specs.declared.error.PayoutsError.TheVariants.{BadHeader, BadField, UnknownSid, NotPositive, TooMany, Memory}

abbrev pub fault_of : PayoutsError → Option (Fault DataFault)
fault_of BadHeader = Some (record { rule = rules.BadHeader; line = 1 })
fault_of (BadField line) = Some (record { rule = rules.BadField; line = line })
fault_of (UnknownSid line) = Some (record { rule = rules.UnknownSid; line = line })
fault_of (NotPositive line) = Some (record { rule = rules.NotPositive; line = line })
fault_of (TooMany line) = Some (record { rule = rules.TooMany; line = line })
fault_of Memory = None
