-- The fault that an error tells; want of memory tells none.
use Rattle.std.specs.Prelude.{Option, Some, None}
use Rattle.pl_records.specs.Reading.{Fault}
use Rattle.pl_adjust.specs.Revisions.{DataFault}
use Rattle.pl_adjust.specs.Revisions as rules
use Rattle.pl_adjust.specs.declared.revisions.error.RevisionsError.{RevisionsError}
use Rattle.pl_adjust.specs.declared.revisions.error.RevisionsError.TheVariants.{BadHeader, BadField, NotSession, UnknownSid, Negative, TooSoon, Duplicate, TooMany, Memory}

abbrev pub fault_of : RevisionsError → Option (Fault DataFault)
fault_of BadHeader = Some (record { rule = rules.BadHeader; line = 1 })
fault_of (BadField line) = Some (record { rule = rules.BadField; line = line })
fault_of (NotSession line) = Some (record { rule = rules.NotSession; line = line })
fault_of (UnknownSid line) = Some (record { rule = rules.UnknownSid; line = line })
fault_of (Negative line) = Some (record { rule = rules.Negative; line = line })
fault_of (TooSoon line) = Some (record { rule = rules.TooSoon; line = line })
fault_of (Duplicate line) = Some (record { rule = rules.Duplicate; line = line })
fault_of (TooMany line) = Some (record { rule = rules.TooMany; line = line })
fault_of Memory = None
