-- The fault that an error tells; want of memory tells none.
use Rattle.std.specs.Prelude.{Option, Some, None}
use Rattle.pl_records.specs.Reading.{Fault}
use Rattle.pl_lifetimes.specs.Assets.{DataFault}
use Rattle.pl_lifetimes.specs.Assets as rules
use Rattle.pl_lifetimes.specs.declared.error.AssetsError.{AssetsError}
use Rattle.pl_lifetimes.specs.declared.error.AssetsError.TheVariants.{BadHeader, BadField, StartAfterEnd, DuplicateSid, TooMany, Memory}

abbrev pub fault_of : AssetsError → Option (Fault DataFault)
fault_of BadHeader = Some (record { rule = rules.BadHeader; line = 1 })
fault_of (BadField line) = Some (record { rule = rules.BadField; line = line })
fault_of (StartAfterEnd line) = Some (record { rule = rules.StartAfterEnd; line = line })
fault_of (DuplicateSid line) = Some (record { rule = rules.DuplicateSid; line = line })
fault_of (TooMany line) = Some (record { rule = rules.TooMany; line = line })
fault_of Memory = None
