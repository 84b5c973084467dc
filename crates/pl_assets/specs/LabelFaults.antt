-- The fault that an error tells; want of memory tells none.
use Rattle.std.specs.Prelude.{Option, Some, None}
use Rattle.pl_records.specs.Reading.{Fault}
use Rattle.pl_assets.specs.Labels.{DataFault}
use Rattle.pl_assets.specs.Labels as rules
use Rattle.pl_assets.specs.declared.labels.error.LabelsError.{LabelsError}
use Rattle.pl_assets.specs.declared.labels.error.LabelsError.TheVariants.{BadHeader, BadField, LabelTooLong, UnknownSid, DuplicateStart, TooMany, Memory}

abbrev pub fault_of : LabelsError → Option (Fault DataFault)
fault_of BadHeader = Some (record { rule = rules.BadHeader; line = 1 })
fault_of (BadField line) = Some (record { rule = rules.BadField; line = line })
fault_of (LabelTooLong line) = Some (record { rule = rules.LabelTooLong; line = line })
fault_of (UnknownSid line) = Some (record { rule = rules.UnknownSid; line = line })
fault_of (DuplicateStart line) = Some (record { rule = rules.DuplicateStart; line = line })
fault_of (TooMany line) = Some (record { rule = rules.TooMany; line = line })
fault_of Memory = None
