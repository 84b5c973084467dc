-- The names of what may be wrong with a record.
use Rattle.std.specs.Prelude.{ℕ, List, codes}
use Rattle.pl_records.specs.declared.fault.DataFault.{DataFault}
use Rattle.pl_records.specs.declared.fault.DataFault.TheVariants.{BadHeader, Empty, TooMany, BadDate, NotAscending, BadField, StartAfterEnd, DuplicateSid, LabelTooLong, DuplicateStart, NotSession, UnknownSid, Negative, NotPositive, TooSoon, Duplicate, BadLine}

abbrev pub name_of : DataFault → List ℕ
name_of BadHeader = codes "BadHeader"
name_of Empty = codes "Empty"
name_of TooMany = codes "TooMany"
name_of BadDate = codes "BadDate"
name_of NotAscending = codes "NotAscending"
name_of BadField = codes "BadField"
name_of StartAfterEnd = codes "StartAfterEnd"
name_of DuplicateSid = codes "DuplicateSid"
name_of LabelTooLong = codes "LabelTooLong"
name_of DuplicateStart = codes "DuplicateStart"
name_of NotSession = codes "NotSession"
name_of UnknownSid = codes "UnknownSid"
name_of Negative = codes "Negative"
name_of NotPositive = codes "NotPositive"
name_of TooSoon = codes "TooSoon"
name_of Duplicate = codes "Duplicate"
name_of BadLine = codes "BadLine"
