-- The rules of a sessions file in plain words.
use Rattle.std.specs.Prelude.{◌≡◌, ◌⊎◌, ◌≤◌, ℤ, ◌≤ℤ◌, List, [], length, Some}
use Rattle.pl_records.specs.Reading.{Record, Fault, field, IsFirstFault}
use Rattle.pl_records.specs.RuleTable.{IsFirstBroken, KeepsAll}
use Rattle.pl_spec.specs.Dates.{IsDate}
use Rattle.pl_calendar.specs.Days.{DataFault, TooMany, BadDate, NotAscending, Empty, rules, last_of}
use Rattle.pl_spec.specs.Limits.{most_sessions}

-- the record is the date of the day
abbrev pub IsDayRecord : Record → ℤ → Type 0
IsDayRecord r day = (length r ≡ 1) × IsDate (field r 0) day

-- what it is to break each rule
abbrev pub Breaks : List ℤ → Record → DataFault → Type 0
Breaks before r TooMany = most_sessions ≤ length before
Breaks before r BadDate = (day : ℤ) → ¬ IsDayRecord r day
Breaks before r NotAscending = (day : ℤ) × IsDayRecord r day × ((last : ℤ) × (last_of before ≡ Some last) × (day ≤ℤ last))
Breaks before r fault = ⊥

-- the record is the date of the next session's day
abbrev pub IsSession : List ℤ → Record → ℤ → Type 0
IsSession before r day = IsDayRecord r day × KeepsAll rules (Breaks before r)

-- no record at all, or the first faulty record
abbrev pub IsSessionsFault : List Record → Fault DataFault → Type 0
IsSessionsFault records fault =
    ((records ≡ []) × (fault ≡ record { rule = Empty; line = 1 }))
    ⊎ IsFirstFault 1 IsSession (λ before r. IsFirstBroken rules (Breaks before r)) records fault
