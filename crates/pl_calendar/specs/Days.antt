-- The days of the records of a sessions file, and the first rule that a record breaks.
use Rattle.std.specs.Prelude.{◌-◌, ◌==◌, ◌<◌, ◌≤◌, nat_le, not, Bool, true, false, if◌then◌else◌, ℤ, ◌<ℤ◌, List, [], ◌∷◌, length, slice_get, All, AllPairs, Option, None, option_map, unwrap_or, Result, Err}
use Rattle.std.specs.Int.RustNames.{int_lt}
use Rattle.std.specs.Option.{ok_or}
use Rattle.pl_records.specs.Reading.{Record, Fault, field, rows_of}
use Rattle.pl_records.specs.RuleTable.{first_broken, lacks, has}
use Rattle.pl_spec.specs.Dates.{IsDay, date_in}
use Rattle.pl_spec.specs.Limits.{most_sessions}
pub use Rattle.pl_records.specs.declared.fault.DataFault.{DataFault}
pub use Rattle.pl_records.specs.declared.fault.DataFault.TheVariants.{TooMany, BadDate, NotAscending, Empty}

-- the day of a record of one date
abbrev pub day_in : Record → Option ℤ
day_in r = if length r == 1 then date_in (field r 0) else None

-- the last of some days
abbrev pub last_of : List ℤ → Option ℤ
last_of days = slice_get days (length days - 1)

-- later than the last of the days before, where there is one
abbrev pub is_later : List ℤ → ℤ → Bool
is_later before day = unwrap_or (option_map (λ last. int_lt last day) (last_of before)) true

-- the rules of a record, in the order in which they are tested, and their tests
abbrev pub rules : List DataFault
rules = TooMany ∷ BadDate ∷ NotAscending ∷ []

abbrev pub breaks : List ℤ → Record → DataFault → Bool
breaks before r TooMany = nat_le most_sessions (length before)
breaks before r BadDate = lacks (day_in r)
breaks before r NotAscending = has (λ day. not (is_later before day)) (day_in r)
breaks before r fault = false

-- the day of a record after the days before it, or the first rule that it breaks
unfoldable pub day_or_rule : List ℤ → Record → Result ℤ DataFault
day_or_rule before r = first_broken rules (breaks before r) (ok_or (day_in r) BadDate)

-- the days of a file, or its first fault
unfoldable pub sessions_of : List Record → Result (List ℤ) (Fault DataFault)
sessions_of [] = Err (record { rule = Empty; line = 1 })
sessions_of (r ∷ rs) = rows_of 1 day_or_rule (r ∷ rs)

-- days as sessions have them
pub record AreDays (days : List ℤ) : Type 0 where
  pub some : 0 < length days
  pub dates : All IsDay days
  pub ascend : AllPairs (λ a b. a <ℤ b) days
  pub few : length days ≤ most_sessions
