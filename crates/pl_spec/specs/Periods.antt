-- Years, quarters, months and weeks, and where a calendar's sessions begin them.
use Rattle.std.specs.Prelude.{ℕ, ◌+◌, ◌-◌, ◌*◌, ◌/◌, Bool, ℤ, pos, negsuc, ◌+ℤ◌, List, option_map, unwrap_or, slice_get}
use Rattle.std.specs.List.{position_or_len}
use Rattle.std.specs.Int.{int_div_euclid}
use Rattle.std.specs.Ordering.{int_eq}
use Rattle.pl_spec.specs.declared.Frequency.{Frequency}
use Rattle.pl_spec.specs.declared.Frequency.TheVariants.{YearStart, QuarterStart, MonthStart, WeekStart}
use Rattle.pl_spec.specs.Dates.{year_of, month_of}

-- the number of the month that the day is of; quarters begin with January, April, July and October
unfoldable pub month_number : ℤ → ℕ
month_number day = 12 * year_of day + (month_of (year_of day) day - 1)

-- the number of the period that the day is of; day 0 is a Thursday, and weeks begin on Monday
abbrev pub period : Frequency → ℤ → ℤ
period YearStart day = pos (month_number day / 12)
period QuarterStart day = pos (month_number day / 3)
period MonthStart day = pos (month_number day)
period WeekStart day = int_div_euclid (day +ℤ pos 3) (pos 7)

abbrev pub same_period : Frequency → ℤ → ℤ → Bool
same_period f x y = int_eq (period f x) (period f y)

-- the first session whose day is of the period of the given day
abbrev pub first_session : Frequency → List ℤ → ℤ → ℕ
first_session f days day = position_or_len (same_period f day) days

-- the first session of the period of session d; where there is no session d, d itself
unfoldable pub period_start : Frequency → List ℤ → ℤ → ℤ
period_start f days (pos d) = unwrap_or (option_map (λ day. pos (first_session f days day)) (slice_get days d)) (pos d)
period_start f days (negsuc d) = negsuc d
