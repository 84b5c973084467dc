-- How long ago a day was: in days, and in those from Monday to Friday.
use Rattle.std.specs.Prelude.{◌≡◌, ℕ, suc, ◌+◌, ◌*◌, ◌/◌, ◌%◌, nat_lt, min, Bool, true, false, ℤ, pos, ◌+ℤ◌, ◌-ℤ◌, ◌≤ℤ◌, count_by}
use Rattle.std.specs.List.{range_with_len}
use Rattle.std.specs.Int.RustNames.{unsigned_abs}
use Rattle.pl_spec.specs.Dates.{IsDay}

-- the days since the first that there is, 1900-01-01, which is a Monday
abbrev pub since_monday : ℤ → ℕ
since_monday day = unsigned_abs (day +ℤ pos 25567)

-- from Monday to Friday, by that number
abbrev pub is_weekday : ℕ → Bool
is_weekday n = nat_lt (n % 7) 5

-- how many days there are from one day on and before another
abbrev pub days_between : ℤ → ℤ → ℕ
days_between known day = unsigned_abs (day -ℤ known)

-- how many of them are from Monday to Friday
unfoldable pub weekdays_between : ℤ → ℤ → ℕ
weekdays_between known day = count_by is_weekday (range_with_len (since_monday known) (days_between known day))

-- the Mondays to Fridays among the first so many days: five of each full week, and those of the week begun
abbrev pub weekdays_before : ℕ → ℕ
weekdays_before n = n / 7 * 5 + min (n % 7) 5

-- The number of days without Saturdays and Sundays is a difference of two such numbers, which rise by one on each
-- weekday, and on no other.
pub record WeekdaysAreCounted : Type 0 where
  pub difference : (known day : ℤ) → IsDay known → known ≤ℤ day
      → weekdays_before (since_monday known) + weekdays_between known day ≡ weekdays_before (since_monday day)
  pub rises : (n : ℕ) → is_weekday n ≡ true → weekdays_before (suc n) ≡ suc (weekdays_before n)
  pub rests : (n : ℕ) → is_weekday n ≡ false → weekdays_before (suc n) ≡ weekdays_before n
