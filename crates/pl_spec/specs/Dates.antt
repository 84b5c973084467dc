-- Dates of the years 1900 to 2199 as ten bytes, and their days, counted from 1970-01-01.
use Rattle.std.specs.Prelude.{◌≡◌, ℕ, zero, suc, ◌+◌, ◌-◌, ◌*◌, ◌/◌, ◌%◌, ◌≤◌, nat_le, Bool, ◌&&◌, if◌then◌else◌, ℤ, pos, neg_ℤ, ◌-ℤ◌, ◌≤ℤ◌, List, [], ◌∷◌, ◌++◌, map, sum, filter, length, Option, Some, None, slice_index, bytes_eq}
use Rattle.std.specs.List.{range_with_len}
use Rattle.std.specs.Int.RustNames.{int_le, unsigned_abs}
use Rattle.jiff_core.specs.Calendar.{IsCivilDate, days_in_month, days_from_civil}

-- the last digits of n, so many of them, with leading zeros
unfoldable pub digits : ℕ → ℕ → List ℕ
digits zero n = []
digits (suc width) n = digits width (n / 10) ++ (48 + n % 10) ∷ []

-- YYYY-MM-DD
abbrev pub date_spelling : ℕ → ℕ → ℕ → List ℕ
date_spelling y m d = digits 4 y ++ 45 ∷ digits 2 m ++ 45 ∷ digits 2 d

-- The text is the date of the day. The calendar is that of jiff.
pub record IsDate (text : List ℕ) (day : ℤ) : Type 0 where
  pub year : ℕ
  pub month : ℕ
  pub date : ℕ
  pub early : 1900 ≤ year
  pub late : year ≤ 2199
  pub civil : IsCivilDate (pos year) month date
  pub spelled : text ≡ date_spelling year month date
  pub counted : day ≡ days_from_civil (pos year) month date

-- the days from 1900-01-01 to 2199-12-31
pub record IsDay (day : ℤ) : Type 0 where
  pub first : neg_ℤ (pos 25567) ≤ℤ day
  pub last : day ≤ℤ pos 84005

-- ---- the day of a text

abbrev pub digit_in : List ℕ → ℕ → ℕ
digit_in text i = slice_index text i - 48

abbrev pub year_in : List ℕ → ℕ
year_in text = 1000 * digit_in text 0 + 100 * digit_in text 1 + 10 * digit_in text 2 + digit_in text 3

-- the number in two digits
abbrev pub pair_in : List ℕ → ℕ → ℕ
pair_in text i = 10 * digit_in text i + digit_in text (i + 1)

abbrev pub is_date : ℕ → ℕ → ℕ → Bool
is_date y m d = nat_le 1900 y && nat_le y 2199 && nat_le 1 m && nat_le m 12 && nat_le 1 d && nat_le d (days_in_month (pos y) m)

-- the day of these numbers, where they are a date and this is its text
unfoldable pub day_if : ℕ → ℕ → ℕ → List ℕ → Option ℤ
day_if y m d text = if is_date y m d && bytes_eq text (date_spelling y m d) then Some (days_from_civil (pos y) m d) else None

-- the day that a text is the date of: the numbers in it are a date, and the text of that date is it
unfoldable pub date_in : List ℕ → Option ℤ
date_in text = day_if (year_in text) (pair_in text 5) (pair_in text 8) text

-- ---- the text of a day

-- the days of the years before y, from year 1 on: every fourth year is a leap year, but of the centuries only
-- every fourth
abbrev pub days_before_year : ℕ → ℕ
days_before_year y = 365 * (y - 1) + (y - 1) / 4 - (y - 1) / 100 + (y - 1) / 400

abbrev pub days_before_month : ℕ → ℕ → ℕ
days_before_month y m = sum (map (days_in_month (pos y)) (range_with_len 1 (m - 1)))

-- the day of a date; 719163 days lie between the first of the years 1 and 1970
abbrev pub day_number : ℕ → ℕ → ℕ → ℤ
day_number y m d = pos (days_before_year y + days_before_month y m + d) -ℤ pos 719163

-- how many of the years 1901 to 2199, and of the months 2 to 12, have begun by the day
abbrev pub year_of : ℤ → ℕ
year_of day = 1900 + length (filter (λ y. int_le (day_number y 1 1) day) (range_with_len 1901 299))

abbrev pub month_of : ℕ → ℤ → ℕ
month_of y day = 1 + length (filter (λ m. int_le (day_number y m 1) day) (range_with_len 2 11))

unfoldable pub date_text : ℤ → List ℕ
date_text day =
    let y = year_of day in let m = month_of y day in
    date_spelling y m (1 + unsigned_abs (day -ℤ day_number y m 1))
