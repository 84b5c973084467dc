-- Each day from 1900-01-01 to 2199-12-31 has one date, and its text is that of the day.
use Rattle.std.proofs.Common.{◌≡◌, ℕ, zero, suc, ◌+◌, ◌-◌, ◌*◌, ◌/◌, ◌<◌, ◌≤◌, inl, inr, Bool, true, false, List, length, map, filter, sum, ℤ, pos, ◌+ℤ◌, ◌-ℤ◌, ◌≤ℤ◌, ◌<ℤ◌, unsigned_abs, refl, sym, ◌∙◌, ap, add-one, arith}
use Rattle.std.specs.List.{range_with_len}
use Rattle.std.specs.Int.RustNames.{int_le}
use Rattle.std.proofs.lemmas.Int.{ints}
use Rattle.std.proofs.lemmas.Bool.{cases_lt}
use Rattle.std.proofs.lemmas.List.FromFn.{sum_by-map-range_with_len_more}
use Rattle.jiff_core.specs.Calendar.{IsCivilDate, days_in_month, days_of_months, day_count, days_from_civil}
use Rattle.jiff_core.proofs.CalendarLemmas.{day_count-epoch, day_count-day_of_year, day_count-later_year, day_count-lt_year, day_count-lt_month, day_count-day, day_count-next_month, day_count-next_year, days_of_months_all, days_of_months_mono}
use Rattle.jiff_core.proofs.MarchLemmas.{day_count-early}
use Rattle.jiff_core.proofs.SignedLemmas.{unsigned_abs-parts}
use Rattle.pl_spec.specs.Dates.{IsDate, IsDay, date_spelling, days_before_year, day_number, year_of, month_of, date_text}
use Rattle.pl_spec.proofs.Signed.{le-int_le, lt-int_le}

-- ---- the day of a date, as the calendar of jiff counts it

closed : (y : ℕ) → 365 * (suc y + 9999) + (suc y + 9999) / 4 - (suc y + 9999) / 100 + (suc y + 9999) / 400 ≡ days_before_year (suc y) + 3652425
closed y = omega arith

day_count-year : (y : ℕ) → 1 ≤ y → day_count (pos y) 1 1 ≡ days_before_year y + 3652791
day_count-year zero h = absurd (omega arith)
day_count-year (suc y) h =
    day_count-early (pos (suc y)) (suc y + 9999) 1 1 (omega (arith, ints)) (omega arith) (omega arith) (omega arith) ∙ omega (arith, closed y)

months_before : (y n : ℕ) → sum (map (days_in_month (pos y)) (range_with_len 1 n)) ≡ days_of_months (pos y) n
unfolding days_of_months
months_before y zero = refl
months_before y (suc n) =
    let more = sum_by-map-range_with_len_more (λ x. x) (days_in_month (pos y)) 1 n (suc n) (omega arith) in
    rw add-one at more ∙ ap (λ k. k + days_in_month (pos y) (suc n)) (months_before y n)

day_number-civil : (y m d : ℕ) → 1 ≤ y → 1 ≤ d → day_number y m d ≡ days_from_civil (pos y) m d
unfolding days_from_civil
day_number-civil y m d hy hd =
    let months = months_before y (m - 1) in
    let count = day_count-day_of_year (pos y) m d hd in
    rw day_count-epoch (omega (arith, ints, day_count-year y hy))

-- ---- how many numbers of a range pass a test

-- the first k of n numbers from a on pass, and the others don't
counted : (p : ℕ → Bool) (a n k : ℕ) → k ≤ n
    → ((x : ℕ) → a ≤ x → x < a + k → p x ≡ true) → ((x : ℕ) → a + k ≤ x → x < a + n → p x ≡ false)
    → length (filter p (range_with_len a n)) ≡ k
counted p a zero k h passing failing = omega arith
counted p a (suc n) zero h passing failing =
    rw (failing a (omega arith) (omega arith))
    (counted p (a + 1) n 0 (omega arith) (λ x l m. absurd (omega arith)) (λ x l m. failing x (omega arith) (omega arith)))
counted p a (suc n) (suc k) h passing failing =
    rw (passing a (omega arith) (omega arith))
    (ap suc (counted p (a + 1) n k (omega arith) (λ x l m. passing x (omega arith) (omega arith)) (λ x l m. failing x (omega arith) (omega arith))))

-- days compare as their counts
civil-le : (y m d y₂ m₂ d₂ : ℕ) → day_count (pos y) m d ≤ day_count (pos y₂) m₂ d₂
    → days_from_civil (pos y) m d ≤ℤ days_from_civil (pos y₂) m₂ d₂
unfolding days_from_civil
civil-le y m d y₂ m₂ d₂ h = omega (arith, ints)

civil-lt : (y m d y₂ m₂ d₂ : ℕ) → day_count (pos y) m d < day_count (pos y₂) m₂ d₂
    → days_from_civil (pos y) m d <ℤ days_from_civil (pos y₂) m₂ d₂
unfolding days_from_civil
civil-lt y m d y₂ m₂ d₂ h = omega (arith, ints)

begun : (y m y₂ m₂ d₂ : ℕ) → 1 ≤ y → day_count (pos y) m 1 ≤ day_count (pos y₂) m₂ d₂
    → int_le (day_number y m 1) (days_from_civil (pos y₂) m₂ d₂) ≡ true
begun y m y₂ m₂ d₂ hy h =
    ap (λ z. int_le z (days_from_civil (pos y₂) m₂ d₂)) (day_number-civil y m 1 hy (omega arith)) ∙ le-int_le _ _ (civil-le y m 1 y₂ m₂ d₂ h)

not_begun : (y m y₂ m₂ d₂ : ℕ) → 1 ≤ y → day_count (pos y₂) m₂ d₂ < day_count (pos y) m 1
    → int_le (day_number y m 1) (days_from_civil (pos y₂) m₂ d₂) ≡ false
not_begun y m y₂ m₂ d₂ hy h =
    ap (λ z. int_le z (days_from_civil (pos y₂) m₂ d₂)) (day_number-civil y m 1 hy (omega arith)) ∙ lt-int_le _ _ (civil-lt y₂ m₂ d₂ y m 1 h)

-- ---- the year, the month and the date of a day

year_first : (x y : ℕ) → x ≤ y → day_count (pos x) 1 1 ≤ day_count (pos y) 1 1
year_first x y h = elim (cases_lt x y) [
  | inl before ↦ omega (arith, day_count-later_year (pos x) (pos y) (omega (arith, ints)) (omega (arith, ints)))
  | inr same ↦ let e : x ≡ y = omega arith in rw e (omega arith)
]

month_first : (y x m : ℕ) → x ≤ m → day_count (pos y) x 1 ≤ day_count (pos y) m 1
month_first y x m h =
    let earlier = day_count-day_of_year (pos y) x 1 (omega arith) in
    let later = day_count-day_of_year (pos y) m 1 (omega arith) in
    omega (arith, days_of_months_mono (pos y) (x - 1) (m - 1) (omega arith))

apart : (a b epoch d : ℕ) → 1 ≤ d → a + 1 ≡ b + d → 1 + unsigned_abs ((pos a -ℤ pos epoch) -ℤ (pos b -ℤ pos epoch)) ≡ d
apart a b epoch d h e = omega (arith, ints, unsigned_abs-parts ((pos a -ℤ pos epoch) -ℤ (pos b -ℤ pos epoch)))

civil-apart : (y m d : ℕ) → 1 ≤ d → day_count (pos y) m d + 1 ≡ day_count (pos y) m 1 + d
    → 1 + unsigned_abs (days_from_civil (pos y) m d -ℤ days_from_civil (pos y) m 1) ≡ d
unfolding days_from_civil
civil-apart y m d h e = apart _ _ _ d h e

-- the text of a day whose year and month are known
spelled_in : ℕ → ℕ → ℤ → List ℕ
spelled_in y m day = date_spelling y m (1 + unsigned_abs (day -ℤ day_number y m 1))

date_text_is : (day : ℤ) → date_text day ≡ spelled_in (year_of day) (month_of (year_of day) day) day
unfolding date_text spelled_in
date_text_is day = refl

module _ (y m d : ℕ) (early : 1900 ≤ y) (late : y ≤ 2199) (civil : IsCivilDate (pos y) m d) where
  after_month : day_count (pos y) m 1 ≤ day_count (pos y) m d
  after_month = omega (arith, day_count-day (pos y) m d 1 civil.2.0 (omega arith))

  after_year : day_count (pos y) 1 1 ≤ day_count (pos y) m d
  after_year = omega (arith, month_first y 1 m civil.1.0, after_month)

  pub year_of-civil : year_of (days_from_civil (pos y) m d) ≡ y
  year_of-civil =
      let n = counted (λ x. int_le (day_number x 1 1) (days_from_civil (pos y) m d)) 1901 299 (y - 1900) (omega arith)
      (λ x l h. begun x 1 y m d (omega arith) (omega (arith, year_first x y (omega arith), after_year)))
      (λ x l h. not_begun x 1 y m d (omega arith) (day_count-lt_year (pos y) m d (pos x) 1 1 civil (omega arith) (omega (arith, ints)))) in
      omega (arith, n)

  pub month_of-civil : month_of y (days_from_civil (pos y) m d) ≡ m
  month_of-civil =
      let n = counted (λ x. int_le (day_number y x 1) (days_from_civil (pos y) m d)) 2 11 (m - 1) (omega (arith, civil.1.1))
      (λ x l h. begun y x y m d (omega arith) (omega (arith, month_first y x m (omega (arith, civil.1.0)), after_month)))
      (λ x l h. not_begun y x y m d (omega arith) (day_count-lt_month (pos y) m d x 1 civil (omega arith) (omega (arith, civil.1.0)))) in
      omega (arith, n, civil.1.0)

  date-civil : 1 + unsigned_abs (days_from_civil (pos y) m d -ℤ day_number y m 1) ≡ d
  date-civil =
      let first = day_number-civil y m 1 (omega arith) (omega arith) in
      let far = civil-apart y m d civil.2.0 (day_count-day (pos y) m d 1 civil.2.0 (omega arith)) in
      ap (λ z. 1 + unsigned_abs (days_from_civil (pos y) m d -ℤ z)) first ∙ far

  spelled_in-civil : spelled_in y m (days_from_civil (pos y) m d) ≡ date_spelling y m d
  unfolding spelled_in
  spelled_in-civil = ap (date_spelling y m) date-civil

  pub date_text-civil : date_text (days_from_civil (pos y) m d) ≡ date_spelling y m d
  date_text-civil =
      let z = days_from_civil (pos y) m d in
      date_text_is z ∙ ap (λ x. spelled_in x (month_of x z) z) year_of-civil ∙ ap (λ x. spelled_in y x z) month_of-civil
      ∙ spelled_in-civil

-- the date of a day has the text that is computed for the day
pub date_text-IsDate : (text : List ℕ) (day : ℤ) → IsDate text day → text ≡ date_text day
date_text-IsDate text day h = h.spelled ∙ sym (ap date_text h.counted ∙ date_text-civil h.year h.month h.date h.early h.late h.civil)

count_days : (y m d : ℕ) → days_from_civil (pos y) m d +ℤ pos 4371953 ≡ pos (day_count (pos y) m d)
unfolding days_from_civil
count_days y m d = rw day_count-epoch (omega (arith, ints))

-- it is a day of the years 1900 to 2199
pub IsDay-IsDate : (text : List ℕ) (day : ℤ) → IsDate text day → IsDay day
IsDay-IsDate text day h =
    let count = count_days h.year h.month h.date in
    let first = day_count-year 1900 (omega arith) in
    let start = after_year h.year h.month h.date h.early h.late h.civil in
    let from = year_first 1900 h.year h.early in
    let end = day_count-lt_year (pos h.year) h.month h.date (pos 2200) 1 1 h.civil (omega arith) (omega (arith, ints, h.late)) in
    let last = day_count-year 2200 (omega arith) in
    record { first = omega (arith, ints, h.counted); last = omega (arith, ints, h.counted) }

-- ---- each day has a date

-- where a number lies between two of a row, it lies between two neighbours
neighbours : (f : ℕ → ℕ) (z a n b : ℕ) → a + n ≡ b → f a ≤ z → z < f b
    → (k : ℕ) × (a ≤ k) × (k < b) × (f k ≤ z) × (z < f (suc k))
neighbours f z a zero b e low high = let same : f a ≡ f b = ap f (omega arith) in absurd (omega arith)
neighbours f z a (suc n) b e low high = elim (cases_lt z (f (suc a))) [
  | inl here ↦ (a, omega arith, omega arith, low, here)
  | inr later ↦ let r = neighbours f z (suc a) n b (omega arith) later high in (r.0, omega (arith, r.1), r.2, r.3, r.4)
]

record HasDate (count : ℕ) : Type 0 where
  year : ℕ
  month : ℕ
  date : ℕ
  early : 1900 ≤ year
  late : year ≤ 2199
  civil : IsCivilDate (pos year) month date
  counted : day_count (pos year) month date ≡ count

-- in a month of a year
HasDate-month : (z y m : ℕ) → 1900 ≤ y → y ≤ 2199 → 1 ≤ m → m ≤ 12 → day_count (pos y) m 1 ≤ z → z < day_count (pos y) (suc m) 1
    → HasDate z
HasDate-month z y m early late from to low high =
    let next : day_count (pos y) (suc m) 1 ≡ day_count (pos y) m 1 + days_in_month (pos y) m =
    rw add-one at (day_count-next_month (pos y) m from) in
    let d : ℕ = suc (z - day_count (pos y) m 1) in
    let few : d ≤ days_in_month (pos y) m = omega arith in
    record {
      year = y;
      month = m;
      date = d;
      early = early;
      late = late;
      civil = ((omega (arith, ints), omega (arith, ints)), (from, to), (omega arith, few));
      counted = omega (arith, day_count-day (pos y) m d 1 (omega arith) (omega arith));
    }

-- in a year
HasDate-year : (z y : ℕ) → 1900 ≤ y → y ≤ 2199 → day_count (pos y) 1 1 ≤ z → z < day_count (pos (suc y)) 1 1 → HasDate z
HasDate-year z y early late low high =
    let whole = day_count-day_of_year (pos y) 13 1 (omega arith) in
    let first = day_count-day_of_year (pos y) 1 1 (omega arith) in
    let next = day_count-next_year (pos y) (pos (suc y)) (omega (arith, ints)) (omega (arith, ints)) in
    let end : z < day_count (pos y) 13 1 = omega (arith, days_of_months_all (pos y)) in
    let r = neighbours (λ m. day_count (pos y) m 1) z 1 12 13 (omega arith) low end in
    HasDate-month z y r.0 early late r.1 (omega (arith, r.2)) r.3 r.4

HasDate-count : (z : ℕ) → 4346386 ≤ z → z ≤ 4455958 → HasDate z
HasDate-count z low high =
    let from : day_count (pos 1900) 1 1 ≤ z = omega (arith, day_count-year 1900 (omega arith)) in
    let to : z < day_count (pos 2200) 1 1 = omega (arith, day_count-year 2200 (omega arith)) in
    let r = neighbours (λ y. day_count (pos y) 1 1) z 1900 300 2200 (omega arith) from to in
    HasDate-year z r.0 r.1 (omega (arith, r.2)) r.3 r.4

-- so the day has a date
IsDate-count : (day : ℤ) (n : ℕ) → day +ℤ pos 4371953 ≡ pos n → (r : HasDate n) → IsDate (date_spelling r.year r.month r.date) day
IsDate-count day n e r =
    let count = count_days r.year r.month r.date in
    record {
      year = r.year;
      month = r.month;
      date = r.date;
      early = r.early;
      late = r.late;
      civil = r.civil;
      spelled = refl;
      counted = omega (arith, ints, r.counted);
    }

computed : (text : List ℕ) (day : ℤ) → IsDate text day → IsDate (date_text day) day
computed text day h = record {
  year = h.year;
  month = h.month;
  date = h.date;
  early = h.early;
  late = h.late;
  civil = h.civil;
  counted = h.counted;
  spelled = sym (date_text-IsDate text day h) ∙ h.spelled;
}

counted_day : (day : ℤ) (n : ℕ) → day +ℤ pos 4371953 ≡ pos n → HasDate n → IsDate (date_text day) day
counted_day day n e r = computed (date_spelling r.year r.month r.date) day (IsDate-count day n e r)

pub IsDate-date_text : (day : ℤ) → IsDay day → IsDate (date_text day) day
IsDate-date_text day h =
    let n : ℕ = unsigned_abs (day +ℤ pos 4371953) in
    let e : day +ℤ pos 4371953 ≡ pos n = omega (arith, ints, unsigned_abs-parts (day +ℤ pos 4371953), h.first) in
    counted_day day n e (HasDate-count n (omega (arith, ints, h.first)) (omega (arith, ints, h.last)))
