-- The years of days, and the ten bytes of a date.
use Rattle.std.proofs.Common.{◌≡◌, ℕ, List, length, get_or, ◌+◌, ◌-◌, ◌*◌, ◌/◌, ◌%◌, ◌<◌, ◌≤◌, pos, neg_ℤ, ◌≤ℤ◌, unsigned_abs, refl, ◌∙◌, ap, arith}
use Rattle.std.proofs.lemmas.Int.{ints, by_lt_z}
use Rattle.std.proofs.lemmas.Slice.Eq.{text_from_reads}
use Rattle.jiff_core.specs.declared.civil.date.Date.{Date}
use Rattle.jiff_core.specs.Calendar.{day_count, days_from_civil, IsCivilDate}
use Rattle.jiff_core.specs.Date.{epoch_day}
use Rattle.jiff_core.proofs.CalendarLemmas.{days_from_civil-day_count, day_count-lt_year}
use Rattle.jiff_core.proofs.DateLemmas.{civil}
use Rattle.jiff_core.proofs.MarchLemmas.{day_count-early, day_count-late}
use Rattle.jiff_core.proofs.SignedLemmas.{unsigned_abs-parts}
use Rattle.pl_spec.specs.Dates.{date_spelling, month_of}
use Rattle.pl_spec.specs.Periods.{month_number}
use Rattle.pl_spec.proofs.DatesRead.{date_spelling-bytes}
use Rattle.pl_spec.proofs.DatesWritten.{year_of-civil, month_of-civil}
use Rattle.pl_fixed.specs.Pairs.{IsPairAt}

day_count-first : day_count (pos 1900) 1 1 ≡ 4_346_386
day_count-first = day_count-early _ 11899 1 1 refl (omega arith) (omega arith) (omega arith)

day_count-last : day_count (pos 2199) 12 31 ≡ 4_455_958
day_count-last = day_count-late _ 12199 12 31 refl (omega arith) (omega arith) (omega arith)

last_civil : IsCivilDate (pos 2199) 12 31
last_civil = ((omega (arith, ints), omega (arith, ints)), (omega arith, omega arith), (omega arith, omega arith))

pub year_early : (d : Date) → neg_ℤ (pos 25_567) ≤ℤ epoch_day d → pos 1900 ≤ℤ d.year
year_early d h =
    by_lt_z d.year (pos 1900)
    (λ before.
    let count = days_from_civil-day_count d.year d.month d.day in
    let less = day_count-lt_year d.year d.month d.day (pos 1900) 1 1 (civil d) (omega arith) before in
    absurd (omega (arith, ints, day_count-first)))
    (λ after. after)

pub year_late : (d : Date) → epoch_day d ≤ℤ pos 84_005 → d.year ≤ℤ pos 2199
year_late d h =
    by_lt_z (pos 2199) d.year
    (λ after.
    let count = days_from_civil-day_count d.year d.month d.day in
    let more = day_count-lt_year (pos 2199) 12 31 d.year d.month d.day last_civil d.day_in.0 after in
    absurd (omega (arith, ints, day_count-last)))
    (λ before. before)

months_of : (y m d : ℕ) → 1900 ≤ y → y ≤ 2199 → IsCivilDate (pos y) m d → month_number (days_from_civil (pos y) m d) ≡ 12 * y + (m - 1)
unfolding month_number
months_of y m d early late is =
    let day = days_from_civil (pos y) m d in
    ap (λ x. 12 * x + (month_of x day - 1)) (year_of-civil y m d early late is) ∙ ap (λ x. 12 * y + (x - 1)) (month_of-civil y m d early late is)

-- the month of a day is that of its date
pub month_number-date : (d : Date) → pos 1900 ≤ℤ d.year → d.year ≤ℤ pos 2199 → month_number (epoch_day d) ≡ 12 * unsigned_abs d.year + (d.month - 1)
month_number-date d early late =
    let y : ℕ = unsigned_abs d.year in
    let e : d.year ≡ pos y = omega (arith, ints, unsigned_abs-parts d.year) in
    let is : IsCivilDate (pos y) d.month d.day = rw e at (civil d) in
    ap (λ year. month_number (days_from_civil year d.month d.day)) e ∙ months_of y d.month d.day (omega (arith, ints)) (omega (arith, ints)) is

-- ten bytes that hold the digits of a date and its dashes are its spelling
pub date_spelling-pairs : (bytes : List ℕ) (century rest m d : ℕ) → length bytes ≡ 10 → get_or bytes 4 0 ≡ 45 → get_or bytes 7 0 ≡ 45
    → IsPairAt bytes 0 century → IsPairAt bytes 2 rest → IsPairAt bytes 5 m → IsPairAt bytes 8 d
    → bytes ≡ date_spelling (century * 100 + rest) m d
date_spelling-pairs bytes century rest m d len dash again c r mm dd =
    let y = century * 100 + rest in
    let y0 : get_or bytes 0 0 ≡ 48 + y / 10 / 10 / 10 % 10 = omega (arith, c.tens, c.below, r.below) in
    let y1 : get_or bytes 1 0 ≡ 48 + y / 10 / 10 % 10 = omega (arith, c.ones, c.below, r.below) in
    let y2 : get_or bytes 2 0 ≡ 48 + y / 10 % 10 = omega (arith, r.tens, r.below) in
    let y3 : get_or bytes 3 0 ≡ 48 + y % 10 = omega (arith, r.ones, r.below) in
    let m0 : get_or bytes 5 0 ≡ 48 + m / 10 % 10 = omega (arith, mm.tens, mm.below) in
    let d0 : get_or bytes 8 0 ≡ 48 + d / 10 % 10 = omega (arith, dd.tens, dd.below) in
    rw (date_spelling-bytes y m d)
    (text_from_reads bytes _ len (y0, (y1, (y2, (y3, (dash, (m0, (mm.ones, (again, (d0, (dd.ones, tt)))))))))))

-- and the spelling of a date holds them
pub record IsSpelled (bytes : List ℕ) (y m d : ℕ) : Type 0 where
  pub size : length bytes ≡ 10
  pub dash : get_or bytes 4 0 ≡ 45
  pub again : get_or bytes 7 0 ≡ 45
  pub century : IsPairAt bytes 0 (y / 100)
  pub rest : IsPairAt bytes 2 (y % 100)
  pub month : IsPairAt bytes 5 m
  pub day : IsPairAt bytes 8 d

pub IsSpelled-date_spelling : (bytes : List ℕ) (y m d : ℕ) → y < 10000 → m < 100 → d < 100
    → bytes ≡ date_spelling y m d → IsSpelled bytes y m d
IsSpelled-date_spelling bytes y m d hy hm hd e =
    rw (e, date_spelling-bytes y m d) (record {
      size = refl;
      dash = refl;
      again = refl;
      century = record { below = omega arith; tens = omega arith; ones = omega arith };
      rest = record { below = omega arith; tens = omega arith; ones = omega arith };
      month = record { below = hm; tens = omega arith; ones = refl };
      day = record { below = hd; tens = omega arith; ones = refl };
    })
