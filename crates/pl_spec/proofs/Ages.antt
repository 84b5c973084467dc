-- Days from Monday to Friday are counted by weeks.
use Rattle.std.proofs.Common.{◌≡◌, ℕ, zero, suc, ◌+◌, ◌*◌, ◌/◌, ◌%◌, ◌<◌, ◌≤◌, nat_lt, min, Bool, true, false, cond, ℤ, pos, ◌+ℤ◌, ◌-ℤ◌, ◌≤ℤ◌, neg_ℤ, refl, sym, ◌∙◌, ap, arith, inl, inr}
use Rattle.std.specs.List.{count_by, range_with_len}
use Rattle.std.specs.Int.RustNames.{unsigned_abs}
use Rattle.std.proofs.lemmas.Int.{ints}
use Rattle.std.proofs.lemmas.List.Sums.{sum_by_push}
use Rattle.std.proofs.lemmas.Bool.{cases_lt}
use Rattle.std.proofs.lemmas.Bool.Decides.{nat_tests}
use Rattle.std.proofs.lemmas.Nat.{div-add-mod', div-mul-add}
use Rattle.std.proofs.Math.Nat.{mod-lt, add-zero}
use Rattle.jiff_core.proofs.SignedLemmas.{unsigned_abs-parts}
use Rattle.pl_spec.proofs.Ranges.{range-more}
use Rattle.pl_spec.specs.Dates.{IsDay}
use Rattle.pl_spec.specs.Ages.{since_monday, is_weekday, days_between, weekdays_between, weekdays_before, WeekdaysAreCounted}

-- the day after: the next of its week, or the first of the next week
after-in_week : (n : ℕ) → n % 7 < 6 → (suc n / 7 ≡ n / 7) × (suc n % 7 ≡ suc (n % 7))
after-in_week n h =
    let whole : n / 7 * 7 + n % 7 ≡ n = div-add-mod' n 7 in
    let next : suc n / 7 * 7 + suc n % 7 ≡ suc n = div-add-mod' (suc n) 7 in
    let low : suc n % 7 < 7 = mod-lt (suc n) (omega arith) in
    (omega arith, omega arith)

after-week : (n : ℕ) → n % 7 ≡ 6 → (suc n / 7 ≡ suc (n / 7)) × (suc n % 7 ≡ 0)
after-week n h =
    let whole : n / 7 * 7 + n % 7 ≡ n = div-add-mod' n 7 in
    let next : suc n / 7 * 7 + suc n % 7 ≡ suc n = div-add-mod' (suc n) 7 in
    let low : suc n % 7 < 7 = mod-lt (suc n) (omega arith) in
    (omega arith, omega arith)

rises : (n : ℕ) → is_weekday n ≡ true → weekdays_before (suc n) ≡ suc (weekdays_before n)
rises n e =
    let early : n % 7 < 5 = grind (arith, nat_tests) in
    let next = after-in_week n (omega arith) in
    rw (next.0, next.1) (omega arith)

rests : (n : ℕ) → is_weekday n ≡ false → weekdays_before (suc n) ≡ weekdays_before n
rests n e = elim (cases_lt (n % 7) 6) [
  | inl lt ↦ saturday lt
  | inr ge ↦ sunday ge
]
  where
    saturday : n % 7 < 6 → weekdays_before (suc n) ≡ weekdays_before n
    saturday lt =
        let five : n % 7 ≡ 5 = grind (arith, nat_tests) in
        let next = after-in_week n lt in
        rw (next.0, next.1, five) refl

    sunday : 6 ≤ n % 7 → weekdays_before (suc n) ≡ weekdays_before n
    sunday ge =
        let low : n % 7 < 7 = mod-lt n (omega arith) in
        let six : n % 7 ≡ 6 = omega arith in
        let next = after-week n six in
        rw (next.0, next.1, six) (omega arith)

-- ---- between two days

counted : (n : ℕ) (b : Bool) → is_weekday n ≡ b → weekdays_before n + cond b 1 0 ≡ weekdays_before (suc n)
counted n true e = let up : weekdays_before (suc n) ≡ suc (weekdays_before n) = rises n e in omega (arith, up)
counted n false e = let up : weekdays_before (suc n) ≡ weekdays_before n = rests n e in omega (arith, up)

-- one day more
more : (n many : ℕ) → count_by is_weekday (range_with_len n (many + 1)) ≡ count_by is_weekday (range_with_len n many) + cond (is_weekday (n + many)) 1 0
more n many = ap (count_by is_weekday) (range-more n many) ∙ sum_by_push (λ k. cond (is_weekday k) 1 0) (range_with_len n many) (n + many)

from : (n many : ℕ) → weekdays_before n + count_by is_weekday (range_with_len n many) ≡ weekdays_before (n + many)
from n zero = rw (add-zero n) (omega arith)
from n (suc many) =
    let before : weekdays_before n + count_by is_weekday (range_with_len n many) ≡ weekdays_before (n + many) = from n many in
    let last : weekdays_before (n + many) + cond (is_weekday (n + many)) 1 0 ≡ weekdays_before (suc (n + many)) = counted (n + many) (is_weekday (n + many)) refl in
    let same : suc (n + many) ≡ n + suc many = omega arith in
    let one : many + 1 ≡ suc many = omega arith in
    let both : weekdays_before n + count_by is_weekday (range_with_len n (many + 1)) ≡ weekdays_before (suc (n + many)) = rw (more n many) (omega (arith, before, last)) in
    (rw (one, same) at both)

later : (known day : ℤ) → neg_ℤ (pos 25567) ≤ℤ known → known ≤ℤ day → since_monday known + days_between known day ≡ since_monday day
later known day h l =
    omega (arith, ints, unsigned_abs-parts (known +ℤ pos 25567), unsigned_abs-parts (day +ℤ pos 25567), unsigned_abs-parts (day -ℤ known))

difference : (known day : ℤ) → IsDay known → known ≤ℤ day → weekdays_before (since_monday known) + weekdays_between known day ≡ weekdays_before (since_monday day)
unfolding weekdays_between
difference known day h l =
    from (since_monday known) (days_between known day) ∙ ap weekdays_before (later known day h.first l)

pub weekdays_are_counted : WeekdaysAreCounted
weekdays_are_counted = record { difference = difference; rises = rises; rests = rests }
