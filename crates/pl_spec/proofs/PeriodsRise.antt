-- Later days are of later periods.
use Rattle.std.proofs.Common.{◌≡◌, ℕ, ◌+◌, ◌-◌, ◌*◌, ◌/◌, ◌<◌, ◌≤◌, Bool, true, false, cond, ℤ, pos, negsuc, ◌≤ℤ◌, ◌+ℤ◌, List, [], ◌∷◌, length, filter, refl, sym, ◌∙◌, arith, inl, inr}
use Rattle.std.specs.List.{range_with_len}
use Rattle.std.specs.Int.{int_div_euclid}
use Rattle.std.specs.Int.RustNames.{int_le}
use Rattle.std.proofs.lemmas.Bool.{cases_lt}
use Rattle.std.proofs.lemmas.Int.{ints}
use Rattle.pl_spec.specs.declared.Frequency.{Frequency}
use Rattle.pl_spec.specs.declared.Frequency.TheVariants.{YearStart, QuarterStart, MonthStart, WeekStart}
use Rattle.pl_spec.specs.Dates.{day_number}
use Rattle.pl_spec.specs.Periods.{month_number, period}
use Rattle.pl_spec.proofs.Lists.{filter-few}

more_pass : {X : Type 0} (p q : X → Bool) → ((x : X) → p x ≡ true → q x ≡ true) → (xs : List X) → length (filter p xs) ≤ length (filter q xs)
more_pass p q h [] = omega arith
more_pass p q h (x ∷ xs) = here (p x) (q x) refl refl (more_pass p q h xs)
  where
    here : (b c : Bool) → p x ≡ b → q x ≡ c → length (filter p xs) ≤ length (filter q xs) → length (cond b (x ∷ filter p xs) (filter p xs)) ≤ length (cond c (x ∷ filter q xs) (filter q xs))
    here true true e f rest = omega arith
    here true false e f rest = let t : q x ≡ true = h x e in let bad : true ≡ false = sym t ∙ f in cc
    here false true e f rest = omega arith
    here false false e f rest = rest

later_too : (n x y : ℤ) → x ≤ℤ y → int_le n x ≡ true → int_le n y ≡ true
later_too n x y h e = grind (arith, ints)

-- how many years, and months of a year, have begun
years : ℤ → ℕ
years day = length (filter (λ y. int_le (day_number y 1 1) day) (range_with_len 1901 299))

months : ℕ → ℤ → ℕ
months y day = length (filter (λ m. int_le (day_number y m 1) day) (range_with_len 2 11))

years-rise : (x y : ℤ) → x ≤ℤ y → years x ≤ years y
unfolding years
years-rise x y h = more_pass _ _ (λ n e. later_too (day_number n 1 1) x y h e) (range_with_len 1901 299)

months-rise : (n : ℕ) (x y : ℤ) → x ≤ℤ y → months n x ≤ months n y
unfolding months
months-rise n x y h = more_pass _ _ (λ m e. later_too (day_number n m 1) x y h e) (range_with_len 2 11)

months-few : (n : ℕ) (x : ℤ) → months n x ≤ 11
unfolding months
months-few n x = filter-few (λ m. int_le (day_number n m 1) x) (range_with_len 2 11)

month_number-is : (x : ℤ) → month_number x ≡ 12 * (1900 + years x) + ((1 + months (1900 + years x) x) - 1)
unfolding month_number years months
month_number-is x = refl

ordered : (p q m n : ℕ) → p < q → m ≤ 11 → 12 * (1900 + p) + ((1 + m) - 1) ≤ 12 * (1900 + q) + ((1 + n) - 1)
ordered p q m n h l = omega arith

same_year : (p m n : ℕ) → m ≤ n → 12 * (1900 + p) + ((1 + m) - 1) ≤ 12 * (1900 + p) + ((1 + n) - 1)
same_year p m n h = omega arith

month_number-rises : (x y : ℤ) → x ≤ℤ y → month_number x ≤ month_number y
month_number-rises x y h = rw (month_number-is x, month_number-is y) (elim (cases_lt (years x) (years y)) [
  | inl earlier ↦ ordered (years x) (years y) (months (1900 + years x) x) (months (1900 + years y) y) earlier (months-few (1900 + years x) x)
  | inr not_earlier ↦
      let up : years x ≤ years y = years-rise x y h in
      let same : years y ≡ years x = omega arith in
      rw same (same_year (years x) (months (1900 + years x) x) (months (1900 + years x) y) (months-rise (1900 + years x) x y h))
])

by_seven : (a b : ℤ) → a ≤ℤ b → int_div_euclid a (pos 7) ≤ℤ int_div_euclid b (pos 7)
by_seven (pos a) (pos b) h = let l : a ≤ b = omega (arith, ints) in let d : a / 7 ≤ b / 7 = omega arith in omega (arith, ints)
by_seven (pos a) (negsuc b) h = absurd (omega (arith, ints))
by_seven (negsuc a) (pos b) h = omega (arith, ints)
by_seven (negsuc a) (negsuc b) h = let l : b ≤ a = omega (arith, ints) in let d : b / 7 ≤ a / 7 = omega arith in omega (arith, ints)

parts-rise : (m n k : ℕ) → m ≤ n → (m / 12 ≤ n / 12) × (m / 3 ≤ n / 3)
parts-rise m n k h = (omega arith, omega arith)

pub period-rises : (f : Frequency) (x y : ℤ) → x ≤ℤ y → period f x ≤ℤ period f y
period-rises YearStart x y h = let l = (parts-rise (month_number x) (month_number y) 0 (month_number-rises x y h)).0 in omega (arith, ints, l)
period-rises QuarterStart x y h = let l = (parts-rise (month_number x) (month_number y) 0 (month_number-rises x y h)).1 in omega (arith, ints, l)
period-rises MonthStart x y h = let l : month_number x ≤ month_number y = month_number-rises x y h in omega (arith, ints)
period-rises WeekStart x y h = by_seven (x +ℤ pos 3) (y +ℤ pos 3) (omega (arith, ints))
