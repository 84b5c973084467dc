-- The first day of a period in days that ascend.
use Rattle.std.proofs.Common.{◌≡◌, ℕ, ◌+◌, ◌<◌, ◌≤◌, true, false, ℤ, pos, ◌<ℤ◌, ◌≤ℤ◌, List, length, get_or, Some, sym, ap, arith, slice_get}
use Rattle.std.specs.List.{position_or_len}
use Rattle.std.specs.Int.RustNames.{int_lt}
use Rattle.std.specs.Ordering.{int_eq}
use Rattle.std.proofs.lemmas.Int.{ints}
use Rattle.std.proofs.lemmas.Option.{slice_get-get_or}
use Rattle.pl_spec.specs.declared.Frequency.{Frequency}
use Rattle.pl_spec.specs.Periods.{period, same_period, period_start}
use Rattle.pl_spec.proofs.Places.{first_at}
use Rattle.pl_spec.proofs.PeriodsRise.{period-rises}
use Rattle.pl_calendar.specs.Days.{AreDays}
use Rattle.pl_calendar.proofs.DaySearch.{not_later}

-- the period of the day at a place
abbrev pub period_at : Frequency → List ℤ → ℕ → ℤ
period_at f days k = period f (get_or days k (pos 0))

-- the first day of the period of the day at place i stands at low or after it, and at high or before it
pub record IsBracket (f : Frequency) (days : List ℤ) (i low high : ℕ) : Type 0 where
  pub order : low ≤ high
  pub within : high ≤ i
  pub before : (k : ℕ) → k < low → period_at f days k <ℤ period_at f days i
  pub from : period_at f days i ≤ℤ period_at f days high

module _ (f : Frequency) (days : List ℤ) (up : AreDays days) (i : ℕ) (inside : i < length days) where
  rise : (j k : ℕ) → j ≤ k → k < length days → period_at f days j ≤ℤ period_at f days k
  rise j k h l = period-rises f _ _ (not_later days up j k (pos 0) h l)

  earlier : (a b : ℤ) → int_lt a b ≡ true → a <ℤ b
  earlier a b t = grind (arith, ints)

  below : (a b c : ℤ) → a ≤ℤ b → b <ℤ c → a <ℤ c
  below a b c h l = omega (arith, ints)

  pub raised : (low high middle : ℕ) → IsBracket f days i low high → middle < high → int_lt (period_at f days middle) (period_at f days i) ≡ true → IsBracket f days i (middle + 1) high
  raised low high middle is h t = record {
    order = omega arith;
    within = is.within;
    before = λ k l. below _ _ _ (rise k middle (omega arith) (let w = is.within in omega arith)) (earlier _ _ t);
    from = is.from;
  }

  equal : (a b : ℤ) → a ≤ℤ b → b ≤ℤ a → int_eq a b ≡ true
  equal a b h l = grind (arith, ints)

  other : (a b : ℤ) → b <ℤ a → int_eq a b ≡ false
  other a b h = grind (arith, ints)

  pub met : (low high : ℕ) → IsBracket f days i low high → high ≤ low → pos low ≡ period_start f days (pos i)
  unfolding period_start
  met low high is h =
      let same : high ≡ low = (let o = is.order in omega arith) in
      let from : period_at f days i ≤ℤ period_at f days low = rw same at is.from in
      let to : period_at f days low ≤ℤ period_at f days i = rise low i (let o = is.order in let w = is.within in omega arith) inside in
      let first : position_or_len (same_period f (get_or days i (pos 0))) days ≡ low =
      first_at (same_period f (get_or days i (pos 0))) days low (pos 0) (let o = is.order in let w = is.within in omega arith) (equal _ _ from to) (λ k l. other _ _ (is.before k l)) in
      let at : slice_get days i ≡ Some (get_or days i (pos 0)) = slice_get-get_or days i (pos 0) inside in
      rw at (ap pos (sym first))
