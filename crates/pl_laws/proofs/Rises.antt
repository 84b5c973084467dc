-- Later sessions are of later starts, and a term reaches no farther back for a later session.
use Rattle.std.proofs.Common.{◌≡◌, ℕ, zero, suc, ◌<◌, ◌≤◌, true, false, ℤ, pos, negsuc, ◌<ℤ◌, ◌≤ℤ◌, List, [], ◌∷◌, length, get_or, AllPairs, Option, Some, None, option_map, unwrap_or, refl, sym, ◌∙◌, arith, inl, inr, slice_get}
use Rattle.std.proofs.lemmas.Bool.{cases_lt}
use Rattle.std.proofs.lemmas.Int.{ints}
use Rattle.std.proofs.lemmas.List.Sums.{fails_before_first, passes_at_first}
use Rattle.std.proofs.lemmas.Option.{get_or_from_slice_get, slice_get_within}
use Rattle.pl_spec.specs.declared.Frequency.{Frequency}
use Rattle.pl_spec.specs.Periods.{period, same_period, first_session, period_start}
use Rattle.pl_spec.proofs.PeriodsRise.{period-rises}
use Rattle.pl_spec.proofs.Signed.{int_eq-true, eq-int_eq, int_eq-itself}
use Rattle.pl_laws.proofs.Starts.{first_within, start-within}

-- after no session there is none
gone : (d e : ℕ) (days : List ℤ) (y : ℤ) → d ≤ e → slice_get days d ≡ None → slice_get days e ≡ Some y → ⊥
gone d e [] y h at_d at_e = cc
gone zero e (x ∷ xs) y h at_d at_e = cc
gone (suc d) zero (x ∷ xs) y h at_d at_e = absurd (omega arith)
gone (suc d) (suc e) (x ∷ xs) y h at_d at_e = gone d e xs y (omega arith) at_d at_e

module _ (f : Frequency) (days : List ℤ) (rise : AllPairs (λ a b. a <ℤ b) days) where
  day_at : ℕ → ℤ
  day_at i = get_or days i (pos 0)

  days-rise : (i j : ℕ) → i ≤ j → j < length days → day_at i ≤ℤ day_at j
  unfolding day_at
  days-rise i j h l = elim (cases_lt i j) [
    | inl p ↦ let r : get_or days i (pos 0) <ℤ get_or days j (pos 0) = rise i j (pos 0) p l in omega (arith, ints)
    | inr p ↦ let same : i ≡ j = omega arith in rw same (omega (arith, ints))
  ]

  first-rises : (d e : ℕ) (x y : ℤ) → d ≤ e → slice_get days d ≡ Some x → slice_get days e ≡ Some y → first_session f days x ≤ first_session f days y
  unfolding day_at
  first-rises d e x y h at_d at_e = elim (cases_lt (first_session f days y) (first_session f days x)) [
    | inr fine ↦ fine
    | inl less ↦
        let in_d : d < length days = slice_get_within days d x at_d in
        let in_e : e < length days = slice_get_within days e y at_e in
        let i_d : first_session f days x ≤ d = first_within (same_period f x) days d x at_d (int_eq-itself (period f x)) in
        let is_x : get_or days d (pos 0) ≡ x = get_or_from_slice_get days d x (pos 0) at_d in
        let is_y : get_or days e (pos 0) ≡ y = get_or_from_slice_get days e y (pos 0) at_e in
        let j : ℕ = first_session f days y in
        let z : ℤ = get_or days j (pos 0) in
        let inside : first_session f days y < length days = omega arith in
        let of_y : period f y ≡ period f z = int_eq-true _ _ (passes_at_first (same_period f y) days (pos 0) inside) in
        let z_x : z ≤ℤ x = before_x j less i_d in_d is_x in
        let x_y : x ≤ℤ y = before_y in_e is_x is_y in
        let p : period f z ≤ℤ period f x = period-rises f z x z_x in
        let q : period f x ≤ℤ period f y = period-rises f x y x_y in
        let r : period f y ≤ℤ period f z = at_most (period f y) (period f z) of_y in
        let equal : period f x ≡ period f z = meets (period f x) (period f y) (period f z) p q r in
        let yes : same_period f x z ≡ true = eq-int_eq _ _ equal in
        let no : same_period f x z ≡ false = fails_before_first (same_period f x) days j (pos 0) less in
        let bad : true ≡ false = sym yes ∙ no in cc
  ]
    where
      before_x : (j : ℕ) → j < first_session f days x → first_session f days x ≤ d → d < length days → get_or days d (pos 0) ≡ x → get_or days j (pos 0) ≤ℤ x
      before_x j l m within is = let r : get_or days j (pos 0) ≤ℤ get_or days d (pos 0) = days-rise j d (omega arith) within in rw is at r

      before_y : e < length days → get_or days d (pos 0) ≡ x → get_or days e (pos 0) ≡ y → x ≤ℤ y
      before_y within is is' = let r : get_or days d (pos 0) ≤ℤ get_or days e (pos 0) = days-rise d e h within in rw (is, is') at r

      at_most : (a b : ℤ) → a ≡ b → a ≤ℤ b
      at_most a b e = omega (arith, ints)

      meets : (a b c : ℤ) → c ≤ℤ a → a ≤ℤ b → b ≤ℤ c → a ≡ c
      meets a b c p q r = omega (arith, ints)

  pub start-rises : (d e : ℤ) → d ≤ℤ e → period_start f days d ≤ℤ period_start f days e
  unfolding period_start
  start-rises (negsuc d) (negsuc e) h = h
  start-rises (negsuc d) (pos e) h = below (slice_get days e)
    where
      below : (o : Option ℤ) → negsuc d ≤ℤ unwrap_or (option_map (λ day. pos (first_session f days day)) o) (pos e)
      below None = omega (arith, ints)
      below (Some day) = omega (arith, ints)
  start-rises (pos d) (negsuc e) h = absurd (omega (arith, ints))
  start-rises (pos d) (pos e) h = here (slice_get days d) (slice_get days e) refl refl (start-within f days (pos d))
    where
      here : (o p : Option ℤ) → slice_get days d ≡ o → slice_get days e ≡ p → period_start f days (pos d) ≤ℤ pos d
          → unwrap_or (option_map (λ day. pos (first_session f days day)) o) (pos d) ≤ℤ unwrap_or (option_map (λ day. pos (first_session f days day)) p) (pos e)
      here (Some x) (Some y) at_d at_e w = let l : first_session f days x ≤ first_session f days y = first-rises d e x y (omega (arith, ints)) at_d at_e in omega (arith, ints)
      here None (Some y) at_d at_e w = absurd (gone d e days y (omega (arith, ints)) at_d at_e)
      here None None at_d at_e w = h
      here (Some x) None at_d at_e w =
          let l : first_session f days x ≤ d = first_within (same_period f x) days d x at_d (int_eq-itself (period f x)) in omega (arith, ints)
