-- The places of days in two calendars that are the same up to a session.
use Rattle.std.proofs.Common.{◌≡◌, ℕ, suc, ◌<◌, ◌≤◌, ℤ, ◌<ℤ◌, ◌≤ℤ◌, List, length, get_or, take, AllPairs, Some, sym, ◌∙◌, ap, arith, inl, inr, slice_get}
use Rattle.std.proofs.lemmas.Bool.{cases_lt}
use Rattle.std.proofs.lemmas.Int.{ints}
use Rattle.std.proofs.lemmas.Option.{get_or_from_slice_get, slice_get_within}
use Rattle.pl_laws.proofs.AsOf.{slice_get-take}

abbrev pub Ascend : List ℤ → Type 0
Ascend days = AllPairs (λ a b. a <ℤ b) days

-- what is no later stands no later
pub by_place : (days : List ℤ) → Ascend days → (i d : ℕ) (x day : ℤ) → slice_get days i ≡ Some x → slice_get days d ≡ Some day → x ≤ℤ day → i ≤ d
by_place days up i d x day at_i at_d by = elim (cases_lt d i) [
  | inr l ↦ omega arith
  | inl l ↦
      let within : i < length days = slice_get_within days i x at_i in
      let rise : get_or days d x <ℤ get_or days i x = up d i x l within in
      let one : get_or days i x ≡ x = get_or_from_slice_get days i x x at_i in
      let two : get_or days d x ≡ day = get_or_from_slice_get days d day x at_d in
      absurd (omega (arith, ints))
]

module _ (days others : List ℤ) (up : Ascend days) (up' : Ascend others) (d : ℕ) (day : ℤ) (at_d : slice_get days d ≡ Some day) (same : take (suc d) days ≡ take (suc d) others) where
  -- a session up to that one has its day at the same place in both
  pub one_place : (i j : ℕ) (x : ℤ) → i ≤ d → slice_get days i ≡ Some x → slice_get others j ≡ Some x → i ≡ j
  one_place i j x near at_i at_j =
      let there : slice_get others i ≡ Some x =
      sym (slice_get-take others (suc d) i (omega arith)) ∙ ap (λ l. slice_get l i) (sym same) ∙ slice_get-take days (suc d) i (omega arith) ∙ at_i in
      let back : i ≤ j = by_place others up' i j x x there at_j (omega (arith, ints)) in
      let on : j ≤ i = by_place others up' j i x x at_j there (omega (arith, ints)) in
      omega arith
