-- The last session before a day.
use Rattle.std.proofs.Common.{◌≡◌, ℕ, zero, suc, ◌<◌, ◌≤◌, Bool, true, false, ℤ, ◌<ℤ◌, ◌≤ℤ◌, List, length, get_or, Option, Some, None, unwrap_or, position, refl, sym, ◌∙◌, ap, arith, inl, inr}
use Rattle.std.specs.List.{AllPairs}
use Rattle.std.specs.Int.RustNames.{int_lt, int_le}
use Rattle.std.proofs.lemmas.Int.{ints}
use Rattle.std.proofs.lemmas.Bool.{cases_lt}
use Rattle.std.proofs.lemmas.List.Quantifiers.{position-Some}
use Rattle.std.proofs.lemmas.Option.{slice_get-get_or, slice_get_within, get_or_from_slice_get}
use Rattle.pl_spec.proofs.Places.{nowhere}
use Rattle.pl_payouts.specs.Ratios.{last_of, last_before, sessions_before}
use Rattle.pl_payouts.specs.RatioRules.{IsLastBefore}

-- below n the elements pass the test, and from n on none does
pub record Parts (p : ℤ → Bool) (xs : List ℤ) (n : ℕ) : Type 0 where
  pub within : n ≤ length xs
  pub front : (k : ℕ) (d : ℤ) → k < n → p (get_or xs k d) ≡ true
  pub back : (k : ℕ) (d : ℤ) → n ≤ k → k < length xs → p (get_or xs k d) ≡ false

before : (d ex : ℤ) → int_le ex d ≡ false → int_lt d ex ≡ true
before d ex t = grind (arith, ints)

not_before : (d ex : ℤ) → int_le ex d ≡ true → int_lt d ex ≡ false
not_before d ex t = grind (arith, ints)

later_not_before : (d e ex : ℤ) → d <ℤ e → int_le ex d ≡ true → int_lt e ex ≡ false
later_not_before d e ex l t = grind (arith, ints)

-- where the first day that is no earlier stands, or after all of them, the days are parted
parted : (days : List ℤ) (ex : ℤ) → AllPairs (λ a b. a <ℤ b) days → (o : Option ℕ) → position (λ d. int_le ex d) days ≡ o → Parts (λ d. int_lt d ex) days (unwrap_or o (length days))
parted days ex up None e =
    record {
      within = omega arith;
      front = λ k d h. before (get_or days k d) ex (nowhere (λ d. int_le ex d) days e k d h);
      back = λ k d h l. absurd (omega arith);
    }
parted days ex up (Some n) e =
    record {
      within = omega (arith, (position-Some (λ d. int_le ex d) days n ex e).0);
      front = λ k d h. before (get_or days k d) ex ((position-Some (λ d. int_le ex d) days n d e).2 k h);
      back = λ k d h l. elim (cases_lt n k) [
        | inl lt ↦ later_not_before (get_or days n d) (get_or days k d) ex (up n k d lt l) (position-Some (λ d. int_le ex d) days n d e).1
        | inr ge ↦ (let same : k ≡ n = omega arith in rw same (not_before (get_or days n d) ex (position-Some (λ d. int_le ex d) days n d e).1))
      ];
    }

-- ---- in plain words

module _ (days : List ℤ) (ex : ℤ) (up : AllPairs (λ a b. a <ℤ b) days) where
  parts : Parts (λ d. int_lt d ex) days (sessions_before days ex)
  parts = parted days ex up (position (λ d. int_le ex d) days) refl

  lt_if : (d : ℤ) → int_lt d ex ≡ true → d <ℤ ex
  lt_if d t = grind (arith, ints)

  le_if : (d : ℤ) → int_lt d ex ≡ false → ex ≤ℤ d
  le_if d t = grind (arith, ints)

  not_both : (d : ℤ) → d <ℤ ex → ex ≤ℤ d → ⊥
  not_both d l h = omega (arith, ints)

  pub last-is : (s : ℕ) → last_before days ex ≡ Some s → IsLastBefore days ex s
  unfolding last_before
  last-is s e = here (sessions_before days ex) parts e
    where
      here : (n : ℕ) → Parts (λ d. int_lt d ex) days n → last_of n ≡ Some s → IsLastBefore days ex s
      here zero h e = absurd (let bad : None ≡ Some s = e in cc)
      here (suc n) h e =
          let same : n ≡ s = (let one : Some n ≡ Some s = e in cc) in
          let inside : s < length days = omega (arith, h.within) in
          record {
            day = get_or days s ex;
            there = slice_get-get_or days s ex inside;
            before = lt_if (get_or days s ex) (h.front s ex (omega arith));
            last = λ t later l at. le_if later (ap (λ d. int_lt d ex) (sym (get_or_from_slice_get days t later ex at)) ∙ h.back t ex (omega arith) (slice_get_within days t later at));
          }

  pub last-none : last_before days ex ≡ None → (s : ℕ) → ¬ IsLastBefore days ex s
  unfolding last_before
  last-none e s is = here (sessions_before days ex) parts e
    where
      here : (n : ℕ) → Parts (λ d. int_lt d ex) days n → last_of n ≡ None → ⊥
      here zero h e =
          not_both is.day is.before (le_if is.day (ap (λ d. int_lt d ex) (sym (get_or_from_slice_get days s is.day ex is.there)) ∙ h.back s ex (omega arith) (slice_get_within days s is.day is.there)))
      here (suc n) h e = let bad : Some n ≡ None = e in cc

  pub last-one : (s t : ℕ) → IsLastBefore days ex s → IsLastBefore days ex t → s ≡ t
  last-one s t p q = elim (cases_lt s t) [
    | inl lt ↦ absurd (not_both q.day q.before (p.last t q.day lt q.there))
    | inr ge ↦ elim (cases_lt t s) [
      | inl lt ↦ absurd (not_both p.day p.before (q.last s p.day lt p.there))
      | inr le ↦ omega arith
    ]
  ]
