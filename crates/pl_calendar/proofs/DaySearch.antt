-- Places in days that ascend.
use Rattle.std.proofs.Common.{◌≡◌, ℕ, ◌<◌, ◌≤◌, true, false, not, ℤ, ◌<ℤ◌, ◌≤ℤ◌, List, length, get_or, Some, None, refl, sym, ◌∙◌, ap, arith, nat_lt, inl, inr}
use Rattle.std.specs.List.{position, position_or_len}
use Rattle.std.specs.List.Sorted.{IsPartitionPoint, IsPartitionedBy}
use Rattle.std.specs.Int.RustNames.{int_lt, int_le}
use Rattle.std.specs.Ordering.{int_eq}
use Rattle.std.proofs.lemmas.Int.{ints}
use Rattle.std.proofs.lemmas.Bool.{cases_lt}
use Rattle.std.proofs.lemmas.Bool.Decides.{nat_tests}
use Rattle.std.proofs.lemmas.List.Quantifiers.{position-Some}
use Rattle.pl_spec.proofs.Places.{prefix_from_point, prefix_same, is_at, is_nowhere, nowhere}
use Rattle.pl_calendar.specs.Days.{AreDays}

-- from the place on no day is earlier
abbrev pub IsPlace : ℤ → List ℤ → ℕ → Type 0
IsPlace day xs n = IsPartitionPoint (λ d. int_lt d day ≡ true) (λ d. int_lt d day ≡ false) xs n

not_le : (day d : ℤ) → not (int_le day d) ≡ int_lt d day
not_le day d = grind (arith, ints)

first_place : (day : ℤ) (xs : List ℤ) (n : ℕ) → n ≤ length xs → IsPlace day xs n → position_or_len (λ d. int_le day d) xs ≡ n
first_place day xs n h point = prefix_same (λ d. not (int_le day d)) (λ d. int_lt d day) (not_le day) xs ∙ prefix_from_point (λ d. int_lt d day) xs n h point

pub found_first : (day : ℤ) (xs : List ℤ) (n : ℕ) → n < length xs → IsPlace day xs n → Some n ≡ position (λ d. int_le day d) xs
found_first day xs n h point =
    let e : position_or_len (λ d. int_le day d) xs ≡ n = first_place day xs n (omega arith) point in
    let t : nat_lt n (length xs) ≡ true = grind (arith, nat_tests) in rw (e, t) refl

pub found_none : (day : ℤ) (xs : List ℤ) (n : ℕ) → n ≤ length xs → length xs ≤ n → IsPlace day xs n → None ≡ position (λ d. int_le day d) xs
found_none day xs n h g point =
    let e : position_or_len (λ d. int_le day d) xs ≡ n = first_place day xs n h point in
    let t : nat_lt n (length xs) ≡ false = grind (arith, nat_tests) in rw (e, t) refl

pub not_later : (xs : List ℤ) → AreDays xs → (i j : ℕ) (d : ℤ) → i ≤ j → j < length xs → get_or xs i d ≤ℤ get_or xs j d
not_later xs up i j d h l = elim (cases_lt i j) [
  | inl p ↦ before _ _ (up.ascend i j d p l)
  | inr p ↦ let same : i ≡ j = omega arith in equal _ _ (ap (λ k. get_or xs k d) same)
]
  where
    before : (a b : ℤ) → a <ℤ b → a ≤ℤ b
    before a b h = omega (arith, ints)

    equal : (a b : ℤ) → a ≡ b → a ≤ℤ b
    equal a b h = omega (arith, ints)

pub parted : (day : ℤ) (xs : List ℤ) → AreDays xs → IsPartitionedBy (λ d. int_lt d day) xs
parted day xs up i j d h l t = at_most (get_or xs i d) (get_or xs j d) (not_later xs up i j d h l) t
  where
    at_most : (a b : ℤ) → a ≤ℤ b → int_lt b day ≡ true → int_lt a day ≡ true
    at_most a b h t = grind (arith, ints)

-- ---- the day itself

earlier : (day x : ℤ) → int_le day x ≡ false → int_eq x day ≡ false
earlier day x h = grind (arith, ints)

pub found_index : (day : ℤ) (xs : List ℤ) (i : ℕ) (d : ℤ) → AreDays xs → position (λ x. int_le day x) xs ≡ Some i → int_eq (get_or xs i d) day ≡ true → Some i ≡ position (λ x. int_eq x day) xs
found_index day xs i d up e same =
    let p = position-Some (λ x. int_le day x) xs i d e in
    sym (is_at (λ x. int_eq x day) xs i d p.0 same (λ k h. earlier day (get_or xs k d) (p.2 k h)))

pub found_other : (day : ℤ) (xs : List ℤ) (i : ℕ) (d : ℤ) → AreDays xs → position (λ x. int_le day x) xs ≡ Some i → int_eq (get_or xs i d) day ≡ false → None ≡ position (λ x. int_eq x day) xs
found_other day xs i d up e other =
    let p = position-Some (λ x. int_le day x) xs i d e in
    sym (is_nowhere (λ x. int_eq x day) xs d (λ k h. elim (cases_lt k i) [
      | inl l ↦ earlier day (get_or xs k d) (p.2 k l)
      | inr g ↦ after (get_or xs i d) (get_or xs k d) p.1 other (not_later xs up i k d g h)
    ]))
  where
    after : (a b : ℤ) → int_le day a ≡ true → int_eq a day ≡ false → a ≤ℤ b → int_eq b day ≡ false
    after a b h n l = grind (arith, ints)

pub found_nowhere : (day : ℤ) (xs : List ℤ) → None ≡ position (λ x. int_le day x) xs → None ≡ position (λ x. int_eq x day) xs
found_nowhere day xs e = sym (is_nowhere (λ x. int_eq x day) xs day (λ k h. earlier day (get_or xs k day) (nowhere (λ x. int_le day x) xs (sym e) k day h)))
