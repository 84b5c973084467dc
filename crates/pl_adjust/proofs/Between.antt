-- Adjustments between two days.
use Rattle.std.proofs.Common.{refl, ◌∙◌, length-take, ◌≡◌, ℕ, ◌+◌, ◌-◌, ◌<◌, ◌≤◌, Bool, true, false, ℤ, ◌≤ℤ◌, ◌&&◌, List, length, get_or, take, drop, sym, arith, inl, inr, length-drop}
use Rattle.std.specs.Int.RustNames.{int_lt, int_le}
use Rattle.std.specs.List.{filter, prefix_len, take_while, AllPairs}
use Rattle.std.specs.List.Sorted.{IsPartitionPoint, IsPartitionedBy}
use Rattle.std.proofs.lemmas.Int.{ints}
use Rattle.std.proofs.lemmas.Bool.{cases_lt}
use Rattle.std.proofs.lemmas.List.{get_or-drop}
use Rattle.std.proofs.lemmas.List.Sums.{prefix_len_passes, prefix_len_stops, prefix_len-le-length}
use Rattle.pl_adjust.specs.declared.adjust.Adjust.{Adjust}
use Rattle.pl_adjust.proofs.Runs.{filter-run}

-- later than one day and by the other
abbrev pub is_between : ℤ → ℤ → Adjust → Bool
is_between low high a = int_lt low a.day && int_le a.day high

-- the place after the adjustments of a day and of the days before
abbrev pub IsEnd : ℤ → List Adjust → ℕ → Type 0
IsEnd day xs n = IsPartitionPoint (λ a. int_le a.day day ≡ true) (λ a. int_le a.day day ≡ false) xs n

pub parted : (day : ℤ) (xs : List Adjust) → AllPairs (λ a b. a.day ≤ℤ b.day) xs → IsPartitionedBy (λ a. int_le a.day day) xs
parted day xs up i j d h l t = elim (cases_lt i j) [
  | inl p ↦ at_most (get_or xs i d).day (get_or xs j d).day (up i j d p l) t
  | inr p ↦ let same : i ≡ j = omega arith in rw same t
]
  where
    at_most : (a b : ℤ) → a ≤ℤ b → int_le b day ≡ true → int_le a day ≡ true
    at_most a b h t = grind (arith, ints)

early : (low high day : ℤ) → int_le day low ≡ true → (int_lt low day && int_le day high) ≡ false
early low high day t = grind (arith, ints)

late : (low high day : ℤ) → int_le day high ≡ false → (int_lt low day && int_le day high) ≡ false
late low high day t = grind (arith, ints)

inside : (low high day : ℤ) → int_le day low ≡ false → int_le day high ≡ true → (int_lt low day && int_le day high) ≡ true
inside low high day t u = grind (arith, ints)

-- ---- the front of a list that passes a test

pub front_length : {X : Type 0} (p : X → Bool) (xs : List X) → length (take_while p xs) ≡ prefix_len p xs
front_length p xs = omega (arith, length-take (prefix_len p xs) xs, prefix_len-le-length p xs)

pub front_within : {X : Type 0} (p : X → Bool) (xs : List X) (n : ℕ) → n ≡ length (take_while p xs) → n ≡ length (take n xs)
front_within p xs n is = omega (arith, is, front_length p xs, prefix_len-le-length p xs, length-take n xs)

-- from the first later one on, those up to the other day
pub between-front : (low high : ℤ) (xs : List Adjust) (from : ℕ) → AllPairs (λ a b. a.day ≤ℤ b.day) xs → IsEnd low xs from → from ≤ length xs
    → take (prefix_len (λ a. int_le a.day high) (drop from xs)) (drop from xs) ≡ filter (is_between low high) xs
between-front low high xs from up start l =
    let p : Adjust → Bool = λ a. int_le a.day high in
    let n = prefix_len p (drop from xs) in
    let long : length (drop from xs) ≡ length xs - from = length-drop from xs in
    let short = prefix_len-le-length p (drop from xs) in
    sym (filter-run (is_between low high) from n xs l short
    (λ k d m. early low high (get_or xs k d).day (start.0 k d (omega arith) m))
    (λ k d m.
    let passes : int_le (get_or xs (from + k) d).day high ≡ true = rw (get_or-drop from xs k d) at (prefix_len_passes p (drop from xs) k d m) in
    rw (get_or-drop from xs k d) (inside low high (get_or xs (from + k) d).day (start.1 (from + k) d (omega arith) (omega arith)) passes))
    (λ k d m o.
    let fails : int_le (get_or xs (from + n) d).day high ≡ false = rw (get_or-drop from xs n d) at (prefix_len_stops p (drop from xs) d (omega arith)) in
    rw (get_or-drop from xs k d) (late low high (get_or xs (from + k) d).day (all_late d (from + n) (from + k) (omega arith) (omega arith) fails (int_le (get_or xs (from + k) d).day high) refl))))
  where
    all_late : (d : Adjust) (i j : ℕ) → i ≤ j → j < length xs → int_le (get_or xs i d).day high ≡ false → (b : Bool) → int_le (get_or xs j d).day high ≡ b → int_le (get_or xs j d).day high ≡ false
    all_late d i j h l fails false t = t
    all_late d i j h l fails true t = let bad : true ≡ false = sym (parted high xs up i j d h l t) ∙ fails in absurd (cc)
