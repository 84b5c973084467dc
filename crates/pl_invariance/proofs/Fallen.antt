-- The deepest fall of prices is the same in every unit.
use Rattle.std.proofs.Common.{◌≡◌, ◌⊎◌, ℕ, zero, suc, ◌+◌, ◌<◌, ◌≤◌, ◌==◌, Bool, true, false, not, if◌then◌else◌, cond, nat_lt, ℤ, pos, negsuc, ◌-ℤ◌, ◌*ℤ◌, ◌<ℤ◌, ◌≤ℤ◌, List, [], ◌∷◌, length, map, fold, get_or, take, Some, None, unsigned_abs, inl, inr, refl, sym, ap, ◌∙◌, arith}
use Rattle.std.specs.Prelude.{Contains, unwrap_or, position}
use Rattle.std.specs.Int.{int_max}
use Rattle.std.specs.List.{range_with_len, position_or_len, reduce}
use Rattle.std.specs.Ordering.{int_eq}
use Rattle.std.proofs.lemmas.Bool.{true≢false, false_from_ne_true, ne_eqb}
use Rattle.std.proofs.lemmas.Bool.Decides.{nat_tests}
use Rattle.std.proofs.lemmas.Int.{ints, by_lt_z, int_max_is, fold-int_max_bounds, fold-int_max_reached}
use Rattle.std.proofs.lemmas.List.{length-map, take-map}
use Rattle.std.proofs.lemmas.List.Elements.{All-contains, All-cons}
use Rattle.std.proofs.lemmas.List.FromFn.{get_or-map-range_with_len, length-map-range_with_len}
use Rattle.std.proofs.lemmas.List.Quantifiers.{position-Some}
use Rattle.pl_spec.specs.Cells.{count, present_values, greatest}
use Rattle.pl_spec.specs.Rounding.{MISSING, MILLION, Fraction, is_missing, is_present, scaled, quot}
use Rattle.pl_spec.proofs.Finds.{contains-front, contains-behind, contains-filter, filter-contains}
use Rattle.pl_spec.proofs.Places.{none_pass}
use Rattle.pl_spec.proofs.Signed.{int_eq-true, eq-int_eq}
use Rattle.pl_pipeline.specs.Formula.{if_any, fall, drawdown}
use Rattle.pl_invariance.specs.Exact.{Divides}
use Rattle.pl_invariance.specs.Units.{IsRatio, AreExact}
use Rattle.pl_invariance.proofs.Compared.{get_scaled, quot_same}
use Rattle.pl_invariance.proofs.Indicators.{missing-same, get-divides}
use Rattle.pl_invariance.proofs.Roots.{stays-positive}
use Rattle.pl_invariance.proofs.Units as units

-- ---- lists of cells

-- a cell that is not missing is one of those up to its place
there-at : (xs : List ℤ) (n : ℕ) → is_missing (get_or xs n MISSING) ≡ false → Contains (take (suc n) xs) (get_or xs n MISSING)
there-at [] n e = absurd (true≢false e)
there-at (x ∷ xs) zero e = contains-front x (take 0 xs)
there-at (x ∷ xs) (suc n) e = contains-behind x (take (suc n) xs) (get_or xs n MISSING) (there-at xs n e)

long-enough : (xs : List ℤ) (n : ℕ) → is_missing (get_or xs n MISSING) ≡ false → n < length xs
long-enough [] n e = absurd (true≢false e)
long-enough (x ∷ xs) zero e = omega arith
long-enough (x ∷ xs) (suc n) e = omega (arith, long-enough xs n e)

-- where some value is present, a place has one
present-place : (xs : List ℤ) → 0 < count xs → (k : ℕ) × (is_missing (get_or xs k MISSING) ≡ false)
present-place [] h = absurd (omega arith)
present-place (x ∷ xs) h = step (is_missing x) refl (present-place xs)
  where
    step : (b : Bool) → is_missing x ≡ b → (0 < count xs → (k : ℕ) × (is_missing (get_or xs k MISSING) ≡ false))
        → (k : ℕ) × (is_missing (get_or (x ∷ xs) k MISSING) ≡ false)
    step false e rest = (0, e)
    step true e rest = let fewer : 0 < count xs = rw e at h in let later = rest fewer in (suc later.0, later.1)

-- the greatest of the present values is one of them, and none is above it
greatest-is : (xs : List ℤ) (x : ℤ) → Contains xs x → is_missing x ≡ false
    → (x ≤ℤ greatest xs) × Contains xs (greatest xs) × (is_missing (greatest xs) ≡ false)
greatest-is xs x h e =
    let among : Contains (present_values xs) x = contains-filter is_present xs x h (ap not e) in
    let top = of_some (present_values xs) x among in
    let own = filter-contains is_present xs (greatest xs) top.1 in
    (top.0, own.0, flip (is_missing (greatest xs)) own.1)
  where
    flip : (b : Bool) → not b ≡ true → b ≡ false
    flip false i = refl
    flip true i = absurd (true≢false (sym i))

    of_some : (vs : List ℤ) (v : ℤ) → Contains vs v → (v ≤ℤ unwrap_or (reduce int_max vs) MISSING) × Contains vs (unwrap_or (reduce int_max vs) MISSING)
    of_some [] v i = absurd (omega (arith, i.1))
    of_some (y ∷ ys) v i =
        let top : ℤ = fold int_max y ys in
        let high = fold-int_max_bounds y ys top refl in (
          All-contains (λ z. z ≤ℤ top) (y ∷ ys) v (All-cons (λ z. z ≤ℤ top) y ys high.0 high.1) i,
          elim (fold-int_max_reached y ys top refl) [
            | inl same ↦ (0, omega arith, sym same)
            | inr later ↦ contains-behind y ys top later
          ],
        )

-- the first place that passes the test, where some place does
first-passes : (p : ℤ → Bool) (xs : List ℤ) (x : ℤ) → Contains xs x → p x ≡ true
    → (k : ℕ) × (position p xs ≡ Some k) × (k < length xs) × (p (get_or xs k MISSING) ≡ true)
first-passes p xs x h e = step (nat_lt (position_or_len p xs) (length xs)) refl
  where
    step : (b : Bool) → nat_lt (position_or_len p xs) (length xs) ≡ b → (k : ℕ) × (position p xs ≡ Some k) × (k < length xs) × (p (get_or xs k MISSING) ≡ true)
    step true l =
        let is : position p xs ≡ Some (position_or_len p xs) = ap (λ b. cond b (Some (position_or_len p xs)) None) l in
        let all = position-Some p xs (position_or_len p xs) MISSING is in
        (position_or_len p xs, is, all.0, all.1)
    step false l =
        let past : length xs ≤ position_or_len p xs = grind (arith, nat_tests) in
        let none = none_pass p xs past h.0 x h.1 in
        absurd (true≢false (sym (ap p h.2 ∙ e) ∙ none))

-- ---- falls in another unit

module _ (r : Fraction) (ratio : IsRatio r) where
  abbrev Times : ℤ → ℤ → Type 0
  Times y x = units.Times r ratio y x

  -- missing in both units, or multiplied by the ratio
  abbrev AreBoth : ℤ → ℤ → Type 0
  AreBoth y x = (is_missing y ≡ false) × (is_missing x ≡ false) × Times y x

  abbrev IsFall : ℤ → ℤ → Type 0
  IsFall y x = ((y ≡ MISSING) × (x ≡ MISSING)) ⊎ AreBoth y x

  abbrev AreFalls : List ℤ → List ℤ → Type 0
  AreFalls [] [] = Unit {0}
  AreFalls [] (x ∷ xs) = ⊥
  AreFalls (y ∷ ys) [] = ⊥
  AreFalls (y ∷ ys) (x ∷ xs) = IsFall y x × AreFalls ys xs

  abbrev made : Bool → ℤ → ℤ → ℤ
  made b g x = if b then MISSING else g -ℤ x

  not-below : (z : ℤ) → pos 0 ≤ℤ z → pos (unsigned_abs z) ≡ z
  not-below (pos n) h = refl
  not-below (negsuc n) h = absurd (omega (arith, ints))

  -- what lies between a price and a greater one
  between : (g x : ℤ) → x ≤ℤ g → Divides r g → Divides r x → is_missing g ≡ false → is_missing x ≡ false
      → AreBoth (scaled r g -ℤ scaled r x) (g -ℤ x)
  between g x l hg hx eg ex =
      let times : Times (scaled r g -ℤ scaled r x) (g -ℤ x)
      = units.times-minus r ratio (scaled r g) (scaled r x) g x (units.exact-times r ratio g (eg, hg)) (units.exact-times r ratio x (ex, hx)) in
      let own : pos (unsigned_abs (g -ℤ x)) ≡ g -ℤ x = not-below (g -ℤ x) (omega (arith, ints)) in
      let other : pos (unsigned_abs (scaled r g -ℤ scaled r x)) ≡ scaled r g -ℤ scaled r x
      = stays-positive r ratio (unsigned_abs (g -ℤ x)) (scaled r g -ℤ scaled r x) (times ∙ ap (λ z. z *ℤ pos r.num) (sym own)) in
      (ap is_missing (sym other), ap is_missing (sym own), times)

  module _ (xs : List ℤ) (h : AreExact r xs) where
    abbrev us : List ℤ
    us = map (scaled r) xs

    front-exact : (ys : List ℤ) (n : ℕ) → AreExact r ys → AreExact r (take n ys)
    front-exact ys zero i = tt
    front-exact [] (suc n) i = tt
    front-exact (y ∷ ys) (suc n) i = (i.0, front-exact ys n i.1)

    module _ (n : ℕ) where
      abbrev x : ℤ
      x = get_or xs n MISSING

      abbrev up_to : List ℤ
      up_to = take (n + 1) xs

      own-divides : Divides r x
      own-divides = get-divides r ratio xs n h

      top : (greatest (map (scaled r) up_to) ≡ scaled r (greatest up_to)) × Divides r (greatest up_to)
      top = units.greatest-scaled r ratio up_to (front-exact xs (n + 1) h)

      same : fall us n ≡ made (is_missing x) (scaled r (greatest up_to)) (scaled r x)
      same =
          ap (λ y. made (is_missing y) (greatest (take (n + 1) us)) y) (get_scaled r xs n)
          ∙ ap (λ b. made b (greatest (take (n + 1) us)) (scaled r x)) (missing-same r ratio x own-divides)
          ∙ ap (λ z. made (is_missing x) z (scaled r x)) (ap greatest (take-map (scaled r) (n + 1) xs) ∙ top.0)

      -- of a present price
      fall-known : is_missing x ≡ false → AreBoth (fall us n) (fall xs n)
      fall-known e =
          let next : suc n ≡ n + 1 = omega arith in
          let among : Contains up_to x = rw next at (there-at xs n e) in
          let high = greatest-is up_to x among e in
          let found = between (greatest up_to) x high.0 top.1 own-divides high.2 e in
          let there : fall us n ≡ scaled r (greatest up_to) -ℤ scaled r x
          = same ∙ ap (λ b. made b (scaled r (greatest up_to)) (scaled r x)) e in
          let here : fall xs n ≡ greatest up_to -ℤ x = ap (λ b. made b (greatest up_to) x) e in
          (ap is_missing there ∙ found.0, ap is_missing here ∙ found.1, ap (λ z. z *ℤ pos r.den) there ∙ found.2 ∙ ap (λ z. z *ℤ pos r.num) (sym here))

      fall-in : IsFall (fall us n) (fall xs n)
      fall-in = step (is_missing x) refl
        where
          step : (b : Bool) → is_missing x ≡ b → IsFall (fall us n) (fall xs n)
          step false e = inr (fall-known e)
          step true e = inl (same ∙ ap (λ b. made b (scaled r (greatest up_to)) (scaled r x)) e, ap (λ b. made b (greatest up_to) x) e)

    all-falls : (ns : List ℕ) → AreFalls (map (fall us) ns) (map (fall xs) ns)
    all-falls [] = tt
    all-falls (n ∷ ns) = (fall-in n, all-falls ns)

  -- ---- the deepest of them

  present-falls : (ys xs : List ℤ) → AreFalls ys xs → units.AllTimes r ratio (present_values ys) (present_values xs)
  present-falls [] [] h = tt
  present-falls [] (x ∷ xs) h = absurd h
  present-falls (y ∷ ys) [] h = absurd h
  present-falls (y ∷ ys) (x ∷ xs) h = elim h.0 [
    | inl e ↦ (rw (e.0, e.1) (present-falls ys xs h.1))
    | inr e ↦ (rw (e.0, e.1) (e.2, present-falls ys xs h.1))
  ]

  max-times : (y y' x x' : ℤ) → Times y x → Times y' x' → Times (int_max y y') (int_max x x')
  max-times y y' x x' e f = by_lt_z x x' below above
    where
      right : (a b : ℤ) → a <ℤ b → int_max a b ≡ b
      right a b l = omega (arith, ints, int_max_is a b)

      left : (a b : ℤ) → b ≤ℤ a → int_max a b ≡ a
      left a b l = omega (arith, ints, int_max_is a b)

      below : x <ℤ x' → Times (int_max y y') (int_max x x')
      below l = rw (right x x' l, right y y' (units.less-times x x' y y' r.den r.num ratio.1 ratio.0 e f l)) f

      above : x' ≤ℤ x → Times (int_max y y') (int_max x x')
      above l = by_lt_z x' x (λ m. rw (left x x' l, left y y' (lower m)) e) (λ m. rw (left x x' l) (same m))
        where
          lower : x' <ℤ x → y' ≤ℤ y
          lower m = let less : y' <ℤ y = units.less-times x' x y' y r.den r.num ratio.1 ratio.0 f e m in omega (arith, ints)

          same : x ≤ℤ x' → Times (int_max y y') x
          same m = let one : x ≡ x' = omega (arith, ints) in by_lt_z y y' (λ k. rw (right y y' k) (f ∙ ap (λ z. z *ℤ pos r.num) (sym one))) (λ k. rw (left y y' k) e)

  fold-times : (y x : ℤ) (ys xs : List ℤ) → Times y x → units.AllTimes r ratio ys xs → Times (fold int_max y ys) (fold int_max x xs)
  fold-times y x [] [] e h = e
  fold-times y x [] (v ∷ xs) e h = absurd h
  fold-times y x (u ∷ ys) [] e h = absurd h
  fold-times y x (u ∷ ys) (v ∷ xs) e h = fold-times (int_max y u) (int_max x v) ys xs (max-times y u x v e h.0) h.1

  greatest-times : (ys xs : List ℤ) → units.AllTimes r ratio ys xs → 0 < length xs
      → Times (unwrap_or (reduce int_max ys) MISSING) (unwrap_or (reduce int_max xs) MISSING)
  greatest-times [] [] h some = absurd (omega arith)
  greatest-times [] (x ∷ xs) h some = absurd h
  greatest-times (y ∷ ys) [] h some = absurd h
  greatest-times (y ∷ ys) (x ∷ xs) h some = fold-times y x ys xs h.0 h.1

  -- ---- where it ends

  not-equal : (y x : ℤ) → y ≡ MISSING → is_missing x ≡ false → int_eq y x ≡ false
  not-equal y x e f = false_from_ne_true (int_eq y x) (λ i. absurd (true≢false (sym (ap is_missing (sym (int_eq-true y x i) ∙ e)) ∙ f)))

  test-same : (y x u v : ℤ) → IsFall y x → is_missing u ≡ false → is_missing v ≡ false → Times u v → int_eq y u ≡ int_eq x v
  test-same y x u v (inl e) eu ev t = not-equal y u e.0 eu ∙ sym (not-equal x v e.1 ev)
  test-same y x u v (inr e) eu ev t = units.equal-same r ratio y u x v e.2 t

  tests-same : (ys xs : List ℤ) (u v : ℤ) → AreFalls ys xs → is_missing u ≡ false → is_missing v ≡ false → Times u v
      → (position_or_len (λ y. int_eq y u) ys ≡ position_or_len (λ x. int_eq x v) xs) × (length ys ≡ length xs)
  tests-same [] [] u v h eu ev t = (refl, refl)
  tests-same [] (x ∷ xs) u v h eu ev t = absurd h
  tests-same (y ∷ ys) [] u v h eu ev t = absurd h
  tests-same (y ∷ ys) (x ∷ xs) u v h eu ev t =
      let rest = tests-same ys xs u v h.1 eu ev t in (rw (test-same y x u v h.0 eu ev t, rest.0) refl, ap suc rest.1)

  module _ (xs : List ℤ) (h : AreExact r xs) (some : 0 < count xs) where
    abbrev ns : List ℕ
    ns = range_with_len 0 (length xs)

    abbrev ours : List ℤ
    ours = map (fall xs) ns

    abbrev theirs : List ℤ
    theirs = map (fall (map (scaled r) xs)) ns

    abbrev deep : ℤ
    deep = greatest ours

    abbrev deeper : ℤ
    deeper = greatest theirs

    -- the fall in a place is one of them
    listed : (f : ℕ → ℤ) (k : ℕ) → k < length xs → Contains (map f ns) (f k)
    listed f k l =
        let long = length-map-range_with_len f 0 (length xs) in
        (k, omega (arith, long, l), get_or-map-range_with_len f 0 (length xs) k k (f k) l (omega arith))

    place : (k : ℕ) × (is_missing (get_or xs k MISSING) ≡ false)
    place = present-place xs some

    within : place.0 < length xs
    within = long-enough xs place.0 place.1

    own_top : (fall xs place.0 ≤ℤ deep) × Contains ours deep × (is_missing deep ≡ false)
    own_top = greatest-is ours (fall xs place.0) (listed (fall xs) place.0 within) (fall-known xs h place.0 place.1).1

    other_top : (fall (map (scaled r) xs) place.0 ≤ℤ deeper) × Contains theirs deeper × (is_missing deeper ≡ false)
    other_top =
        greatest-is theirs (fall (map (scaled r) xs) place.0) (listed (fall (map (scaled r) xs)) place.0 within) (fall-known xs h place.0 place.1).0

    times : Times deeper deep
    times =
        let among = contains-filter is_present ours deep own_top.1 (ap not own_top.2) in
        greatest-times (present_values theirs) (present_values ours) (present-falls theirs ours (all-falls xs h ns)) (omega (arith, among.1))

    ends : (k : ℕ) × (position (λ y. int_eq y deep) ours ≡ Some k) × (k < length ours) × (int_eq (get_or ours k MISSING) deep ≡ true)
    ends = first-passes (λ y. int_eq y deep) ours deep own_top.1 (eq-int_eq deep deep refl)

    ends-same : position (λ y. int_eq y deeper) theirs ≡ position (λ y. int_eq y deep) ours
    ends-same =
        let same = tests-same theirs ours deeper deep (all-falls xs h ns) other_top.2 own_top.2 times in
        ap (λ n. cond (nat_lt n (length theirs)) (Some n) None) same.0
        ∙ ap (λ m. cond (nat_lt (position_or_len (λ y. int_eq y deep) ours) m) (Some (position_or_len (λ y. int_eq y deep) ours)) None) same.1

    abbrev end : ℕ
    end = ends.0

    -- the price at its end is present
    end-present : is_missing (get_or xs end MISSING) ≡ false
    end-present = step (is_missing (get_or xs end MISSING)) refl
      where
        step : (b : Bool) → is_missing (get_or xs end MISSING) ≡ b → b ≡ false
        step false e = refl
        step true e =
            let l : end < length xs
            = (let long = length-map-range_with_len (fall xs) 0 (length xs) in omega (arith, long, ends.2)) in
            let here : get_or ours end MISSING ≡ fall xs end = get_or-map-range_with_len (fall xs) 0 (length xs) end end MISSING l (omega arith) in
            let gone : fall xs end ≡ MISSING = ap (λ b. made b (greatest (take (end + 1) xs)) (get_or xs end MISSING)) e in
            let deepest : get_or ours end MISSING ≡ deep = int_eq-true (get_or ours end MISSING) deep ends.3 in
            absurd (true≢false (sym (ap is_missing (sym deepest ∙ here ∙ gone)) ∙ own_top.2))

    abbrev end_of : List ℤ → ℤ → ℕ
    end_of ys v = unwrap_or (position (λ y. int_eq y v) ys) 0

    fallen : quot (deeper *ℤ pos MILLION) (get_or (map (scaled r) xs) (end_of theirs deeper) MISSING) ≡ quot (deep *ℤ pos MILLION) (get_or xs (end_of ours deep) MISSING)
    fallen =
        let at : end_of ours deep ≡ end = ap (λ o. unwrap_or o 0) ends.1 in
        let there : end_of theirs deeper ≡ end = ap (λ o. unwrap_or o 0) (ends-same ∙ ends.1) in
        ap (λ k. quot (deeper *ℤ pos MILLION) (get_or (map (scaled r) xs) k MISSING)) there
        ∙ ap (λ z. quot (deeper *ℤ pos MILLION) z) (get_scaled r xs end)
        ∙ quot_same (deep *ℤ pos MILLION) (deeper *ℤ pos MILLION) (get_or xs end MISSING) (scaled r (get_or xs end MISSING)) r.num r.den ratio.0 ratio.1
        (units.times-by r ratio deeper deep (pos MILLION) times)
        (units.exact-times r ratio (get_or xs end MISSING) (end-present, get-divides r ratio xs end h))
        ∙ ap (λ k. quot (deep *ℤ pos MILLION) (get_or xs k MISSING)) (sym at)

  -- the fall from the falls of a window, where some value is present
  deepest_of : List ℤ → List ℤ → ℤ
  deepest_of xs list =
      let v = greatest list in
      quot (v *ℤ pos MILLION) (get_or xs (unwrap_or (position (λ y. int_eq y v) list) 0) MISSING)

  drawdown-is : (xs : List ℤ) → drawdown xs ≡ if_any xs (deepest_of xs (map (fall xs) (range_with_len 0 (length xs))))
  unfolding drawdown deepest_of
  drawdown-is xs = refl

  pub drawdown-same : (xs : List ℤ) → AreExact r xs → drawdown (map (scaled r) xs) ≡ drawdown xs
  unfolding deepest_of
  drawdown-same xs h =
      let us = map (scaled r) xs in
      drawdown-is us
      ∙ ap (λ n. if n == 0 then MISSING else deepest_of us (map (fall us) (range_with_len 0 (length us)))) (units.count-same r ratio xs h)
      ∙ ap (λ m. if count xs == 0 then MISSING else deepest_of us (map (fall us) (range_with_len 0 m))) (length-map xs (scaled r))
      ∙ step (count xs) refl
      ∙ sym (drawdown-is xs)
    where
      step : (n : ℕ) → count xs ≡ n
          → (if n == 0 then MISSING else deepest_of (map (scaled r) xs) (map (fall (map (scaled r) xs)) (range_with_len 0 (length xs))))
          ≡ (if n == 0 then MISSING else deepest_of xs (map (fall xs) (range_with_len 0 (length xs))))
      step zero e = refl
      step (suc n) e =
          let no : (suc n == 0) ≡ false = ne_eqb (suc n) 0 (λ i. omega arith) in
          rw no (fallen xs h (omega (arith, e)))
