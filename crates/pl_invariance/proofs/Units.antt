-- Numbers in another unit, and the quotients, sums and extremes of lists of them.
use Rattle.std.proofs.Common.{◌≡◌, ℕ, zero, suc, ◌*◌, ◌<◌, ◌≤◌, Bool, true, false, not, nat_le, ℤ, pos, negsuc, ◌+ℤ◌, ◌-ℤ◌, ◌*ℤ◌, neg_ℤ, ◌<ℤ◌, ◌≤ℤ◌, List, [], ◌∷◌, length, map, fold, unwrap_or, refl, sym, ◌∙◌, ap, arith, inl, inr}
use Rattle.std.specs.Int.{int_max, int_min}
use Rattle.std.specs.Int.RustNames.{unsigned_abs, int_lt, int_le}
use Rattle.std.specs.Ordering.{int_eq}
use Rattle.std.specs.Cmp.{both_ways}
use Rattle.std.specs.List.{reduce}
use Rattle.std.proofs.Math.IntN.{*ℤ_comm}
use Rattle.std.proofs.lemmas.Bool.{true≢false, false_from_ne_true, leb-true}
use Rattle.std.proofs.lemmas.Bool.Decides.{nat_tests}
use Rattle.std.proofs.lemmas.Int.{ints, by_lt_z, int_max_is, int_min_is}
use Rattle.std.proofs.lemmas.List.{length-map}
use Rattle.pl_spec.specs.Cells.{total, count, present_values, greatest, least}
use Rattle.pl_spec.specs.Rounding.{LIMIT, MISSING, Fraction, is_missing, is_present, scaled, div_round, to_cell, quot, of_both}
use Rattle.pl_spec.proofs.Each.{Each}
use Rattle.pl_spec.proofs.Nearest.{nearest_is-div_round}
use Rattle.pl_spec.proofs.Signed.{int_eq-true, eq-int_eq, lt-int_lt, lt-int_le, le-int_le, int_le-true, le-both, lt-is-le}
use Rattle.pl_pipeline.specs.Formula.{products}
use Rattle.pl_pipeline.proofs.Bins.{times-le}
use Rattle.pl_invariance.specs.Exact.{Divides}
use Rattle.pl_invariance.specs.Ranked.{IsExact}
use Rattle.pl_invariance.specs.Units.{IsRatio, AreExact, IsUnrounded}
use Rattle.pl_invariance.proofs.Exact.{cancel, missing_stays, turned}
use Rattle.pl_invariance.proofs.Compared.{neg-product, neg-twice, sub-times}

-- ---- whole numbers

pub add-times : (x y : ℤ) (n : ℕ) → ((x +ℤ y) *ℤ pos n) ≡ ((x *ℤ pos n) +ℤ (y *ℤ pos n))
add-times x y zero = omega (arith, ints)
add-times x y (suc n) = let before : ((x +ℤ y) *ℤ pos n) ≡ ((x *ℤ pos n) +ℤ (y *ℤ pos n)) = add-times x y n in omega (arith, ints)

neg-factor : (x : ℤ) (m : ℕ) → (x *ℤ negsuc m) ≡ neg_ℤ (x *ℤ pos (suc m))
neg-factor (pos n) m = refl
neg-factor (negsuc n) m = sym (neg-twice (pos (suc n * suc m)))

pub swapped : (x k : ℤ) (n : ℕ) → ((x *ℤ k) *ℤ pos n) ≡ ((x *ℤ pos n) *ℤ k)
swapped x (pos m) n = turned x m n
swapped x (negsuc m) n =
    ap (λ t. t *ℤ pos n) (neg-factor x m) ∙ neg-product (x *ℤ pos (suc m)) n ∙ ap neg_ℤ (turned x (suc m) n) ∙ sym (neg-factor (x *ℤ pos n) m)

pub less-times : (x x' y y' : ℤ) (a b : ℕ) → 0 < a → 0 < b → (y *ℤ pos a) ≡ (x *ℤ pos b) → (y' *ℤ pos a) ≡ (x' *ℤ pos b) → x <ℤ x' → y <ℤ y'
less-times x x' y y' a b some_a some_b e f l =
    by_lt_z y y' (λ less. less)
    (λ ge.
    let back : (x' *ℤ pos b) ≤ℤ (x *ℤ pos b) = rw (e, f) at (times-le y' y a ge) in
    let same : x ≡ x' = cancel x x' b some_b (le-both (x *ℤ pos b) (x' *ℤ pos b) (times-le x x' b (lt-is-le x x' l)) back) in
    absurd (never x x' l same))
  where
    never : (x y : ℤ) → x <ℤ y → x ≡ y → ⊥
    never x y l e = omega (arith, ints)

pub less-true : (x y : ℤ) → int_lt x y ≡ true → x <ℤ y
less-true x y h = grind (arith, ints)

minus-itself : (x : ℤ) → unsigned_abs (x -ℤ x) ≡ 0
minus-itself x = let none : (x -ℤ x) ≡ pos 0 = omega (arith, ints) in ap unsigned_abs none

-- a quotient without a rest
pub whole-quotient : (y : ℤ) (m : ℕ) → 0 < m → div_round (y *ℤ pos m) m ≡ y
whole-quotient y m some =
    let none : unsigned_abs ((y *ℤ pos m) -ℤ (y *ℤ pos m)) ≡ 0 = minus-itself (y *ℤ pos m) in
    sym (nearest_is-div_round (y *ℤ pos m) m y some (record { near = omega arith; tie = λ e. absurd (omega arith) }))

small-present : (x : ℤ) → unsigned_abs x ≤ LIMIT → is_missing x ≡ false
small-present x h = missing-not (int_eq x MISSING) refl
  where
    missing-not : (b : Bool) → int_eq x MISSING ≡ b → b ≡ false
    missing-not true e = absurd (let same : unsigned_abs x ≡ unsigned_abs MISSING = ap unsigned_abs (int_eq-true x MISSING e) in omega arith)
    missing-not false e = refl

-- ---- cells

pub cell-small : (v : ℤ) → is_missing (to_cell v) ≡ false → unsigned_abs v ≤ LIMIT
unfolding to_cell
cell-small v h = step (nat_le (unsigned_abs v) LIMIT) refl h
  where
    step : (b : Bool) → nat_le (unsigned_abs v) LIMIT ≡ b → is_missing (to_cell v) ≡ false → unsigned_abs v ≤ LIMIT
    step true e i = leb-true (unsigned_abs v) LIMIT e
    step false e i = let gone : true ≡ false = rw e at i in absurd (true≢false gone)

pub small-cell : (v : ℤ) → unsigned_abs v ≤ LIMIT → to_cell v ≡ v
unfolding to_cell
small-cell v h = let le : nat_le (unsigned_abs v) LIMIT ≡ true = grind (arith, nat_tests) in rw le refl

pub cell-stays : (v : ℤ) → is_missing (to_cell v) ≡ false → to_cell v ≡ v
cell-stays v h = small-cell v (cell-small v h)

module _ (r : Fraction) (ratio : IsRatio r) where
  -- y is x times the ratio
  abbrev pub Times : ℤ → ℤ → Type 0
  Times y x = (y *ℤ pos r.den) ≡ (x *ℤ pos r.num)

  pub times-zero : Times (pos 0) (pos 0)
  times-zero = let one : 0 * r.den ≡ 0 * r.num = omega arith in ap pos one

  pub times-plus : (y y' x x' : ℤ) → Times y x → Times y' x' → Times (y +ℤ y') (x +ℤ x')
  times-plus y y' x x' e f = add-times y y' r.den ∙ ap (λ t. t +ℤ (y' *ℤ pos r.den)) e ∙ ap (λ t. (x *ℤ pos r.num) +ℤ t) f ∙ sym (add-times x x' r.num)

  pub times-minus : (y y' x x' : ℤ) → Times y x → Times y' x' → Times (y -ℤ y') (x -ℤ x')
  times-minus y y' x x' e f = sub-times y' y r.den ∙ ap (λ t. t -ℤ (y' *ℤ pos r.den)) e ∙ ap (λ t. (x *ℤ pos r.num) -ℤ t) f ∙ sym (sub-times x' x r.num)

  pub times-neg : (y x : ℤ) → Times y x → Times (neg_ℤ y) (neg_ℤ x)
  times-neg y x e = neg-product y r.den ∙ ap neg_ℤ e ∙ sym (neg-product x r.num)

  pub times-by : (y x k : ℤ) → Times y x → Times (y *ℤ k) (x *ℤ k)
  times-by y x k e = swapped y k r.den ∙ ap (λ t. t *ℤ k) e ∙ sym (swapped x k r.num)

  pub by-times : (y x k : ℤ) → Times y x → Times (k *ℤ y) (k *ℤ x)
  by-times y x k e = ap (λ t. t *ℤ pos r.den) (*ℤ_comm k y) ∙ times-by y x k e ∙ ap (λ t. t *ℤ pos r.num) (*ℤ_comm x k)

  pub exact-times : (x : ℤ) → IsExact r x → Times (scaled r x) x
  exact-times x h = elim h.1.1 [
    | inl e ↦ absurd (true≢false (sym (ap is_missing e) ∙ h.0))
    | inr p ↦ p.1
  ]

  pub exact-present : (x : ℤ) → IsExact r x → is_missing (scaled r x) ≡ false
  exact-present x h = elim h.1.1 [
    | inl e ↦ absurd (true≢false (sym (ap is_missing e) ∙ h.0))
    | inr p ↦ p.0
  ]

  pub less-same : (y y' x x' : ℤ) → Times y x → Times y' x' → int_lt y y' ≡ int_lt x x'
  less-same y y' x x' e f =
      both_ways _ _ (λ l. lt-int_lt x x' (less-times y y' x x' r.num r.den ratio.0 ratio.1 (sym e) (sym f) (less-true y y' l)))
      (λ l. lt-int_lt y y' (less-times x x' y y' r.den r.num ratio.1 ratio.0 e f (less-true x x' l)))

  pub equal-same : (y y' x x' : ℤ) → Times y x → Times y' x' → int_eq y y' ≡ int_eq x x'
  equal-same y y' x x' e f =
      both_ways _ _ (λ l. eq-int_eq x x' (cancel x x' r.num ratio.0 (sym e ∙ ap (λ t. t *ℤ pos r.den) (int_eq-true y y' l) ∙ f)))
      (λ l. eq-int_eq y y' (cancel y y' r.den ratio.1 (e ∙ ap (λ t. t *ℤ pos r.num) (int_eq-true x x' l) ∙ sym f)))

  pub at_most-same : (y y' x x' : ℤ) → Times y x → Times y' x' → int_le y y' ≡ int_le x x'
  at_most-same y y' x x' e f = turned-test y y' ∙ ap not (less-same y' y x' x f e) ∙ sym (turned-test x x')
    where
      apart : (b a : ℤ) → a ≤ℤ b → b <ℤ a → ⊥
      apart b a l m = omega (arith, ints)

      turned-test : (a b : ℤ) → int_le a b ≡ not (int_lt b a)
      turned-test a b =
          by_lt_z b a (λ l. lt-int_le a b l ∙ sym (ap not (lt-int_lt b a l)))
          (λ l. le-int_le a b l ∙ sym (ap not (false_from_ne_true (int_lt b a) (λ e. apart b a l (less-true b a e)))))

  -- ---- one number

  pub cell-scaled : (x : ℤ) → is_missing (scaled r x) ≡ false → to_cell (scaled r x) ≡ scaled r x
  unfolding scaled
  cell-scaled x h = step (is_missing x) refl h
    where
      step : (b : Bool) → is_missing x ≡ b → is_missing (scaled r x) ≡ false → to_cell (scaled r x) ≡ scaled r x
      step true e i = let gone : true ≡ false = rw e at i in absurd (true≢false gone)
      step false e i =
          let v : ℤ = div_round (x *ℤ pos r.num) r.den in
          let there : is_missing (to_cell v) ≡ false = rw e at i in
          rw e (ap to_cell (cell-stays v there))

  -- the number in the other unit, where it is a whole one
  pub is-scaled : (x y : ℤ) → unsigned_abs x ≤ LIMIT → Times y x → scaled r x ≡ to_cell y
  unfolding scaled
  is-scaled x y h e = rw (small-present x h) (ap to_cell (ap (λ t. div_round t r.den) (sym e) ∙ whole-quotient y r.den ratio.1))

  -- what is n in another unit, where x times m is n
  pub whole : (n n' x : ℤ) (m : ℕ) → Times n' n → IsExact r x → (x *ℤ pos m) ≡ n → n' ≡ (scaled r x *ℤ pos m)
  whole n n' x m e h w =
      cancel n' (scaled r x *ℤ pos m) r.den ratio.1
      (e ∙ ap (λ t. t *ℤ pos r.num) (sym w) ∙ turned x m r.num ∙ ap (λ t. t *ℤ pos m) (sym (exact-times x h)) ∙ turned (scaled r x) r.den m)

  pub quot-scaled : (n n' : ℤ) (m : ℕ) → Times n' n → IsUnrounded r n m → quot n' (pos m) ≡ scaled r (quot n (pos m))
  unfolding quot
  quot-scaled n n' zero e h = sym (missing_stays r)
  quot-scaled n n' (suc m) e (inl none) = absurd (omega arith)
  quot-scaled n n' (suc m) e (inr h) =
      let x : ℤ = quot n (pos (suc m)) in
      ap (λ t. to_cell (div_round t (suc m))) (whole n n' x (suc m) e h.0 h.1)
      ∙ ap to_cell (whole-quotient (scaled r x) (suc m) (omega arith))
      ∙ cell-scaled x (exact-present x h.0)

  -- ---- of two cells

  -- two cells that are missing alike in both units
  pub on_both : (x y x' y' v v' : ℤ) → is_missing x' ≡ is_missing x → is_missing y' ≡ is_missing y
      → (is_missing x ≡ false → is_missing y ≡ false → v' ≡ scaled r v) → of_both x' y' v' ≡ scaled r (of_both x y v)
  on_both x y x' y' v v' e f h = step (is_missing x) (is_missing y) refl refl
    where
      step : (b c : Bool) → is_missing x ≡ b → is_missing y ≡ c → of_both x' y' v' ≡ scaled r (of_both x y v)
      step true c i j = rw (e, i) (sym (missing_stays r))
      step false true i j = rw (e, f, i, j) (sym (missing_stays r))
      step false false i j = rw (e, f, i, j) (h i j)

  -- ---- lists

  -- each of the first is one of the second times the ratio
  abbrev pub AllTimes : List ℤ → List ℤ → Type 0
  AllTimes [] [] = Unit {0}
  AllTimes [] (x ∷ xs) = ⊥
  AllTimes (y ∷ ys) [] = ⊥
  AllTimes (y ∷ ys) (x ∷ xs) = Times y x × AllTimes ys xs

  pub sums-times : (ys xs : List ℤ) (t s : ℤ) → AllTimes ys xs → Times t s → Times (fold (λ s x. s +ℤ x) t ys) (fold (λ s x. s +ℤ x) s xs)
  sums-times [] [] t s h e = e
  sums-times [] (x ∷ xs) t s h e = absurd h
  sums-times (y ∷ ys) [] t s h e = absurd h
  sums-times (y ∷ ys) (x ∷ xs) t s h e = sums-times ys xs (t +ℤ y) (s +ℤ x) h.1 (times-plus t y s x e h.0)

  pub total-times : (ys xs : List ℤ) → AllTimes ys xs → Times (total ys) (total xs)
  total-times ys xs h = sums-times ys xs (pos 0) (pos 0) h times-zero

  pub all-scaled : (vs : List ℤ) → Each (IsExact r) vs → AllTimes (map (scaled r) vs) vs
  all-scaled [] h = tt
  all-scaled (v ∷ vs) h = (exact-times v h.0, all-scaled vs h.1)

  pub present-same : (x : ℤ) → Divides r x → is_present (scaled r x) ≡ is_present x
  present-same x h = elim h.1 [
    | inl e ↦ ap is_present (ap (scaled r) e ∙ missing_stays r ∙ sym e)
    | inr p ↦ ap not p.0 ∙ sym (there (is_missing x) refl p.0)
  ]
    where
      there : (b : Bool) → is_missing x ≡ b → is_missing (scaled r x) ≡ false → not b ≡ true
      there true e i = absurd (true≢false (sym (ap is_missing (ap (scaled r) (int_eq-true x MISSING e) ∙ missing_stays r)) ∙ i))
      there false e i = refl

  pub is-exact : (x : ℤ) → Divides r x → is_present x ≡ true → IsExact r x
  is-exact x h p = (gone (is_missing x) refl p, h)
    where
      gone : (b : Bool) → is_missing x ≡ b → not b ≡ true → is_missing x ≡ false
      gone true e i = absurd (true≢false (sym i))
      gone false e i = e

  abbrev AreKept : List ℤ → List ℤ → Type 0
  AreKept ys zs = (ys ≡ map (scaled r) zs) × Each (IsExact r) zs

  pub presents : (xs : List ℤ) → AreExact r xs → AreKept (present_values (map (scaled r) xs)) (present_values xs)
  presents [] h = (refl, tt)
  presents (x ∷ xs) h = step (is_present x) refl (present-same x h.0) (presents xs h.1)
    where
      step : (b : Bool) → is_present x ≡ b → is_present (scaled r x) ≡ is_present x → AreKept (present_values (map (scaled r) xs)) (present_values xs)
          → AreKept (present_values (map (scaled r) (x ∷ xs))) (present_values (x ∷ xs))
      step true e f rest = rw (f, e) (ap (λ l. scaled r x ∷ l) rest.0, (is-exact x h.0 e, rest.1))
      step false e f rest = rw (f, e) rest

  pub count-same : (xs : List ℤ) → AreExact r xs → count (map (scaled r) xs) ≡ count xs
  count-same xs h = ap length (presents xs h).0 ∙ length-map (present_values xs) (scaled r)

  pub total-same : (xs : List ℤ) → AreExact r xs → Times (total (present_values (map (scaled r) xs))) (total (present_values xs))
  total-same xs h = ap (λ l. total l *ℤ pos r.den) (presents xs h).0 ∙ total-times (map (scaled r) (present_values xs)) (present_values xs) (all-scaled (present_values xs) (presents xs h).1)

  -- ---- products with what has no unit

  pub first-products : (xs ys : List ℤ) → AreExact r xs → AllTimes (products (map (scaled r) xs) ys) (products xs ys)
  first-products [] ys h = tt
  first-products (x ∷ xs) [] h = tt
  first-products (x ∷ xs) (y ∷ ys) h = step (is_present x) (is_present y) refl refl (first-products xs ys h.1)
    where
      step : (b c : Bool) → is_present x ≡ b → is_present y ≡ c → AllTimes (products (map (scaled r) xs) ys) (products xs ys) → AllTimes (products (map (scaled r) (x ∷ xs)) (y ∷ ys)) (products (x ∷ xs) (y ∷ ys))
      step true true e f rest = rw (present-same x h.0, e, f) (times-by (scaled r x) x y (exact-times x (is-exact x h.0 e)), rest)
      step true false e f rest = rw (present-same x h.0, e, f) rest
      step false c e f rest = rw (present-same x h.0, e) rest

  pub second-products : (ys xs : List ℤ) → AreExact r xs → AllTimes (products ys (map (scaled r) xs)) (products ys xs)
  second-products [] xs h = tt
  second-products (y ∷ ys) [] h = tt
  second-products (y ∷ ys) (x ∷ xs) h = step (is_present x) (is_present y) refl refl (second-products ys xs h.1)
    where
      step : (b c : Bool) → is_present x ≡ b → is_present y ≡ c → AllTimes (products ys (map (scaled r) xs)) (products ys xs) → AllTimes (products (y ∷ ys) (map (scaled r) (x ∷ xs))) (products (y ∷ ys) (x ∷ xs))
      step true true e f rest = rw (present-same x h.0, e, f) (by-times (scaled r x) x y (exact-times x (is-exact x h.0 e)), rest)
      step false true e f rest = rw (present-same x h.0, e, f) rest
      step b false e f rest = rw f rest

  -- ---- extremes

  pub max-scaled : (x y : ℤ) → IsExact r x → IsExact r y → (int_max (scaled r x) (scaled r y) ≡ scaled r (int_max x y)) × IsExact r (int_max x y)
  max-scaled x y h i = by_lt_z x y below above
    where
      right : (a b : ℤ) → a <ℤ b → int_max a b ≡ b
      right a b l = omega (arith, ints, int_max_is a b)

      left : (a b : ℤ) → b ≤ℤ a → int_max a b ≡ a
      left a b l = omega (arith, ints, int_max_is a b)

      below : x <ℤ y → (int_max (scaled r x) (scaled r y) ≡ scaled r (int_max x y)) × IsExact r (int_max x y)
      below l =
          let more : scaled r x <ℤ scaled r y = less-times x y (scaled r x) (scaled r y) r.den r.num ratio.1 ratio.0 (exact-times x h) (exact-times y i) l in
          rw (right x y l) (right (scaled r x) (scaled r y) more, i)

      above : y ≤ℤ x → (int_max (scaled r x) (scaled r y) ≡ scaled r (int_max x y)) × IsExact r (int_max x y)
      above l =
          let more : scaled r y ≤ℤ scaled r x = int_le-true (scaled r y) (scaled r x) (at_most-same (scaled r y) (scaled r x) y x (exact-times y i) (exact-times x h) ∙ le-int_le y x l) in
          rw (left x y l) (left (scaled r x) (scaled r y) more, h)

  pub min-scaled : (x y : ℤ) → IsExact r x → IsExact r y → (int_min (scaled r x) (scaled r y) ≡ scaled r (int_min x y)) × IsExact r (int_min x y)
  min-scaled x y h i = by_lt_z x y below above
    where
      right : (a b : ℤ) → b ≤ℤ a → int_min a b ≡ b
      right a b l = omega (arith, ints, int_min_is a b)

      left : (a b : ℤ) → a <ℤ b → int_min a b ≡ a
      left a b l = omega (arith, ints, int_min_is a b)

      below : x <ℤ y → (int_min (scaled r x) (scaled r y) ≡ scaled r (int_min x y)) × IsExact r (int_min x y)
      below l =
          let more : scaled r x <ℤ scaled r y = less-times x y (scaled r x) (scaled r y) r.den r.num ratio.1 ratio.0 (exact-times x h) (exact-times y i) l in
          rw (left x y l) (left (scaled r x) (scaled r y) more, h)

      above : y ≤ℤ x → (int_min (scaled r x) (scaled r y) ≡ scaled r (int_min x y)) × IsExact r (int_min x y)
      above l =
          let more : scaled r y ≤ℤ scaled r x = int_le-true (scaled r y) (scaled r x) (at_most-same (scaled r y) (scaled r x) y x (exact-times y i) (exact-times x h) ∙ le-int_le y x l) in
          rw (right x y l) (right (scaled r x) (scaled r y) more, i)

  folded : (f : ℤ → ℤ → ℤ) → ((x y : ℤ) → IsExact r x → IsExact r y → (f (scaled r x) (scaled r y) ≡ scaled r (f x y)) × IsExact r (f x y))
      → (x : ℤ) (vs : List ℤ) → IsExact r x → Each (IsExact r) vs → (fold f (scaled r x) (map (scaled r) vs) ≡ scaled r (fold f x vs)) × IsExact r (fold f x vs)
  folded f one x [] h hs = (refl, h)
  folded f one x (v ∷ vs) h hs =
      let step = one x v h hs.0 in
      let rest = folded f one (f x v) vs step.1 hs.1 in
      (ap (λ y. fold f y (map (scaled r) vs)) step.0 ∙ rest.0, rest.1)

  -- the greatest or the least of some values
  abbrev picked : (ℤ → ℤ → ℤ) → List ℤ → ℤ
  picked f vs = unwrap_or (reduce f vs) MISSING

  pick-scaled : (f : ℤ → ℤ → ℤ) → ((x y : ℤ) → IsExact r x → IsExact r y → (f (scaled r x) (scaled r y) ≡ scaled r (f x y)) × IsExact r (f x y))
      → (vs : List ℤ) → Each (IsExact r) vs → (picked f (map (scaled r) vs) ≡ scaled r (picked f vs)) × Divides r (picked f vs)
  pick-scaled f one [] h = (sym (missing_stays r), (ratio.1, inl refl))
  pick-scaled f one (v ∷ vs) h = let all = folded f one v vs h.0 h.1 in (all.0, all.1.1)

  pub greatest-scaled : (xs : List ℤ) → AreExact r xs → (greatest (map (scaled r) xs) ≡ scaled r (greatest xs)) × Divides r (greatest xs)
  greatest-scaled xs h =
      let both = presents xs h in
      let all = pick-scaled int_max max-scaled (present_values xs) both.1 in
      (ap (picked int_max) both.0 ∙ all.0, all.1)

  pub least-scaled : (xs : List ℤ) → AreExact r xs → (least (map (scaled r) xs) ≡ scaled r (least xs)) × Divides r (least xs)
  least-scaled xs h =
      let both = presents xs h in
      let all = pick-scaled int_min min-scaled (present_values xs) both.1 in
      (ap (picked int_min) both.0 ∙ all.0, all.1)
