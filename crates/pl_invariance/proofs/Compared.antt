-- The change of a price over a window is the same in every unit.
use Rattle.std.proofs.Common.{◌≡◌, ℕ, zero, suc, ◌+◌, ◌-◌, ◌*◌, ◌/◌, ◌<◌, Bool, true, false, ◌||◌, if◌then◌else◌, ℤ, pos, negsuc, ◌-ℤ◌, ◌*ℤ◌, neg_ℤ, List, [], ◌∷◌, length, map, get_or, refl, sym, ◌∙◌, ap, arith, inl, inr, ◌⊎◌}
use Rattle.std.specs.Int.RustNames.{unsigned_abs}
use Rattle.std.proofs.Math.Nat.{mul-pos, mul-div-mul_right}
use Rattle.std.proofs.lemmas.Bool.{true≢false}
use Rattle.std.proofs.lemmas.Int.{ints, unsigned_abs-mul}
use Rattle.std.proofs.lemmas.List.{length-map}
use Rattle.pl_spec.specs.Rounding.{MISSING, MILLION, Fraction, is_missing, scaled, div_round, quot, of_both, to_cell}
use Rattle.pl_pipeline.specs.Formula.{oldest, newest, change, formula}
use Rattle.pl_spec.proofs.Signed.{int_eq-true}
use Rattle.pl_invariance.specs.Exact.{Divides}
use Rattle.pl_invariance.specs.Compared.{ChangesHaveNoUnit}
use Rattle.pl_invariance.proofs.Exact.{missing_stays, neg-times, turned, other_sign}

-- ---- cells of a window

pub get_scaled : (r : Fraction) (xs : List ℤ) (k : ℕ) → get_or (map (scaled r) xs) k MISSING ≡ scaled r (get_or xs k MISSING)
get_scaled r [] k = sym (missing_stays r)
get_scaled r (x ∷ xs) zero = refl
get_scaled r (x ∷ xs) (suc k) = get_scaled r xs k

pub oldest_scaled : (r : Fraction) (xs : List ℤ) → oldest (map (scaled r) xs) ≡ scaled r (oldest xs)
oldest_scaled r xs = get_scaled r xs 0

pub newest_scaled : (r : Fraction) (xs : List ℤ) → newest (map (scaled r) xs) ≡ scaled r (newest xs)
newest_scaled r xs = ap (λ n. get_or (map (scaled r) xs) (n - 1) MISSING) (length-map xs (scaled r)) ∙ get_scaled r xs (length xs - 1)

-- ---- quotients

pub sub-times : (x y : ℤ) (n : ℕ) → ((y -ℤ x) *ℤ pos n) ≡ ((y *ℤ pos n) -ℤ (x *ℤ pos n))
sub-times x y zero = omega (arith, ints)
sub-times x y (suc n) = let before : ((y -ℤ x) *ℤ pos n) ≡ ((y *ℤ pos n) -ℤ (x *ℤ pos n)) = sub-times x y n in omega (arith, ints)

pub neg-twice : (x : ℤ) → neg_ℤ (neg_ℤ x) ≡ x
neg-twice x = omega (arith, ints)

pub neg-product : (x : ℤ) (n : ℕ) → (neg_ℤ x *ℤ pos n) ≡ neg_ℤ (x *ℤ pos n)
neg-product (pos m) n = neg-times m n
neg-product (negsuc m) n = sym (neg-twice (pos (suc m * n)))

-- a and b, and a' and b', are in one proportion
div_nat : (a a' b b' p q : ℕ) → 0 < p → 0 < q → a' * q ≡ a * p → b' * q ≡ b * p → (2 * a' + b') / (2 * b') ≡ (2 * a + b) / (2 * b)
div_nat a a' b b' p q some_p some_q e f =
    let above : (2 * a' + b') * q ≡ (2 * a + b) * p = omega arith in
    let below : 2 * b' * q ≡ 2 * b * p = omega arith in
    sym (mul-div-mul_right (2 * a' + b') (2 * b') some_q)
    ∙ ap (λ n. n / (2 * b' * q)) above ∙ ap (λ m. (2 * a + b) * p / m) below
    ∙ mul-div-mul_right (2 * a + b) (2 * b) some_p

div_same : (n n' : ℤ) (b b' p q : ℕ) → 0 < p → 0 < q → (n' *ℤ pos q) ≡ (n *ℤ pos p) → b' * q ≡ b * p → div_round n' b' ≡ div_round n b
unfolding div_round
div_same (pos a) (pos a') b b' p q sp sq e f = ap pos (div_nat a a' b b' p q sp sq (ap unsigned_abs e) f)
div_same (negsuc a) (pos a') b b' p q sp sq e f = absurd (other_sign (a' * q) (suc a * p) (mul-pos (omega arith) sp) e)
div_same (pos a) (negsuc a') b b' p q sp sq e f = absurd (other_sign (a * p) (suc a' * q) (mul-pos (omega arith) sq) (sym e))
div_same (negsuc a) (negsuc a') b b' p q sp sq e f =
    let size : suc a' * q ≡ suc a * p = sym (unsigned_abs-mul (negsuc a') (pos q)) ∙ ap unsigned_abs e ∙ unsigned_abs-mul (negsuc a) (pos p) in
    ap (λ k. neg_ℤ (pos k)) (div_nat (suc a) (suc a') b b' p q sp sq size f)

pub quot_same : (n n' m m' : ℤ) (p q : ℕ) → 0 < p → 0 < q → (n' *ℤ pos q) ≡ (n *ℤ pos p) → (m' *ℤ pos q) ≡ (m *ℤ pos p) → quot n' m' ≡ quot n m
unfolding quot
quot_same n n' (pos zero) (pos zero) p q sp sq e f = refl
quot_same n n' (pos zero) (pos (suc b')) p q sp sq e f = absurd (let some : 0 < suc b' * q = mul-pos (omega arith) sq in let size : suc b' * q ≡ 0 * p = ap unsigned_abs f in omega arith)
quot_same n n' (pos zero) (negsuc b') p q sp sq e f = absurd (other_sign (0 * p) (suc b' * q) (mul-pos (omega arith) sq) (sym f))
quot_same n n' (pos (suc b)) (pos zero) p q sp sq e f = absurd (let some : 0 < suc b * p = mul-pos (omega arith) sp in let size : 0 * q ≡ suc b * p = ap unsigned_abs f in omega arith)
quot_same n n' (pos (suc b)) (pos (suc b')) p q sp sq e f = ap to_cell (div_same n n' (suc b) (suc b') p q sp sq e (ap unsigned_abs f))
quot_same n n' (pos (suc b)) (negsuc b') p q sp sq e f = absurd (other_sign (suc b * p) (suc b' * q) (mul-pos (omega arith) sq) (sym f))
quot_same n n' (negsuc b) (pos b') p q sp sq e f = absurd (other_sign (b' * q) (suc b * p) (mul-pos (omega arith) sp) f)
quot_same n n' (negsuc b) (negsuc b') p q sp sq e f =
    let size : suc b' * q ≡ suc b * p = sym (unsigned_abs-mul (negsuc b') (pos q)) ∙ ap unsigned_abs f ∙ unsigned_abs-mul (negsuc b) (pos p) in
    ap to_cell (div_same (neg_ℤ n) (neg_ℤ n') (suc b) (suc b') p q sp sq (neg-product n' q ∙ ap neg_ℤ e ∙ sym (neg-product n p)) size)

-- ---- changes

abbrev Base : (ℤ → ℤ) → Type 0
Base base = (x x' : ℤ) (p q : ℕ) → (x' *ℤ pos q) ≡ (x *ℤ pos p) → (base x' *ℤ pos q) ≡ (base x *ℤ pos p)

itself : Base (λ x. x)
itself x x' p q e = e

size_of : Base (λ x. pos (unsigned_abs x))
size_of x x' p q e = ap pos (sym (unsigned_abs-mul x' (pos q)) ∙ ap unsigned_abs e ∙ unsigned_abs-mul x (pos p))

module _ (r : Fraction) (above : 0 < r.num) (scale : ℕ) (base : ℤ → ℤ) (based : Base base) where
  not_gone : (x : ℤ) → is_missing (scaled r x) ≡ false → is_missing x ≡ false
  not_gone x h = step (is_missing x) refl
    where
      step : (b : Bool) → is_missing x ≡ b → is_missing x ≡ false
      step false e = e
      step true e = let gone : scaled r x ≡ MISSING = ap (scaled r) (int_eq-true x MISSING e) ∙ missing_stays r in absurd (true≢false (sym (ap is_missing gone) ∙ h))

  first_gone : (x y x' y' v v' : ℤ) → x ≡ MISSING → x' ≡ MISSING → of_both x' y' v' ≡ of_both x y v
  first_gone x y x' y' v v' e f = rw (e, f) refl

  last_gone : (x y x' y' v v' : ℤ) → y ≡ MISSING → y' ≡ MISSING → of_both x' y' v' ≡ of_both x y v
  last_gone x y x' y' v v' e f = rw (e, f) (both (is_missing x') (is_missing x))
    where
      both : (a b : Bool) → (if a || true then MISSING else v') ≡ (if b || true then MISSING else v)
      both true true = refl
      both true false = refl
      both false true = refl
      both false false = refl

  pub change_same : (x y : ℤ) → Divides r x → Divides r y
      → of_both (scaled r x) (scaled r y) (quot ((scaled r y -ℤ scaled r x) *ℤ pos scale) (base (scaled r x))) ≡ of_both x y (quot ((y -ℤ x) *ℤ pos scale) (base x))
  change_same x y dx dy = step dx.1 dy.1
    where
      step : ((x ≡ MISSING) ⊎ ((is_missing (scaled r x) ≡ false) × ((scaled r x *ℤ pos r.den) ≡ (x *ℤ pos r.num))))
          → ((y ≡ MISSING) ⊎ ((is_missing (scaled r y) ≡ false) × ((scaled r y *ℤ pos r.den) ≡ (y *ℤ pos r.num))))
          → of_both (scaled r x) (scaled r y) (quot ((scaled r y -ℤ scaled r x) *ℤ pos scale) (base (scaled r x))) ≡ of_both x y (quot ((y -ℤ x) *ℤ pos scale) (base x))
      step (inl e) b = first_gone x y (scaled r x) (scaled r y) _ _ e (ap (scaled r) e ∙ missing_stays r)
      step (inr a) (inl e) = last_gone x y (scaled r x) (scaled r y) _ _ e (ap (scaled r) e ∙ missing_stays r)
      step (inr a) (inr b) =
          let difference : ((scaled r y -ℤ scaled r x) *ℤ pos r.den) ≡ ((y -ℤ x) *ℤ pos r.num)
          = sub-times (scaled r x) (scaled r y) r.den ∙ ap (λ t. t -ℤ (scaled r x *ℤ pos r.den)) b.1 ∙ ap (λ t. (y *ℤ pos r.num) -ℤ t) a.1 ∙ sym (sub-times x y r.num) in
          let over : (((scaled r y -ℤ scaled r x) *ℤ pos scale) *ℤ pos r.den) ≡ (((y -ℤ x) *ℤ pos scale) *ℤ pos r.num)
          = turned (scaled r y -ℤ scaled r x) scale r.den ∙ ap (λ t. t *ℤ pos scale) difference ∙ turned (y -ℤ x) r.num scale in
          let one : quot ((scaled r y -ℤ scaled r x) *ℤ pos scale) (base (scaled r x)) ≡ quot ((y -ℤ x) *ℤ pos scale) (base x)
          = quot_same ((y -ℤ x) *ℤ pos scale) ((scaled r y -ℤ scaled r x) *ℤ pos scale) (base x) (base (scaled r x)) r.num r.den above dx.0 over (based x (scaled r x) r.num r.den a.1) in
          rw (a.0, b.0, not_gone x a.0, not_gone y b.0) one

  pub changes_same : (xs : List ℤ) → Divides r (oldest xs) → Divides r (newest xs)
      → change (map (scaled r) xs) (pos scale) (base (oldest (map (scaled r) xs))) ≡ change xs (pos scale) (base (oldest xs))
  changes_same xs dx dy =
      ap (λ x. of_both x (newest (map (scaled r) xs)) (quot ((newest (map (scaled r) xs) -ℤ x) *ℤ pos scale) (base x))) (oldest_scaled r xs)
      ∙ ap (λ y. of_both (scaled r (oldest xs)) y (quot ((y -ℤ scaled r (oldest xs)) *ℤ pos scale) (base (scaled r (oldest xs))))) (newest_scaled r xs)
      ∙ change_same (oldest xs) (newest xs) dx dy

pub changes-have-no-unit : ChangesHaveNoUnit
unfolding formula
changes-have-no-unit = record {
  returns = λ r above xs ys zs dx dy. changes_same r above MILLION (λ x. x) itself xs dx dy;
  changes = λ r above xs ys zs dx dy. changes_same r above MILLION (λ x. pos (unsigned_abs x)) size_of xs dx dy;
  rates = λ r above xs ys zs dx dy. changes_same r above 100000000 (λ x. x) itself xs dx dy;
}
