-- Operations on prices in another unit.
use Rattle.std.proofs.Common.{◌≡◌, ℕ, suc, ◌+◌, ◌*◌, Bool, true, false, ◌||◌, if◌then◌else◌, ℤ, pos, ◌*ℤ◌, neg_ℤ, refl, sym, ◌∙◌, ap, subst}
use Rattle.std.specs.Int.{int_max, int_min}
use Rattle.std.specs.Int.RustNames.{unsigned_abs, int_lt}
use Rattle.std.proofs.Math.IntN.{*ℤ_comm}
use Rattle.pl_spec.specs.Cells.{truth, is_true}
use Rattle.pl_spec.specs.Rounding.{MISSING, MILLION, Fraction, is_missing, scaled, div_round, to_cell, of_both, add, sub, mul, div, neg}
use Rattle.std.proofs.lemmas.Int.{unsigned_abs-mul}
use Rattle.pl_pipeline.specs.Elementary.{sign, maximum, minimum}
use Rattle.pl_pipeline.specs.Kind.{PointKind}
use Rattle.pl_pipeline.specs.Pointwise.{pointwise}
use Rattle.pl_invariance.specs.Crossed.{ClipsHaveUnits}
use Rattle.pl_invariance.specs.Exact.{Divides}
use Rattle.pl_invariance.specs.Pipelines.{Measure, raised, ratio_of, OperationRule, GivesCell, IsQuotientExact, IsOperationExact}
use Rattle.pl_invariance.specs.Ranked.{IsExact}
use Rattle.pl_invariance.specs.Units.{IsRatio}
use Rattle.pl_invariance.proofs.Compared.{quot_same}
use Rattle.pl_invariance.proofs.Crossed.{screens-have-no-unit}
use Rattle.pl_invariance.proofs.Exact.{missing_stays}
use Rattle.pl_invariance.proofs.Formulas.{add-scaled, sub-scaled, mul-scaled}
use Rattle.pl_invariance.proofs.Divided.{quotient-in, root-in}
use Rattle.pl_invariance.proofs.Indicators.{missing-same}
use Rattle.pl_invariance.proofs.Joined.{product-in}
use Rattle.pl_invariance.proofs.Measured.{raised-ratio, raised-product, number_in, IsOf, by-times}
use Rattle.pl_invariance.proofs.Units.{on_both}
use Rattle.pl_invariance.proofs.Quotients.{quotient-scaled}
use Rattle.pl_invariance.proofs.Units as units

both-gone : (x y v : ℤ) → (is_missing x || is_missing y) ≡ true → of_both x y v ≡ MISSING
both-gone x y v e = rw e refl

both-there : (x y v : ℤ) → is_missing x ≡ false → is_missing y ≡ false → of_both x y v ≡ v
both-there x y v e f = rw (e, f) refl

module _ (r : Fraction) (ratio : IsRatio r) where
  abbrev Times : ℤ → ℤ → Type 0
  Times y x = units.Times r ratio y x

  on_both-same : (x y x' y' v v' : ℤ) → is_missing x' ≡ is_missing x → is_missing y' ≡ is_missing y
      → (is_missing x ≡ false → is_missing y ≡ false → v' ≡ v) → of_both x' y' v' ≡ of_both x y v
  on_both-same x y x' y' v v' e f h = step (is_missing x) (is_missing y) refl refl
    where
      step : (b c : Bool) → is_missing x ≡ b → is_missing y ≡ c → of_both x' y' v' ≡ of_both x y v
      step true c i j = rw (e, i) refl
      step false true i j = rw (e, f, i, j) refl
      step false false i j = rw (e, f, i, j) (h i j)

  there : (x : ℤ) → Divides r x → is_missing x ≡ false → is_missing (scaled r x) ≡ false
  there x h e = missing-same r ratio x h ∙ e

  sums : (x y : ℤ) → Divides r x → Divides r y → GivesCell x y (add x y) → add (scaled r x) (scaled r y) ≡ scaled r (add x y)
  unfolding add
  sums x y h i g =
      on_both r ratio x y (scaled r x) (scaled r y) _ _ (missing-same r ratio x h) (missing-same r ratio y i)
      (λ e f. sym (both-there (scaled r x) (scaled r y) _ (there x h e) (there y i f)) ∙ add-scaled r ratio x y (e, h) (f, i) (g e f) ∙ ap (scaled r) (both-there x y _ e f))

  gaps : (x y : ℤ) → Divides r x → Divides r y → GivesCell x y (sub x y) → sub (scaled r x) (scaled r y) ≡ scaled r (sub x y)
  unfolding sub
  gaps x y h i g =
      on_both r ratio x y (scaled r x) (scaled r y) _ _ (missing-same r ratio x h) (missing-same r ratio y i)
      (λ e f. sym (both-there (scaled r x) (scaled r y) _ (there x h e) (there y i f)) ∙ sub-scaled r ratio x y (e, h) (f, i) (g e f) ∙ ap (scaled r) (both-there x y _ e f))

  product : (k y : ℤ) → Divides r y → (is_missing k ≡ false → is_missing y ≡ false → IsExact r (mul k y) × ((mul k y *ℤ pos MILLION) ≡ (k *ℤ y)))
      → mul k (scaled r y) ≡ scaled r (mul k y)
  unfolding mul
  product k y i g =
      on_both r ratio k y k (scaled r y) _ _ refl (missing-same r ratio y i)
      (λ e f. sym (both-there k (scaled r y) _ e (there y i f)) ∙ mul-scaled r ratio k y (f, i) (g e f).0 (g e f).1 ∙ ap (scaled r) (both-there k y _ e f))

  turned : (x y : ℤ) → mul x y ≡ mul y x
  unfolding mul
  turned x y = step (is_missing x) (is_missing y) refl refl
    where
      step : (b c : Bool) → is_missing x ≡ b → is_missing y ≡ c → of_both x y (to_cell (div_round (x *ℤ y) MILLION)) ≡ of_both y x (to_cell (div_round (y *ℤ x) MILLION))
      step true true e f = rw (e, f) refl
      step true false e f = rw (e, f) refl
      step false true e f = rw (e, f) refl
      step false false e f = rw (e, f) (ap (λ t. to_cell (div_round t MILLION)) (*ℤ_comm x y))

  first-product : (x y : ℤ) → Divides r x → (is_missing x ≡ false → is_missing y ≡ false → IsExact r (mul x y) × ((mul x y *ℤ pos MILLION) ≡ (x *ℤ y)))
      → mul (scaled r x) y ≡ scaled r (mul x y)
  first-product x y h g =
      turned (scaled r x) y
      ∙ product y x h (λ f e. (subst (IsExact r) (turned x y) (g e f).0, ap (λ t. t *ℤ pos MILLION) (turned y x) ∙ (g e f).1 ∙ *ℤ_comm x y))
      ∙ ap (scaled r) (turned y x)

  share : (x y : ℤ) → Divides r x → (is_missing x ≡ false → is_missing y ≡ false → IsQuotientExact r (x *ℤ pos MILLION) y) → div (scaled r x) y ≡ scaled r (div x y)
  unfolding div
  share x y h g =
      on_both r ratio x y (scaled r x) y _ _ (missing-same r ratio x h) refl
      (λ e f. quotient-scaled r ratio (x *ℤ pos MILLION) (scaled r x *ℤ pos MILLION) y (units.times-by r ratio (scaled r x) x (pos MILLION) (units.exact-times r ratio x (e, h))) (g e f))

  proportions : (x y : ℤ) → Divides r x → Divides r y → div (scaled r x) (scaled r y) ≡ div x y
  unfolding div
  proportions x y h i =
      on_both-same x y (scaled r x) (scaled r y) _ _ (missing-same r ratio x h) (missing-same r ratio y i)
      (λ e f. quot_same (x *ℤ pos MILLION) (scaled r x *ℤ pos MILLION) y (scaled r y) r.num r.den ratio.0 ratio.1
      (units.times-by r ratio (scaled r x) x (pos MILLION) (units.exact-times r ratio x (e, h))) (units.exact-times r ratio y (f, i)))

  -- ---- of one cell

  on_one : (x : ℤ) (v' v : ℤ) → Divides r x → (is_missing x ≡ false → v' ≡ scaled r v) → (if is_missing (scaled r x) then MISSING else v') ≡ scaled r (if is_missing x then MISSING else v)
  on_one x v' v h g = step (is_missing x) refl
    where
      step : (b : Bool) → is_missing x ≡ b → (if is_missing (scaled r x) then MISSING else v') ≡ scaled r (if is_missing x then MISSING else v)
      step true e = rw (missing-same r ratio x h, e) (sym (missing_stays r))
      step false e = rw (missing-same r ratio x h, e) (g e)

  negated : (x : ℤ) → Divides r x → Divides r (neg x) → GivesCell x x (neg x) → neg (scaled r x) ≡ scaled r (neg x)
  unfolding neg
  negated x h w g =
      on_one x (neg_ℤ (scaled r x)) (neg_ℤ x) h
      (λ e. by-times r ratio (neg_ℤ (scaled r x)) (neg_ℤ x) (rw e at w) (rw e at (g e e)) (units.times-neg r ratio (scaled r x) x (units.exact-times r ratio x (e, h))))

  pub magnitude : (x : ℤ) → IsExact r x → unsigned_abs (scaled r x) * r.den ≡ unsigned_abs x * r.num
  magnitude x h = sym (unsigned_abs-mul (scaled r x) (pos r.den)) ∙ ap unsigned_abs (units.exact-times r ratio x h) ∙ unsigned_abs-mul x (pos r.num)

  abbrev size_of : ℤ → ℤ
  size_of x = if is_missing x then MISSING else pos (unsigned_abs x)

  sizes : (x : ℤ) → Divides r x → Divides r (size_of x) → size_of (scaled r x) ≡ scaled r (size_of x)
  sizes x h w =
      on_one x (pos (unsigned_abs (scaled r x))) (pos (unsigned_abs x)) h
      (λ e. by-times r ratio (pos (unsigned_abs (scaled r x))) (pos (unsigned_abs x)) (rw e at w) refl (ap pos (magnitude x (e, h))))

  signs : (x : ℤ) → Divides r x → sign (scaled r x) ≡ sign x
  unfolding sign
  signs x h = step (is_missing x) refl
    where
      step : (b : Bool) → is_missing x ≡ b → sign (scaled r x) ≡ sign x
      step true e = rw (missing-same r ratio x h, e) refl
      step false e =
          let times = units.exact-times r ratio x (e, h) in
          let below : int_lt (scaled r x) (pos 0) ≡ int_lt x (pos 0) = units.less-same r ratio (scaled r x) (pos 0) x (pos 0) times (units.times-zero r ratio) in
          let above : int_lt (pos 0) (scaled r x) ≡ int_lt (pos 0) x = units.less-same r ratio (pos 0) (scaled r x) (pos 0) x (units.times-zero r ratio) times in
          rw (missing-same r ratio x h, e, below, above) refl

  -- ---- one of two

  greater : (x y : ℤ) → Divides r x → Divides r y → maximum (scaled r x) (scaled r y) ≡ scaled r (maximum x y)
  unfolding maximum
  greater x y h i =
      on_both r ratio x y (scaled r x) (scaled r y) _ _ (missing-same r ratio x h) (missing-same r ratio y i)
      (λ e f. (units.max-scaled r ratio x y (e, h) (f, i)).0)

  lesser : (x y : ℤ) → Divides r x → Divides r y → minimum (scaled r x) (scaled r y) ≡ scaled r (minimum x y)
  unfolding minimum
  lesser x y h i =
      on_both r ratio x y (scaled r x) (scaled r y) _ _ (missing-same r ratio x h) (missing-same r ratio y i)
      (λ e f. (units.min-scaled r ratio x y (e, h) (f, i)).0)

  filled : (x y : ℤ) → Divides r x → (if is_missing (scaled r x) then scaled r y else scaled r x) ≡ scaled r (if is_missing x then y else x)
  filled x y h = step (is_missing x) (missing-same r ratio x h)
    where
      step : (b : Bool) → is_missing (scaled r x) ≡ b → (if is_missing (scaled r x) then scaled r y else scaled r x) ≡ scaled r (if b then y else x)
      step true e = rw e refl
      step false e = rw e refl

  chosen : (b : Bool) (x y : ℤ) → (if b then scaled r x else scaled r y) ≡ scaled r (if b then x else y)
  chosen true x y = refl
  chosen false x y = refl

  kept : (b : Bool) (x : ℤ) → (if b then scaled r x else MISSING) ≡ scaled r (if b then x else MISSING)
  kept true x = refl
  kept false x = sym (missing_stays r)

pub clips-have-units : ClipsHaveUnits
unfolding pointwise
clips-have-units r ratio low high x y z hl hh h =
    on_one r ratio x (int_max (scaled r low) (int_min (scaled r high) (scaled r x))) (int_max low (int_min high x)) h
    (λ e.
    let inner = units.min-scaled r ratio high x hh (e, h) in
    ap (int_max (scaled r low)) inner.0 ∙ (units.max-scaled r ratio low (int_min high x) hl inner.1).0)

-- a product of numbers of two units
both-product : (a : Fraction) (one : IsRatio a) (b : Fraction) (two : IsRatio b) (c : Fraction) (both : IsRatio c)
    → (c.num ≡ a.num * b.num) × (c.den ≡ a.den * b.den) → (x y : ℤ) → Divides a x → Divides b y
    → (is_missing x ≡ false → is_missing y ≡ false → IsExact c (mul x y) × ((mul x y *ℤ pos MILLION) ≡ (x *ℤ y)))
    → mul (scaled a x) (scaled b y) ≡ scaled c (mul x y)
unfolding mul
both-product a one b two c both is x y h i g =
    on_both c both x y (scaled a x) (scaled b y) _ _ (missing-same a one x h) (missing-same b two y i)
    (λ e f.
    let own = both-there x y (to_cell (div_round (x *ℤ y) MILLION)) e f in
    let found = product-in a one b two c both is x y (e, h) (f, i) (mul x y) own (g e f).0 (g e f).1 in
    found ∙ ap (scaled c) own)

module _ (r : Fraction) (ratio : IsRatio r) where
  abbrev s : ℕ → Fraction
  s n = raised r n

  q : (n : ℕ) → IsRatio (raised r n)
  q n = raised-ratio r ratio n

  pub operation-in : {k : PointKind} {mx my mz u : Measure} → OperationRule k mx my mz u → (x y z : ℤ) → IsOf r mx x → IsOf r my y → IsOf r mz z
      → IsOf r u (pointwise k x y z) → IsOperationExact (ratio_of r u) k u x y → pointwise k (number_in r mx x) (number_in r my y) (number_in r mz z) ≡ number_in r u (pointwise k x y z)
  unfolding pointwise
  operation-in (OperationRule.plus {n}) x y z h i j w e = sums (s n) (q n) x y h i e
  operation-in (OperationRule.minus {n}) x y z h i j w e = gaps (s n) (q n) x y h i e
  operation-in (OperationRule.times {n}) x y z h i j w e = first-product (s n) (q n) x y h e
  operation-in (OperationRule.factor {n}) x y z h i j w e = product (s n) (q n) x y i e
  operation-in (OperationRule.product {m} {n}) x y z h i j w e = both-product (s m) (q m) (s n) (q n) (s (suc (m + n))) (q (suc (m + n))) (raised-product r m n) x y h i e
  operation-in (OperationRule.over {n}) x y z h i j w e = share (s n) (q n) x y h e
  operation-in (OperationRule.proportion {n}) x y z h i j w e = proportions (s n) (q n) x y h i
  operation-in (OperationRule.quotient {m} {n}) x y z h i j w e = quotient-in (s m) (q m) (s n) (q n) (s (suc (m + n))) (q (suc (m + n))) (raised-product r m n) x y h i e
  operation-in (OperationRule.root {n}) x y z h i j w e = root-in (s n) (q n) (s (suc (n + n))) (q (suc (n + n))) (raised-product r n n) x h w e
  operation-in (OperationRule.negative {n}) x y z h i j w e = negated (s n) (q n) x h w e
  operation-in (OperationRule.magnitude {n}) x y z h i j w e = sizes (s n) (q n) x h w
  operation-in (OperationRule.greater {n}) x y z h i j w e = greater (s n) (q n) x y h i
  operation-in (OperationRule.lesser {n}) x y z h i j w e = lesser (s n) (q n) x y h i
  operation-in (OperationRule.filled {n}) x y z h i j w e = filled (s n) (q n) x y h
  operation-in (OperationRule.chosen {n}) x y z h i j w e = chosen (s n) (q n) (is_true x) y z
  operation-in (OperationRule.kept {n}) x y z h i j w e = kept (s n) (q n) (is_true y) x
  operation-in (OperationRule.compared {n} {c}) x y z h i j w e = screens-have-no-unit (s n) (q n) c x y h i
  operation-in (OperationRule.is_null {n}) x y z h i j w e = ap truth (missing-same (s n) (q n) x h)
  operation-in (OperationRule.not_null {n}) x y z h i j w e = ap truth (units.present-same (s n) (q n) x h)
  operation-in (OperationRule.sign {n}) x y z h i j w e = signs (s n) (q n) x h
