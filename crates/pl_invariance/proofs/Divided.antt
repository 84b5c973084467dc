-- Quotients of numbers of two units, roots, and the intercept of prices on prices.
use Rattle.std.proofs.Common.{◌≡◌, ℕ, zero, suc, ◌*◌, ◌<◌, Bool, true, false, ◌||◌, if◌then◌else◌, ℤ, pos, negsuc, ◌-ℤ◌, ◌*ℤ◌, neg_ℤ, List, map, unsigned_abs, inl, inr, refl, sym, ap, ap₂, ◌∙◌, arith}
use Rattle.std.specs.Int.RustNames.{int_lt}
use Rattle.std.proofs.Math.Nat.{mul-pos}
use Rattle.pl_spec.specs.Rounding.{MISSING, MILLION, Fraction, is_missing, scaled, div_round, to_cell, quot, div}
use Rattle.pl_pipeline.specs.Elementary.{sqrt, near_root}
use Rattle.pl_pipeline.specs.Formula.{square, PairSums, pair_sums, sums_of_pairs, spread_x, joint_spread, intercept}
use Rattle.pl_invariance.specs.Exact.{Divides}
use Rattle.pl_invariance.specs.Pipelines.{IsQuotientExact}
use Rattle.pl_invariance.specs.Ranked.{IsExact}
use Rattle.pl_invariance.specs.Units.{IsRatio, AreExact, IsUnrounded}
use Rattle.pl_invariance.proofs.Exact.{missing_stays, other_sign, cancel, same_factor}
use Rattle.pl_invariance.proofs.Formulas.{squares-of}
use Rattle.pl_invariance.proofs.Indicators.{missing-same}
use Rattle.pl_invariance.proofs.Units.{on_both}
use Rattle.pl_invariance.proofs.Paired.{pairs-swapped}
use Rattle.pl_invariance.proofs.Powers.{By, factor-by, minus-by, product-by, size-by, written-by}
use Rattle.pl_invariance.proofs.Roots.{near-double, stays-positive, number-same}
use Rattle.pl_invariance.proofs.Scales.{squared, ratio-squared}
use Rattle.pl_invariance.proofs.Slopes.{of_x, of_y, joint-times, spread-times, swapped-sums}
use Rattle.pl_invariance.proofs.Units as units

-- c is the product of a and b
module _ (a : Fraction) (one : IsRatio a) (b : Fraction) (two : IsRatio b) (c : Fraction) (both : IsRatio c)
    (is : (c.num ≡ a.num * b.num) × (c.den ≡ a.den * b.den)) where
  -- by a number above 0
  above : (n n' : ℤ) (m m' : ℕ) → By c.den c.num n' n → m' * a.den ≡ m * a.num → IsUnrounded b n m
      → quot n' (pos m') ≡ scaled b (quot n (pos m))
  unfolding quot
  above n n' zero zero e f h = sym (missing_stays b)
  above n n' zero (suc m') e f h = absurd (let some : 0 < suc m' * a.den = mul-pos (omega arith) one.1 in omega (arith, some, f))
  above n n' (suc m) zero e f h = absurd (let some : 0 < suc m * a.num = mul-pos (omega arith) one.0 in omega (arith, some, f))
  above n n' (suc m) (suc m') e f (inl none) = absurd (omega arith)
  above n n' (suc m) (suc m') e f (inr h) =
      let x : ℤ = quot n (pos (suc m)) in
      let rest : By (b.den * a.den) (b.num * a.num) (scaled b x *ℤ pos (suc m')) (x *ℤ pos (suc m))
      = product-by b.den b.num a.den a.num (scaled b x) x (pos (suc m')) (pos (suc m)) (units.exact-times b two x h.0) (ap pos f) in
      let turned : By c.den c.num (scaled b x *ℤ pos (suc m')) (x *ℤ pos (suc m))
      = written-by (b.den * a.den) (b.num * a.num) c.den c.num (scaled b x *ℤ pos (suc m')) (x *ℤ pos (suc m)) (swapped b.den a.den ∙ sym is.1) (swapped b.num a.num ∙ sym is.0) rest in
      let whole : n' ≡ scaled b x *ℤ pos (suc m')
      = cancel n' (scaled b x *ℤ pos (suc m')) c.den both.1 (e ∙ ap (λ z. z *ℤ pos c.num) (sym h.1) ∙ sym turned) in
      ap (λ z. to_cell (div_round z (suc m'))) whole
      ∙ ap to_cell (units.whole-quotient (scaled b x) (suc m') (omega arith))
      ∙ units.cell-scaled b two x (units.exact-present b two x h.0)
    where
      swapped : (i j : ℕ) → i * j ≡ j * i
      swapped i j = omega arith

  divided : (n n' y y' : ℤ) → By c.den c.num n' n → By a.den a.num y' y → IsQuotientExact b n y → quot n' y' ≡ scaled b (quot n y)
  unfolding quot
  divided n n' (pos m) (pos m') e f h = above n n' m m' e (ap unsigned_abs f) h
  divided n n' (pos m) (negsuc k') e f h = absurd (other_sign (m * a.num) (suc k' * a.den) (mul-pos (omega arith) one.1) (sym f))
  divided n n' (negsuc k) (pos m') e f h = absurd (other_sign (m' * a.den) (suc k * a.num) (mul-pos (omega arith) one.0) f)
  divided n n' (negsuc k) (negsuc k') e f h =
      above (neg_ℤ n) (neg_ℤ n') (suc k) (suc k') (units.times-neg c both n' n e) (size-by a.den a.num (negsuc k') (negsuc k) f) h

  pub quotient-in : (x y : ℤ) → Divides c x → Divides a y → (is_missing x ≡ false → is_missing y ≡ false → IsQuotientExact b (x *ℤ pos MILLION) y)
      → div (scaled c x) (scaled a y) ≡ scaled b (div x y)
  unfolding div
  quotient-in x y h i g =
      on_both b two x y (scaled c x) (scaled a y) _ _ (missing-same c both x h) (missing-same a one y i)
      (λ e f. divided (x *ℤ pos MILLION) (scaled c x *ℤ pos MILLION) y (scaled a y)
      (units.times-by c both (scaled c x) x (pos MILLION) (units.exact-times c both x (e, h))) (units.exact-times a one y (f, i)) (g e f))

-- c is the square of a
module _ (a : Fraction) (one : IsRatio a) (c : Fraction) (both : IsRatio c)
    (is : (c.num ≡ a.num * a.num) × (c.den ≡ a.den * a.den)) where
  root_of : Bool → Bool → ℤ → ℤ
  root_of gone below x = if gone || below then MISSING else pos (near_root (4 * unsigned_abs x * MILLION))

  root-is : (x : ℤ) → sqrt x ≡ root_of (is_missing x) (int_lt x (pos 0)) x
  unfolding sqrt root_of
  root-is x = refl

  -- of a number that is not below 0
  there : (x : ℤ) → IsExact c x → (k : ℕ) → k ≡ near_root (4 * unsigned_abs x * MILLION) → Divides a (pos k) → k * k ≡ unsigned_abs x * MILLION
      → pos (near_root (4 * unsigned_abs (scaled c x) * MILLION)) ≡ scaled a (pos k)
  there x h k e w whole =
      let times : By a.den a.num (scaled a (pos k)) (pos k) = units.exact-times a one (pos k) (refl, w) in
      let q : ℕ = unsigned_abs (scaled a (pos k)) in
      let v : ℕ = unsigned_abs (scaled c x) in
      let u : ℕ = unsigned_abs x in
      let squares : q * q * (a.den * a.den) ≡ k * k * (a.num * a.num)
      = squares-of q k a.den a.num (size-by a.den a.num (scaled a (pos k)) (pos k) times) in
      let size : v * c.den ≡ u * c.num = size-by c.den c.num (scaled c x) x (units.exact-times c both x h) in
      let left : q * q * c.den ≡ k * k * c.num
      = ap (λ z. q * q * z) is.1 ∙ squares ∙ ap (λ z. k * k * z) (sym is.0) in
      let same : v * MILLION * c.den ≡ q * q * c.den
      = turned v c.den ∙ ap (λ z. z * MILLION) size ∙ sym (turned u c.num) ∙ ap (λ z. z * c.num) (sym whole) ∙ sym left in
      let other : v * MILLION ≡ q * q = same_factor (v * MILLION) (q * q) c.den both.1 same in
      let four : 4 * v * MILLION ≡ 4 * (v * MILLION) = omega arith in
      let double : 4 * (q * q) ≡ (2 * q) * (2 * q) = omega arith in
      ap (λ z. pos (near_root z)) (four ∙ ap (λ z. 4 * z) other ∙ double) ∙ ap pos (near-double q) ∙ stays-positive a one k (scaled a (pos k)) times
    where
      turned : (n d : ℕ) → n * MILLION * d ≡ n * d * MILLION
      turned n d = omega arith

  pub root-in : (x : ℤ) → Divides c x → Divides a (sqrt x) → (is_missing (sqrt x) ≡ false → square (sqrt x) ≡ unsigned_abs x * MILLION)
      → sqrt (scaled c x) ≡ scaled a (sqrt x)
  unfolding root_of
  root-in x h w g = step (is_missing x) (int_lt x (pos 0)) refl refl
    where
      step : (gone below : Bool) → is_missing x ≡ gone → int_lt x (pos 0) ≡ below → sqrt (scaled c x) ≡ scaled a (sqrt x)
      step true below e f =
          root-is (scaled c x) ∙ ap (λ z. root_of z (int_lt (scaled c x) (pos 0)) (scaled c x)) (missing-same c both x h ∙ e)
          ∙ sym (missing_stays a) ∙ ap (scaled a) (sym (root-is x ∙ ap (λ z. root_of z (int_lt x (pos 0)) x) e))
      step false true e f =
          let sign = units.less-same c both (scaled c x) (pos 0) x (pos 0) (units.exact-times c both x (e, h)) (units.times-zero c both) in
          root-is (scaled c x) ∙ ap₂ (λ (z y : Bool). root_of z y (scaled c x)) (missing-same c both x h ∙ e) (sign ∙ f)
          ∙ sym (missing_stays a) ∙ ap (scaled a) (sym (root-is x ∙ ap₂ (λ (z y : Bool). root_of z y x) e f))
      step false false e f =
          let k : ℕ = near_root (4 * unsigned_abs x * MILLION) in
          let sign = units.less-same c both (scaled c x) (pos 0) x (pos 0) (units.exact-times c both x (e, h)) (units.times-zero c both) in
          let own : sqrt x ≡ pos k = root-is x ∙ ap₂ (λ (z y : Bool). root_of z y x) e f in
          let present : is_missing (sqrt x) ≡ false = ap is_missing own in
          let whole : k * k ≡ unsigned_abs x * MILLION = ap square (sym own) ∙ g present in
          root-is (scaled c x) ∙ ap₂ (λ (z y : Bool). root_of z y (scaled c x)) (missing-same c both x h ∙ e) (sign ∙ f)
          ∙ there x (e, h) k refl (rw own at w) whole
          ∙ ap (scaled a) (sym own)

-- ---- the intercept of prices on prices

x-swapped : (xs ys : List ℤ) → (pair_sums ys xs).x ≡ (pair_sums xs ys).y
x-swapped xs ys = ap (λ (ps : List (ℤ × ℤ)). (sums_of_pairs ps).x) (pairs-swapped xs ys) ∙ (swapped-sums xs ys).x

y-swapped : (xs ys : List ℤ) → (pair_sums ys xs).y ≡ (pair_sums xs ys).x
y-swapped xs ys = ap (λ (ps : List (ℤ × ℤ)). (sums_of_pairs ps).y) (pairs-swapped xs ys) ∙ (swapped-sums xs ys).y

module _ (r : Fraction) (ratio : IsRatio r) (xs ys : List ℤ) (hx : AreExact r xs) (hy : AreExact r ys) where
  abbrev us : List ℤ
  us = map (scaled r) xs

  abbrev s : PairSums
  s = pair_sums xs ys

  abbrev t : PairSums
  t = pair_sums (map (scaled r) xs) (map (scaled r) ys)

  abbrev d : ℕ
  d = r.den

  abbrev n : ℕ
  n = r.num

  first-by : By d n t.x s.x
  first-by =
      ap (λ z. z *ℤ pos d) ((of_y r ratio xs ys hx hy).first ∙ sym (y-swapped us ys)) ∙ (of_x r ratio xs ys hx hy).second
      ∙ ap (λ z. z *ℤ pos n) (y-swapped xs ys)

  second-by : By d n t.y s.y
  second-by =
      (of_y r ratio xs ys hx hy).second
      ∙ ap (λ z. z *ℤ pos n) (sym (x-swapped us ys) ∙ (of_x r ratio xs ys hx hy).first ∙ x-swapped xs ys)

  pub intercept-both : IsQuotientExact r ((s.y *ℤ spread_x s) -ℤ (joint_spread s *ℤ s.x)) (pos s.number *ℤ spread_x s)
      → intercept t ≡ scaled r (intercept s)
  unfolding intercept
  intercept-both exact =
      let two = ratio-squared r ratio in
      let cube : Fraction = record { num = (n * n) * n; den = (d * d) * d } in
      let cubed : IsRatio cube = (mul-pos two.0 ratio.0, mul-pos two.1 ratio.1) in
      let spread : By (d * d) (n * n) (spread_x t) (spread_x s) = spread-times r ratio xs ys hx hy in
      let joint : By (d * d) (n * n) (joint_spread t) (joint_spread s) = joint-times r ratio xs ys hx hy in
      let left = written-by (d * (d * d)) (n * (n * n)) ((d * d) * d) ((n * n) * n) (t.y *ℤ spread_x t) (s.y *ℤ spread_x s) (grouped d) (grouped n)
      (product-by d n (d * d) (n * n) t.y s.y (spread_x t) (spread_x s) second-by spread) in
      let right = product-by (d * d) (n * n) d n (joint_spread t) (joint_spread s) t.x s.x joint first-by in
      let above = minus-by ((d * d) * d) ((n * n) * n) (t.y *ℤ spread_x t) (joint_spread t *ℤ t.x) (s.y *ℤ spread_x s) (joint_spread s *ℤ s.x) left right in
      let below : By (d * d) (n * n) (pos t.number *ℤ spread_x t) (pos s.number *ℤ spread_x s)
      = ap (λ (m : ℕ). (pos m *ℤ spread_x t) *ℤ pos (d * d)) (number-same r ratio xs ys hx hy)
      ∙ factor-by (d * d) (n * n) (pos s.number) (spread_x t) (spread_x s) spread in
      divided (squared r) two r ratio cube cubed (refl, refl) _ _ _ _ above below exact
    where
      grouped : (k : ℕ) → k * (k * k) ≡ (k * k) * k
      grouped k = omega arith
