-- Roots of quotients of prices in another unit: deviations with weights, and errors of slopes.
use Rattle.std.proofs.Common.{◌≡◌, ℕ, zero, suc, ◌+◌, ◌-◌, ◌*◌, ◌/◌, ◌^◌, ◌==◌, Bool, true, false, if◌then◌else◌, ℤ, pos, negsuc, ◌-ℤ◌, ◌*ℤ◌, List, [], ◌∷◌, length, map, unsigned_abs, inl, inr, refl, sym, ap, ◌∙◌, arith}
use Rattle.std.specs.List.{list_any}
use Rattle.std.proofs.Math.Nat.{mul-pos, mul-sub, mul-div_cancel}
use Rattle.std.proofs.lemmas.Bool.Decides.{nat_tests}
use Rattle.std.proofs.lemmas.List.{length-map}
use Rattle.pl_spec.specs.Cells.{total}
use Rattle.pl_spec.specs.Rounding.{MISSING, Fraction, is_missing, scaled, to_cell}
use Rattle.pl_pipeline.specs.Formula.{FINE, PairSums, pair_sums, spread_x, spread_y, joint_spread, square, near_root, root_quot, slope_error, products, weights, weighted_squares, weighted_deviation, faded_deviation}
use Rattle.pl_invariance.specs.Shapes.{IsRootExact, IsFadedExact, IsErrorExact}
use Rattle.pl_invariance.specs.Units.{IsRatio, AreExact}
use Rattle.pl_invariance.proofs.Exact.{missing_stays, other_sign, same_factor}
use Rattle.pl_invariance.proofs.Formulas.{missing-same, root-of, squares-of}
use Rattle.pl_invariance.proofs.Paired.{pairs-swapped}
use Rattle.pl_invariance.proofs.Powers.{By, factor-by, minus-by, product-by, size-by}
use Rattle.pl_invariance.proofs.Scales.{squared, ratio-squared, root-same, ArePaired, paired, AreScaled, magnitudes}
use Rattle.pl_invariance.proofs.Slopes.{of_x, of_y, joint-times, spread-times, spread-swapped, swapped-sums}
use Rattle.pl_invariance.proofs.Units as units

-- what is left of a product, times k and q
less-product : (a j k q : ℕ) → (a - j) * k * q ≡ k * q * a - k * q * j
less-product a j k q = turned (a - j) ∙ mul-sub (k * q) a j
  where
    turned : (d : ℕ) → d * k * q ≡ k * q * d
    turned d = omega arith

apart : (a a' j j' k p q : ℕ) → a' * q ≡ a * p → j' * q ≡ j * p → (a' - j') * k * q ≡ (a - j) * k * p
apart a a' j j' k p q e f =
    less-product a' j' k q ∙ ap (λ z. z - k * q * j') (moved a a' e) ∙ ap (λ z. k * p * a - z) (moved j j' f)
    ∙ sym (less-product a j k p)
  where
    moved : (b b' : ℕ) → b' * q ≡ b * p → k * q * b' ≡ k * p * b
    moved b b' h =
        let left : k * q * b' ≡ k * (b' * q) = omega arith in
        let right : k * (b * p) ≡ k * p * b = omega arith in
        left ∙ ap (λ z. k * z) h ∙ right

pub near-double : (q : ℕ) → near_root ((2 * q) * (2 * q)) ≡ q
near-double q = ap (λ n. (n + 1) / 2) (root-of (2 * q)) ∙ omega arith

-- the error of a slope, from the spreads, how far the values go together, and their number
error_of : ℕ → ℕ → ℕ → ℕ → ℤ
error_of xx yy j n = root_quot ((xx * yy - j * j) * 10 ^ 12) (xx * xx * (n - 2))

error-is : (s : PairSums) → slope_error s ≡ error_of (unsigned_abs (spread_x s)) (unsigned_abs (spread_y s)) (unsigned_abs (joint_spread s)) s.number
unfolding slope_error error_of
error-is s = refl

module _ (r : Fraction) (ratio : IsRatio r) where
  -- a cell in the other unit is no negative number, where it is none
  pub stays-positive : (k : ℕ) (y : ℤ) → By r.den r.num y (pos k) → pos (unsigned_abs y) ≡ y
  stays-positive k (pos n) e = refl
  stays-positive k (negsuc n) e = absurd (other_sign (k * r.num) (suc n * r.den) (mul-pos (omega arith) ratio.1) (sym e))

  pub root-scaled : (a a' b : ℕ) → a' * (r.den * r.den) ≡ a * (r.num * r.num) → IsRootExact r a b
      → root_quot a' b ≡ scaled r (root_quot a b)
  root-scaled a a' zero e h = sym (missing_stays r)
  root-scaled a a' (suc b) e (inl none) = absurd (omega arith)
  root-scaled a a' (suc b) e (inr h) =
      let k : ℕ = near_root (4 * a / suc b) in
      let x : ℤ = root_quot a (suc b) in
      let q : ℕ = unsigned_abs (scaled r x) in
      let no : (suc b == 0) ≡ false = grind (arith, nat_tests) in
      let is : x ≡ to_cell (pos k) = rw no refl in
      let root : x ≡ pos k = is ∙ units.cell-stays (pos k) (ap is_missing (sym is) ∙ h.0.0) in
      let times : By r.den r.num (scaled r x) (pos k) = units.exact-times r ratio x h.0 ∙ ap (λ z. z *ℤ pos r.num) root in
      let squares : q * q * (r.den * r.den) ≡ k * k * (r.num * r.num)
      = squares-of q k r.den r.num (size-by r.den r.num (scaled r x) (pos k) times) in
      let whole : k * k * suc b ≡ a = ap (λ (z : ℤ). square z * suc b) (sym root) ∙ h.1 in
      let other : a' ≡ q * q * suc b
      = same_factor a' (q * q * suc b) (r.den * r.den) (mul-pos ratio.1 ratio.1)
      (e ∙ ap (λ z. z * (r.num * r.num)) (sym whole) ∙ moved k (suc b) r.num ∙ ap (λ z. z * suc b) (sym squares) ∙ sym (moved q (suc b) r.den)) in
      let four : 4 * (q * q * suc b) ≡ (2 * q) * (2 * q) * suc b = omega arith in
      let near : near_root (4 * a' / suc b) ≡ q
      = ap (λ z. near_root (4 * z / suc b)) other ∙ ap (λ z. near_root (z / suc b)) four
      ∙ ap near_root (mul-div_cancel ((2 * q) * (2 * q)) (omega arith)) ∙ near-double q in
      let there : root_quot a' (suc b) ≡ to_cell (pos (near_root (4 * a' / suc b))) = rw no refl in
      there ∙ ap (λ n. to_cell (pos n)) near ∙ ap to_cell (stays-positive k (scaled r x) times)
      ∙ units.cell-scaled r ratio x (units.exact-present r ratio x h.0)
    where
      moved : (c n b : ℕ) → c * c * n * (b * b) ≡ c * c * (b * b) * n
      moved c n b = omega arith

  -- ---- deviations with weights

  square-by : (y x : ℤ) → By r.den r.num y x → By (r.den * r.den) (r.num * r.num) (y *ℤ y) (x *ℤ x)
  square-by y x e = product-by r.den r.num r.den r.num y x y x e e

  weighed : (qs ps : List (ℤ × ℤ)) → ArePaired r ratio qs ps
      → units.AllTimes (squared r) (ratio-squared r ratio) (map (λ q. q.0 *ℤ (q.1 *ℤ q.1)) qs) (map (λ p. p.0 *ℤ (p.1 *ℤ p.1)) ps)
  unfolding ArePaired
  weighed [] [] h = tt
  weighed [] (p ∷ ps) h = absurd h
  weighed (q ∷ qs) [] h = absurd h
  weighed (q ∷ qs) (p ∷ ps) h =
      (rw (h.0) (factor-by (r.den * r.den) (r.num * r.num) p.0 (q.1 *ℤ q.1) (p.1 *ℤ p.1) (square-by q.1 p.1 h.1)), weighed qs ps h.2)

  deviation-in : (ws xs : List ℤ) → AreExact r xs → IsFadedExact r ws xs
      → weighted_deviation ws (map (scaled r) xs) ≡ scaled r (weighted_deviation ws xs)
  unfolding weighted_deviation
  deviation-in ws xs h e =
      let v : ℤ = total ws in
      let one : ℤ = total (products ws xs) in
      let other : ℤ = total (products ws (map (scaled r) xs)) in
      let sum : ℤ = weighted_squares ws xs in
      let sums : ℤ = weighted_squares ws (map (scaled r) xs) in
      let d2 = r.den * r.den in
      let n2 = r.num * r.num in
      let first : By r.den r.num other one = units.total-times r ratio _ _ (units.second-products r ratio ws xs h) in
      let second : By d2 n2 sums sum
      = units.total-times (squared r) (ratio-squared r ratio) _ _ (weighed _ _ (paired r ratio ws xs h)) in
      let whole = minus-by d2 n2 (v *ℤ sums) (other *ℤ other) (v *ℤ sum) (one *ℤ one) (factor-by d2 n2 v sums sum second) (square-by other one first) in
      root-scaled (unsigned_abs ((v *ℤ sum) -ℤ (one *ℤ one))) (unsigned_abs ((v *ℤ sums) -ℤ (other *ℤ other)))
      (unsigned_abs ((v *ℤ v) -ℤ total (products ws ws)))
      (size-by d2 n2 ((v *ℤ sums) -ℤ (other *ℤ other)) ((v *ℤ sum) -ℤ (one *ℤ one)) whole) e

  pub faded-in : (decay : ℤ) (xs : List ℤ) → AreExact r xs
      → (list_any is_missing xs ≡ false → IsFadedExact r (weights FINE decay (length xs)) xs)
      → faded_deviation decay (map (scaled r) xs) ≡ scaled r (faded_deviation decay xs)
  faded-in decay xs h e =
      ap (λ n. made (weights FINE decay n) (list_any is_missing us) us) (length-map xs (scaled r))
      ∙ ap (λ b. made ws b us) (missing-same r ratio xs h)
      ∙ step (list_any is_missing xs) e
    where
      us : List ℤ
      us = map (scaled r) xs

      ws : List ℤ
      ws = weights FINE decay (length xs)

      made : List ℤ → Bool → List ℤ → ℤ
      made vs b ys = if b then MISSING else weighted_deviation vs ys

      step : (b : Bool) → (b ≡ false → IsFadedExact r ws xs) → made ws b us ≡ scaled r (made ws b xs)
      step true e = sym (missing_stays r)
      step false e = deviation-in ws xs h (e refl)

  -- ---- errors of slopes

  pub error-in : (t s : PairSums) → AreScaled r ratio t s → IsErrorExact r s → slope_error t ≡ scaled r (slope_error s)
  unfolding error_of
  error-in t s h e =
      let xx = unsigned_abs (spread_x s) in
      let yy = unsigned_abs (spread_y s) in
      let vv = unsigned_abs (spread_y t) in
      let j = unsigned_abs (joint_spread s) in
      let i = unsigned_abs (joint_spread t) in
      let d2 = r.den * r.den in
      let n2 = r.num * r.num in
      let others : vv * d2 ≡ yy * n2 = size-by d2 n2 (spread_y t) (spread_y s) h.other in
      let left : xx * vv * d2 ≡ xx * (vv * d2) = omega arith in
      let right : xx * (yy * n2) ≡ xx * yy * n2 = omega arith in
      let areas : xx * vv * d2 ≡ xx * yy * n2 = left ∙ ap (λ z. xx * z) others ∙ right in
      let joints : i * i * d2 ≡ j * j * n2 = squares-of i j r.den r.num (magnitudes r ratio (joint_spread t) (joint_spread s) h.joint) in
      error-is t
      ∙ ap (λ (z : ℤ). error_of (unsigned_abs z) vv i t.number) h.spread
      ∙ ap (λ n. error_of xx vv i n) h.number
      ∙ root-scaled ((xx * yy - j * j) * 10 ^ 12) ((xx * vv - i * i) * 10 ^ 12) (xx * xx * (s.number - 2))
      (apart (xx * yy) (xx * vv) (j * j) (i * i) (10 ^ 12) n2 d2 areas joints) e
      ∙ ap (scaled r) (sym (error-is s))

  -- of prices on prices
  module _ (xs ys : List ℤ) (hx : AreExact r xs) (hy : AreExact r ys) where
    abbrev us : List ℤ
    us = map (scaled r) xs

    abbrev vs : List ℤ
    vs = map (scaled r) ys

    abbrev one : PairSums
    one = pair_sums xs ys

    abbrev other : PairSums
    other = pair_sums us vs

    number-swapped : (cs bs : List ℤ) → (pair_sums bs cs).number ≡ (pair_sums cs bs).number
    number-swapped cs bs = ap (λ (ps : List (ℤ × ℤ)). length ps) (pairs-swapped cs bs) ∙ (swapped-sums cs bs).number

    pub number-same : other.number ≡ one.number
    number-same =
        (of_y r ratio xs ys hx hy).number ∙ number-swapped ys us ∙ (of_x r ratio xs ys hx hy).number ∙ number-swapped xs ys

    spread-by : By (r.den * r.den) (r.num * r.num) (spread_y other) (spread_y one)
    spread-by =
        (of_y r ratio xs ys hx hy).other
        ∙ ap (λ z. z *ℤ pos (r.num * r.num)) (sym (spread-swapped us ys) ∙ (of_x r ratio xs ys hx hy).spread ∙ spread-swapped xs ys)

    pub error-same : slope_error other ≡ slope_error one
    unfolding error_of
    error-same =
        let d2 = r.den * r.den in
        let n2 = r.num * r.num in
        let two = ratio-squared r ratio in
        let xx = unsigned_abs (spread_x one) in
        let yy = unsigned_abs (spread_y one) in
        let j = unsigned_abs (joint_spread one) in
        let uu = unsigned_abs (spread_x other) in
        let vv = unsigned_abs (spread_y other) in
        let i = unsigned_abs (joint_spread other) in
        let firsts : uu * d2 ≡ xx * n2 = size-by d2 n2 (spread_x other) (spread_x one) (spread-times r ratio xs ys hx hy) in
        let seconds : vv * d2 ≡ yy * n2 = size-by d2 n2 (spread_y other) (spread_y one) spread-by in
        let joints : i * d2 ≡ j * n2 = size-by d2 n2 (joint_spread other) (joint_spread one) (joint-times r ratio xs ys hx hy) in
        error-is other
        ∙ ap (error_of uu vv i) number-same
        ∙ root-same ((xx * yy - j * j) * 10 ^ 12) ((uu * vv - i * i) * 10 ^ 12) (xx * xx * (one.number - 2)) (uu * uu * (one.number - 2))
        (n2 * n2) (d2 * d2) (mul-pos two.0 two.0) (mul-pos two.1 two.1)
        (apart (xx * yy) (uu * vv) (j * j) (i * i) (10 ^ 12) (n2 * n2) (d2 * d2) (crossed uu xx vv yy d2 n2 firsts seconds) (squares-of i j d2 n2 joints))
        (beside uu xx d2 n2 (one.number - 2) firsts)
        ∙ sym (error-is one)
      where
        crossed : (a b c e d n : ℕ) → a * d ≡ b * n → c * d ≡ e * n → a * c * (d * d) ≡ b * e * (n * n)
        crossed a b c e d n f g =
            let left : a * c * (d * d) ≡ (a * d) * (c * d) = omega arith in
            let right : (b * n) * (e * n) ≡ b * e * (n * n) = omega arith in
            left ∙ ap (λ z. z * (c * d)) f ∙ ap (λ z. (b * n) * z) g ∙ right

        beside : (a b d n m : ℕ) → a * d ≡ b * n → a * a * m * (d * d) ≡ b * b * m * (n * n)
        beside a b d n m f =
            let left : a * a * m * (d * d) ≡ (a * a * (d * d)) * m = omega arith in
            let right : (b * b * (n * n)) * m ≡ b * b * m * (n * n) = omega arith in
            left ∙ ap (λ z. z * m) (squares-of a b d n f) ∙ right
