-- Formulas over prices in another unit.
use Rattle.std.proofs.Common.{◌≡◌, ℕ, zero, suc, ◌+◌, ◌*◌, ◌/◌, ◌<◌, ◌≤◌, ◌==◌, Bool, true, false, not, ◌||◌, if◌then◌else◌, ℤ, pos, negsuc, ◌+ℤ◌, ◌-ℤ◌, ◌*ℤ◌, List, [], ◌∷◌, length, map, fold, refl, sym, ◌∙◌, ap, arith, inl, inr}
use Rattle.std.specs.Int.RustNames.{unsigned_abs}
use Rattle.std.specs.List.{list_any, range_with_len}
use Rattle.std.specs.Prelude.{sum_by}
use Rattle.std.proofs.Math.Nat.{mul-pos, mul-div_cancel}
use Rattle.std.proofs.lemmas.Bool.{true≢false, ne_eqb}
use Rattle.std.proofs.lemmas.Int.{unsigned_abs-mul}
use Rattle.std.proofs.lemmas.List.{length-map}
use Rattle.pl_spec.specs.Cells.{total, count, present_values}
use Rattle.pl_spec.specs.Rounding.{LIMIT, MILLION, MISSING, Fraction, is_missing, scaled, div_round, to_cell, quot, of_both, add, sub, mul, isqrt}
use Rattle.pl_spec.proofs.Each.{Each}
use Rattle.pl_spec.proofs.Roots.{isqrt-is_root, one_root}
use Rattle.pl_pipeline.specs.Formula.{mean, if_any, square, spread, deviation, products, places, FINE, weights, faded_mean, formula}
use Rattle.pl_invariance.specs.Ranked.{IsExact}
use Rattle.pl_invariance.specs.Units.{IsRatio, AreExact, IsUnrounded, middle, IsSpreadExact, IsBandExact, FormulasHaveUnits}
use Rattle.pl_invariance.proofs.Compared.{oldest_scaled}
use Rattle.pl_invariance.proofs.Exact.{missing_stays, other_sign, same_factor}
use Rattle.pl_invariance.proofs.Units as units

-- a product of squares
pub squares-of : (a b d n : ℕ) → a * d ≡ b * n → a * a * (d * d) ≡ b * b * (n * n)
squares-of a b d n e =
    let one : a * a * (d * d) ≡ (a * d) * (a * d) = omega arith in
    let two : (b * n) * (b * n) ≡ b * b * (n * n) = omega arith in
    one ∙ ap (λ z. z * z) e ∙ two

pub root-of : (s : ℕ) → isqrt (s * s) ≡ s
root-of s = one_root (s * s) (isqrt (s * s)) s (isqrt-is_root (s * s)) (record { within = omega arith; greatest = omega arith })

module _ (r : Fraction) (ratio : IsRatio r) where
  abbrev Times : ℤ → ℤ → Type 0
  Times y x = units.Times r ratio y x

  -- ---- sums and means

  sums : (xs : List ℤ) → AreExact r xs → unsigned_abs (total (present_values xs)) ≤ LIMIT
      → if_any (map (scaled r) xs) (to_cell (total (present_values (map (scaled r) xs)))) ≡ scaled r (if_any xs (to_cell (total (present_values xs))))
  sums xs h small =
      ap (λ n. if n == 0 then MISSING else to_cell (total (present_values (map (scaled r) xs)))) (units.count-same r ratio xs h)
      ∙ step (count xs == 0)
    where
      inside : to_cell (total (present_values xs)) ≡ total (present_values xs)
      inside = units.small-cell (total (present_values xs)) small

      step : (b : Bool) → (if b then MISSING else to_cell (total (present_values (map (scaled r) xs)))) ≡ scaled r (if b then MISSING else to_cell (total (present_values xs)))
      step true = sym (missing_stays r)
      step false =
          sym (ap (scaled r) inside
          ∙ units.is-scaled r ratio (total (present_values xs)) (total (present_values (map (scaled r) xs))) small (units.total-same r ratio xs h))

  means : (xs : List ℤ) → AreExact r xs → IsUnrounded r (total (present_values xs)) (count xs) → mean (map (scaled r) xs) ≡ scaled r (mean xs)
  means xs h u =
      ap (λ n. quot (total (present_values (map (scaled r) xs))) (pos n)) (units.count-same r ratio xs h)
      ∙ units.quot-scaled r ratio (total (present_values xs)) (total (present_values (map (scaled r) xs))) (count xs) (units.total-same r ratio xs h) u

  firsts : (xs ys : List ℤ) → AreExact r xs → Times (total (products (map (scaled r) xs) ys)) (total (products xs ys))
  firsts xs ys h = units.total-times r ratio (products (map (scaled r) xs) ys) (products xs ys) (units.first-products r ratio xs ys h)

  seconds : (ys xs : List ℤ) → AreExact r xs → Times (total (products ys (map (scaled r) xs))) (total (products ys xs))
  seconds ys xs h = units.total-times r ratio (products ys (map (scaled r) xs)) (products ys xs) (units.second-products r ratio ys xs h)

  linear : (xs : List ℤ) → AreExact r xs → IsUnrounded r (total (products (places xs) xs)) (length xs * (length xs + 1) / 2)
      → quot (total (products (places (map (scaled r) xs)) (map (scaled r) xs))) (pos (length (map (scaled r) xs) * (length (map (scaled r) xs) + 1) / 2))
      ≡ scaled r (quot (total (products (places xs) xs)) (pos (length xs * (length xs + 1) / 2)))
  linear xs h u =
      ap (λ n. quot (total (products (map pos (range_with_len 1 n)) (map (scaled r) xs))) (pos (n * (n + 1) / 2))) (length-map xs (scaled r))
      ∙ units.quot-scaled r ratio (total (products (places xs) xs)) (total (products (places xs) (map (scaled r) xs))) (length xs * (length xs + 1) / 2) (seconds (places xs) xs h) u

  weighted : (xs ys : List ℤ) (weight : ℕ) → AreExact r xs → total (present_values ys) ≡ pos weight → IsUnrounded r (total (products xs ys)) weight
      → quot (total (products (map (scaled r) xs) ys)) (total (present_values ys)) ≡ scaled r (quot (total (products xs ys)) (total (present_values ys)))
  weighted xs ys weight h e u =
      ap (quot (total (products (map (scaled r) xs) ys))) e
      ∙ units.quot-scaled r ratio (total (products xs ys)) (total (products (map (scaled r) xs) ys)) weight (firsts xs ys h) u
      ∙ ap (λ m. scaled r (quot (total (products xs ys)) m)) (sym e)

  dollars : (xs ys : List ℤ) → AreExact r xs → IsUnrounded r (total (products xs ys)) (length xs * MILLION)
      → quot (total (products (map (scaled r) xs) ys)) (pos (length (map (scaled r) xs) * MILLION)) ≡ scaled r (quot (total (products xs ys)) (pos (length xs * MILLION)))
  dollars xs ys h u =
      ap (λ n. quot (total (products (map (scaled r) xs) ys)) (pos (n * MILLION))) (length-map xs (scaled r))
      ∙ units.quot-scaled r ratio (total (products xs ys)) (total (products (map (scaled r) xs) ys)) (length xs * MILLION) (firsts xs ys h) u

  pub missing-same : (xs : List ℤ) → AreExact r xs → list_any is_missing (map (scaled r) xs) ≡ list_any is_missing xs
  missing-same [] h = refl
  missing-same (x ∷ xs) h =
      ap (λ b. b || list_any is_missing (map (scaled r) xs)) (flip (is_missing (scaled r x)) (is_missing x) (units.present-same r ratio x h.0))
      ∙ ap (λ b. is_missing x || b) (missing-same xs h.1)
    where
      flip : (b c : Bool) → not b ≡ not c → b ≡ c
      flip true true e = refl
      flip false false e = refl
      flip true false e = absurd (true≢false (sym e))
      flip false true e = absurd (true≢false e)

  fading : (one : ℕ) (decay : ℤ) (xs : List ℤ) (weight : ℕ) → AreExact r xs → total (weights one decay (length xs)) ≡ pos weight
      → IsUnrounded r (total (products (weights one decay (length xs)) xs)) weight → faded_mean one decay (map (scaled r) xs) ≡ scaled r (faded_mean one decay xs)
  fading one decay xs weight h e u =
      ap (λ n. if list_any is_missing (map (scaled r) xs) then MISSING else quot (total (products (weights one decay n) (map (scaled r) xs))) (total (weights one decay n))) (length-map xs (scaled r))
      ∙ ap (λ b. if b then MISSING else quot (total (products ws (map (scaled r) xs))) (total ws)) (missing-same xs h)
      ∙ step (list_any is_missing xs)
    where
      ws : List ℤ
      ws = weights one decay (length xs)

      step : (b : Bool) → (if b then MISSING else quot (total (products ws (map (scaled r) xs))) (total ws)) ≡ scaled r (if b then MISSING else quot (total (products ws xs)) (total ws))
      step true = sym (missing_stays r)
      step false =
          ap (quot (total (products ws (map (scaled r) xs)))) e
          ∙ units.quot-scaled r ratio (total (products ws xs)) (total (products ws (map (scaled r) xs))) weight (seconds ws xs h) u
          ∙ ap (λ m. scaled r (quot (total (products ws xs)) m)) (sym e)

  -- ---- deviations

  module _ (vs : List ℤ) (h : Each (IsExact r) vs) (s : IsSpreadExact r vs) where
    abbrev others : List ℤ
    others = map (scaled r) vs

    abbrev root : ℤ
    root = pos (spread vs)

    long : length others ≡ length vs
    long = length-map vs (scaled r)

    pub middle-scaled : 0 < length vs → middle others ≡ scaled r (middle vs)
    middle-scaled some =
        let all : total others ≡ (scaled r (middle vs) *ℤ pos (length vs))
        = units.whole r ratio (total vs) (total others) (middle vs) (length vs) (units.total-times r ratio others vs (units.all-scaled r ratio vs h)) s.middle_exact s.middle_whole in
        ap (div_round (total others)) long ∙ ap (λ t. div_round t (length vs)) all ∙ units.whole-quotient (scaled r (middle vs)) (length vs) some

    -- how far a value lies from another, in the other unit
    pub apart-times : (x y : ℤ) → IsExact r x → IsExact r y → Times (scaled r x -ℤ scaled r y) (x -ℤ y)
    apart-times x y hx hy = units.times-minus r ratio (scaled r x) (scaled r y) x y (units.exact-times r ratio x hx) (units.exact-times r ratio y hy)

    size-times : (y x : ℤ) → Times y x → unsigned_abs y * r.den ≡ unsigned_abs x * r.num
    size-times y x e = sym (unsigned_abs-mul y (pos r.den)) ∙ ap unsigned_abs e ∙ unsigned_abs-mul x (pos r.num)

    -- the root in the other unit is no negative number
    pub root-positive : pos (unsigned_abs (scaled r root)) ≡ scaled r root
    root-positive = by_sign (scaled r root) (units.exact-times r ratio root s.root_exact)
      where
        by_sign : (y : ℤ) → Times y root → pos (unsigned_abs y) ≡ y
        by_sign (pos n) e = refl
        by_sign (negsuc n) e = absurd (other_sign (spread vs * r.num) (suc n * r.den) (mul-pos (omega arith) ratio.1) (sym e))

    squares-times : (ys xs : List ℤ) (m : ℤ) → IsExact r m → ys ≡ map (scaled r) xs → Each (IsExact r) xs → (t u : ℕ) → t * (r.den * r.den) ≡ u * (r.num * r.num)
        → fold (λ a y. a + square (y -ℤ scaled r m)) t ys * (r.den * r.den) ≡ fold (λ a x. a + square (x -ℤ m)) u xs * (r.num * r.num)
    squares-times [] [] m hm is he t u e = e
    squares-times [] (x ∷ xs) m hm is he t u e = absurd (cc (is))
    squares-times (y ∷ ys) [] m hm is he t u e = absurd (cc (is))
    squares-times (y ∷ ys) (x ∷ xs) m hm is he t u e =
        let same : y ≡ scaled r x = cc in
        let rest : ys ≡ map (scaled r) xs = cc in
        let gap = apart-times x m he.0 hm in
        let one : square (scaled r x -ℤ scaled r m) * (r.den * r.den) ≡ square (x -ℤ m) * (r.num * r.num)
        = squares-of (unsigned_abs (scaled r x -ℤ scaled r m)) (unsigned_abs (x -ℤ m)) r.den r.num (size-times (scaled r x -ℤ scaled r m) (x -ℤ m) gap) in
        let both : (t + square (y -ℤ scaled r m)) * (r.den * r.den) ≡ (u + square (x -ℤ m)) * (r.num * r.num)
        = summed t (square (y -ℤ scaled r m)) (r.den * r.den) u (square (x -ℤ m)) (r.num * r.num) e (ap (λ z. square (z -ℤ scaled r m) * (r.den * r.den)) same ∙ one) in
        squares-times ys xs m hm rest he.1 (t + square (y -ℤ scaled r m)) (u + square (x -ℤ m)) both
      where
        summed : (t a d u b n : ℕ) → t * d ≡ u * n → a * d ≡ b * n → (t + a) * d ≡ (u + b) * n
        summed t a d u b n e f = omega arith

    pub spread-scaled : 0 < length vs → pos (spread others) ≡ scaled r root
    spread-scaled some =
        let q : ℕ = unsigned_abs (scaled r root) in
        let m' : middle others ≡ scaled r (middle vs) = middle-scaled some in
        let root' : q * r.den ≡ spread vs * r.num = size-times (scaled r root) root (units.exact-times r ratio root s.root_exact) in
        let sum' : sum_by (λ y. square (y -ℤ scaled r (middle vs))) others * (r.den * r.den) ≡ sum_by (λ x. square (x -ℤ middle vs)) vs * (r.num * r.num)
        = squares-times others vs (middle vs) s.middle_exact refl h 0 0 (omega arith) in
        let all : sum_by (λ y. square (y -ℤ scaled r (middle vs))) others * (r.den * r.den) ≡ q * q * length vs * (r.den * r.den)
        = sum' ∙ ap (λ z. z * (r.num * r.num)) (sym s.root_whole) ∙ moved (spread vs) (length vs) r.num ∙ ap (λ z. z * length vs) (sym (squares-of q (spread vs) r.den r.num root')) ∙ sym (moved q (length vs) r.den) in
        let whole : sum_by (λ y. square (y -ℤ scaled r (middle vs))) others ≡ q * q * length vs
        = same_factor _ _ (r.den * r.den) (mul-pos ratio.1 ratio.1) all in
        ap pos
        (ap (λ m. isqrt (sum_by (λ y. square (y -ℤ m)) others / length others)) m'
        ∙ ap (λ n. isqrt (sum_by (λ y. square (y -ℤ scaled r (middle vs))) others / n)) long
        ∙ ap (λ n. isqrt (n / length vs)) whole
        ∙ ap isqrt (mul-div_cancel (q * q) some)
        ∙ root-of q)
        ∙ root-positive
      where
        moved : (a n b : ℕ) → a * a * n * (b * b) ≡ a * a * (b * b) * n
        moved a n b = omega arith

  deviations : (xs : List ℤ) → AreExact r xs → IsSpreadExact r (present_values xs) → deviation (map (scaled r) xs) ≡ scaled r (deviation xs)
  deviations xs h s =
      ap (λ n. if n == 0 then MISSING else to_cell (pos (spread (present_values (map (scaled r) xs))))) (units.count-same r ratio xs h)
      ∙ ap (λ vs. if count xs == 0 then MISSING else to_cell (pos (spread vs))) (units.presents r ratio xs h).0
      ∙ step (count xs) refl
    where
      step : (n : ℕ) → count xs ≡ n → (if n == 0 then MISSING else to_cell (pos (spread (map (scaled r) (present_values xs))))) ≡ scaled r (if n == 0 then MISSING else to_cell (pos (spread (present_values xs))))
      step zero e = sym (missing_stays r)
      step (suc n) e =
          let some : 0 < length (present_values xs) = omega (arith, e) in
          let more : (suc n == 0) ≡ false = ne_eqb (suc n) 0 (λ e. omega arith) in
          rw more
          (ap to_cell (spread-scaled (present_values xs) (units.presents r ratio xs h).1 s some)
          ∙ units.cell-scaled r ratio (pos (spread (present_values xs))) (units.exact-present r ratio (pos (spread (present_values xs))) s.root_exact)
          ∙ ap (scaled r) (sym (units.small-cell (pos (spread (present_values xs))) s.root_small)))

  -- ---- bands

  pub sub-scaled : (u v : ℤ) → IsExact r u → IsExact r v → is_missing (sub u v) ≡ false → sub (scaled r u) (scaled r v) ≡ scaled r (sub u v)
  unfolding sub
  sub-scaled u v hu hv p =
      let there : is_missing (to_cell (u -ℤ v)) ≡ false = rw (hu.0, hv.0) at p in
      rw (units.exact-present r ratio u hu, units.exact-present r ratio v hv, hu.0, hv.0)
      (sym (ap (scaled r) (units.cell-stays (u -ℤ v) there) ∙ units.is-scaled r ratio (u -ℤ v) (scaled r u -ℤ scaled r v) (units.cell-small (u -ℤ v) there)
      (units.times-minus r ratio (scaled r u) (scaled r v) u v (units.exact-times r ratio u hu) (units.exact-times r ratio v hv))))

  pub add-scaled : (u v : ℤ) → IsExact r u → IsExact r v → is_missing (add u v) ≡ false → add (scaled r u) (scaled r v) ≡ scaled r (add u v)
  unfolding add
  add-scaled u v hu hv p =
      let there : is_missing (to_cell (u +ℤ v)) ≡ false = rw (hu.0, hv.0) at p in
      rw (units.exact-present r ratio u hu, units.exact-present r ratio v hv, hu.0, hv.0)
      (sym (ap (scaled r) (units.cell-stays (u +ℤ v) there) ∙ units.is-scaled r ratio (u +ℤ v) (scaled r u +ℤ scaled r v) (units.cell-small (u +ℤ v) there)
      (units.times-plus r ratio (scaled r u) (scaled r v) u v (units.exact-times r ratio u hu) (units.exact-times r ratio v hv))))

  -- a factor without unit
  pub mul-scaled : (k v : ℤ) → IsExact r v → IsExact r (mul k v) → (mul k v *ℤ pos MILLION) ≡ (k *ℤ v) → mul k (scaled r v) ≡ scaled r (mul k v)
  unfolding mul
  mul-scaled k v hv hw e = step (is_missing k) refl
    where
      step : (b : Bool) → is_missing k ≡ b → of_both k (scaled r v) (to_cell (div_round (k *ℤ scaled r v) MILLION)) ≡ scaled r (mul k v)
      step true i = absurd (true≢false (sym (ap is_missing (gone i)) ∙ hw.0))
        where
          gone : is_missing k ≡ true → mul k v ≡ MISSING
          gone i = rw i refl
      step false i =
          beside i (to_cell (div_round (k *ℤ scaled r v) MILLION))
          ∙ (ap (λ t. to_cell (div_round t MILLION)) (units.whole r ratio (k *ℤ v) (k *ℤ scaled r v) (mul k v) MILLION (units.by-times r ratio (scaled r v) v k (units.exact-times r ratio v hv)) hw e)
          ∙ ap to_cell (units.whole-quotient (scaled r (mul k v)) MILLION (omega arith))
          ∙ units.cell-scaled r ratio (mul k v) (units.exact-present r ratio (mul k v) hw))
        where
          beside : is_missing k ≡ false → (t : ℤ) → of_both k (scaled r v) t ≡ t
          beside i t = rw (i, units.exact-present r ratio v hv) refl

  -- the mean of some values, of which one is present
  mean-exact : (xs : List ℤ) → IsUnrounded r (total (present_values xs)) (count xs) → is_missing (mean xs) ≡ false → IsExact r (mean xs)
  unfolding quot
  mean-exact xs (inr h) p = h.0
  mean-exact xs (inl e) p = absurd (true≢false (sym (ap is_missing (ap (λ n. quot (total (present_values xs)) (pos n)) e)) ∙ p))

  deviation-exact : (xs : List ℤ) → IsSpreadExact r (present_values xs) → is_missing (deviation xs) ≡ false → IsExact r (deviation xs)
  deviation-exact xs s p = step (count xs == 0) refl
    where
      step : (b : Bool) → (count xs == 0) ≡ b → IsExact r (deviation xs)
      step true e = absurd (true≢false (let gone : true ≡ false = rw e at p in gone))
      step false e = rw (e, units.small-cell (pos (spread (present_values xs))) s.root_small) s.root_exact

  left-present : (f : ℤ → ℤ → ℤ) (u v : ℤ) → (is_missing u ≡ true → f u v ≡ MISSING) → is_missing (f u v) ≡ false → is_missing u ≡ false
  left-present f u v gone p = step (is_missing u) refl
    where
      step : (b : Bool) → is_missing u ≡ b → b ≡ false
      step true e = absurd (true≢false (sym (ap is_missing (gone e)) ∙ p))
      step false e = refl

  module _ (k : ℤ) (xs : List ℤ) (h : AreExact r xs) (band : IsBandExact r k xs) where
    wide : IsExact r (deviation xs)
    unfolding mul
    wide = deviation-exact xs band.spread (right (is_missing k) (is_missing (deviation xs)) refl refl)
      where
        right : (b c : Bool) → is_missing k ≡ b → is_missing (deviation xs) ≡ c → c ≡ false
        right b false e f = refl
        right true true e f = absurd (true≢false (sym (ap is_missing (both-gone e f)) ∙ band.width_exact.0))
          where
            both-gone : is_missing k ≡ true → is_missing (deviation xs) ≡ true → mul k (deviation xs) ≡ MISSING
            both-gone e f = rw e refl
        right false true e f = absurd (true≢false (sym (ap is_missing (gone e f)) ∙ band.width_exact.0))
          where
            gone : is_missing k ≡ false → is_missing (deviation xs) ≡ true → mul k (deviation xs) ≡ MISSING
            gone e f = rw (e, f) refl

    width : mul k (deviation (map (scaled r) xs)) ≡ scaled r (mul k (deviation xs))
    width = ap (mul k) (deviations xs h band.spread) ∙ mul-scaled k (deviation xs) wide band.width_exact band.width_whole

    lower : is_missing (sub (mean xs) (mul k (deviation xs))) ≡ false → sub (mean (map (scaled r) xs)) (mul k (deviation (map (scaled r) xs))) ≡ scaled r (sub (mean xs) (mul k (deviation xs)))
    unfolding sub
    lower p =
        ap (λ u. sub u (mul k (deviation (map (scaled r) xs)))) (means xs h band.mean)
        ∙ ap (sub (scaled r (mean xs))) width
        ∙ sub-scaled (mean xs) (mul k (deviation xs)) (mean-exact xs band.mean (left-present sub (mean xs) (mul k (deviation xs)) (λ e. rw e refl) p)) band.width_exact p

    upper : is_missing (add (mean xs) (mul k (deviation xs))) ≡ false → add (mean (map (scaled r) xs)) (mul k (deviation (map (scaled r) xs))) ≡ scaled r (add (mean xs) (mul k (deviation xs)))
    unfolding add
    upper p =
        ap (λ u. add u (mul k (deviation (map (scaled r) xs)))) (means xs h band.mean)
        ∙ ap (add (scaled r (mean xs))) width
        ∙ add-scaled (mean xs) (mul k (deviation xs)) (mean-exact xs band.mean (left-present add (mean xs) (mul k (deviation xs)) (λ e. rw e refl) p)) band.width_exact p

pub formulas-have-units : FormulasHaveUnits
unfolding formula
formulas-have-units = record {
  latest = λ r xs ys zs. oldest_scaled r xs;
  sums = λ r xs ys zs ratio h small. sums r ratio xs h small;
  greatest = λ r xs ys zs ratio h. (units.greatest-scaled r ratio xs h).0;
  least = λ r xs ys zs ratio h. (units.least-scaled r ratio xs h).0;
  means = λ r xs ys zs ratio h u. (means r ratio xs h u, means r ratio xs h u);
  linear = λ r xs ys zs ratio h u. linear r ratio xs h u;
  weighted = λ r xs ys zs weight ratio h e u. (weighted r ratio xs ys weight h e u, weighted r ratio xs ys weight h e u);
  dollar_volumes = λ r xs ys zs ratio h u. dollars r ratio xs ys h u;
  faded_means = λ r decay xs ys zs weight ratio h e u. fading r ratio MILLION decay xs weight h e u;
  fine_means = λ r decay xs ys zs weight ratio h e u. fading r ratio FINE decay xs weight h e u;
  deviations = λ r xs ys zs ratio h s. deviations r ratio xs h s;
  lower = λ r k xs ys zs ratio h band p. lower r ratio k xs h band p;
  upper = λ r k xs ys zs ratio h band p. upper r ratio k xs h band p;
}
