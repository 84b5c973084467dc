-- Numbers and windows of a measure in another unit, and the formulas of them.
use Rattle.std.proofs.Common.{◌≡◌, ℕ, zero, suc, ◌+◌, ◌*◌, ◌==◌, ◌≤◌, Bool, true, false, if◌then◌else◌, ℤ, pos, ◌-◌, ◌-ℤ◌, List, [], ◌∷◌, length, map, refl, sym, ◌∙◌, ap, inl, inr, arith}
use Rattle.std.specs.List.{list_any, list_all}
use Rattle.std.specs.Int.RustNames.{unsigned_abs}
use Rattle.std.proofs.Math.Nat.{mul-pos}
use Rattle.std.proofs.lemmas.Int.{unsigned_abs-mul}
use Rattle.pl_spec.proofs.Signed.{int_eq-true}
use Rattle.std.proofs.lemmas.List.{length-map}
use Rattle.pl_spec.specs.Cells.{truth, total, count, present_values, greatest, least}
use Rattle.std.specs.Ordering.{int_eq}
use Rattle.std.specs.Prelude.{unwrap_or, position}
use Rattle.pl_spec.proofs.Each.{Each}
use Rattle.pl_pipeline.specs.declared.RankOrder.TheVariants.{Ascending}
use Rattle.pl_pipeline.specs.Order.{count_less, count_equal, twice_rank, edge, percentile}
use Rattle.pl_spec.specs.Rounding.{MISSING, MILLION, Fraction, is_missing, is_present, scaled, to_cell, of_both, quot, add, sub, mul, LIMIT}
use Rattle.pl_pipeline.specs.declared.WindowKind.{WindowKind}
use Rattle.pl_pipeline.specs.Formula.{FINE, oldest, newest, gap, mean, if_any, deviation, products, weights, weighted_mean, faded_mean, rank_among, place_number, formula}
use Rattle.pl_invariance.specs.Exact.{Divides}
use Rattle.pl_invariance.specs.Pipelines.{Measure, raised, ratio_of, FormulaRule, IsQuotientExact, IsPercentileExact, IsBandGiven, spans, GivesExact, AreSpansExact, IsFormulaExact}
use Rattle.pl_invariance.specs.Pipelines.Measure.{Power, NoUnit}
use Rattle.pl_invariance.specs.Ranked.{IsExact}
use Rattle.pl_invariance.specs.Units.{IsRatio, AreExact}
use Rattle.pl_invariance.proofs.Compared.{oldest_scaled, newest_scaled, changes-have-no-unit}
use Rattle.pl_invariance.proofs.Crossed.{edge-times}
use Rattle.pl_invariance.proofs.Ranked.{preceding_same, equals_same}
use Rattle.pl_invariance.proofs.Exact.{cancel, missing_stays}
use Rattle.pl_invariance.proofs.Formulas.{formulas-have-units}
use Rattle.pl_invariance.proofs.Formulas as formulas
use Rattle.pl_invariance.proofs.Indicators.{missing-same, nothing-divides, get-divides, position-same, indicators-have-no-unit}
use Rattle.pl_invariance.proofs.Divided.{intercept-both}
use Rattle.pl_invariance.proofs.Joined.{joined-in}
use Rattle.pl_invariance.proofs.Quotients.{quotient-scaled}
use Rattle.pl_invariance.proofs.Scales.{correlations-have-no-scale, regressions-have-units, window-scaled}
use Rattle.pl_invariance.proofs.Shapes.{shapes-have-no-unit, roots-have-units}
use Rattle.pl_invariance.proofs.Slopes.{slope-same}
use Rattle.pl_invariance.proofs.Trends.{intercept-in, trend-in, off-trend-in}
use Rattle.pl_invariance.proofs.Units as units

-- ---- powers of a ratio

pub raised-ratio : (r : Fraction) → IsRatio r → (n : ℕ) → IsRatio (raised r n)
raised-ratio r h zero = h
raised-ratio r h (suc n) = let rest = raised-ratio r h n in (mul-pos h.0 rest.0, mul-pos h.1 rest.1)

-- the power of a product is the product of two
pub raised-product : (r : Fraction) (m n : ℕ)
    → ((raised r (suc (m + n))).num ≡ (raised r m).num * (raised r n).num) × ((raised r (suc (m + n))).den ≡ (raised r m).den * (raised r n).den)
raised-product r zero n =
    let none : 0 + n ≡ n = omega arith in
    (ap (λ k. (raised r (suc k)).num) none, ap (λ k. (raised r (suc k)).den) none)
raised-product r (suc m) n =
    let next : suc m + n ≡ suc (m + n) = omega arith in
    let rest = raised-product r m n in (
      ap (λ k. (raised r (suc k)).num) next ∙ ap (λ z. r.num * z) rest.0 ∙ grouped r.num (raised r m).num (raised r n).num,
      ap (λ k. (raised r (suc k)).den) next ∙ ap (λ z. r.den * z) rest.1 ∙ grouped r.den (raised r m).den (raised r n).den,
    )
  where
    grouped : (a b c : ℕ) → a * (b * c) ≡ a * b * c
    grouped a b c = omega arith

module _ (r : Fraction) where
  -- a number, and a list of numbers, in the other unit
  abbrev pub number_in : Measure → ℤ → ℤ
  number_in (Power n) x = scaled (raised r n) x
  number_in NoUnit x = x

  abbrev pub list_in : Measure → List ℤ → List ℤ
  list_in (Power n) xs = map (scaled (raised r n)) xs
  list_in NoUnit xs = xs

  abbrev pub IsOf : Measure → ℤ → Type 0
  IsOf (Power n) x = Divides (raised r n) x
  IsOf NoUnit x = Unit {0}

  abbrev pub AreOf : Measure → List ℤ → Type 0
  AreOf (Power n) xs = AreExact (raised r n) xs
  AreOf NoUnit xs = Unit {0}

module _ (r : Fraction) (ratio : IsRatio r) where
  abbrev pub Times : ℤ → ℤ → Type 0
  Times y x = units.Times r ratio y x

  -- the one number that is z times the ratio
  pub by-times : (y z : ℤ) → Divides r z → is_missing z ≡ false → Times y z → y ≡ scaled r z
  by-times y z h p e = cancel y (scaled r z) r.den ratio.1 (e ∙ sym (units.exact-times r ratio z (p, h)))

  -- ---- formulas

  weighted : (xs ys : List ℤ) → AreExact r xs → IsQuotientExact r (total (products xs ys)) (total (present_values ys)) → weighted_mean (map (scaled r) xs) ys ≡ scaled r (weighted_mean xs ys)
  weighted xs ys h e =
      quotient-scaled r ratio (total (products xs ys)) (total (products (map (scaled r) xs) ys)) (total (present_values ys))
      (units.total-times r ratio (products (map (scaled r) xs) ys) (products xs ys) (units.first-products r ratio xs ys h)) e

  fading : (one : ℕ) (decay : ℤ) (xs : List ℤ) → AreExact r xs
      → (list_any is_missing xs ≡ false → IsQuotientExact r (total (products (weights one decay (length xs)) xs)) (total (weights one decay (length xs))))
      → faded_mean one decay (map (scaled r) xs) ≡ scaled r (faded_mean one decay xs)
  fading one decay xs h e =
      ap (λ n. made (weights one decay n) (list_any is_missing (map (scaled r) xs)) (map (scaled r) xs)) (length-map xs (scaled r))
      ∙ ap (λ b. made ws b (map (scaled r) xs)) (formulas.missing-same r ratio xs h)
      ∙ step (list_any is_missing xs) e
    where
      ws : List ℤ
      ws = weights one decay (length xs)

      made : List ℤ → Bool → List ℤ → ℤ
      made us b ys = if b then MISSING else quot (total (products us ys)) (total us)

      step : (b : Bool) → (b ≡ false → IsQuotientExact r (total (products ws xs)) (total ws)) → made ws b (map (scaled r) xs) ≡ scaled r (made ws b xs)
      step true e = sym (missing_stays r)
      step false e =
          quotient-scaled r ratio (total (products ws xs)) (total (products ws (map (scaled r) xs))) (total ws)
          (units.total-times r ratio (products ws (map (scaled r) xs)) (products ws xs) (units.second-products r ratio ws xs h)) (e refl)

  -- ---- bands

  mean-gone : (xs : List ℤ) → count xs ≡ 0 → mean xs ≡ MISSING
  unfolding quot
  mean-gone xs e = ap (λ n. quot (total (present_values xs)) (pos n)) e

  means-gone : (xs : List ℤ) → AreExact r xs → count xs ≡ 0 → (mean (map (scaled r) xs) ≡ MISSING) × (mean xs ≡ MISSING)
  means-gone xs h e = (mean-gone (map (scaled r) xs) (units.count-same r ratio xs h ∙ e), mean-gone xs e)

  lower-band : (k : ℤ) (xs : List ℤ) → AreExact r xs → IsBandGiven r k xs (sub (mean xs) (mul k (deviation xs)))
      → sub (mean (map (scaled r) xs)) (mul k (deviation (map (scaled r) xs))) ≡ scaled r (sub (mean xs) (mul k (deviation xs)))
  unfolding sub formula
  lower-band k xs h (inl none) = let gone = means-gone xs h none in rw (gone.0, gone.1) (sym (missing_stays r))
  lower-band k xs h (inr e) = formulas-have-units.lower r k xs [] [] ratio h e.0 e.1

  upper-band : (k : ℤ) (xs : List ℤ) → AreExact r xs → IsBandGiven r k xs (add (mean xs) (mul k (deviation xs)))
      → add (mean (map (scaled r) xs)) (mul k (deviation (map (scaled r) xs))) ≡ scaled r (add (mean xs) (mul k (deviation xs)))
  unfolding add formula
  upper-band k xs h (inl none) = let gone = means-gone xs h none in rw (gone.0, gone.1) (sym (missing_stays r))
  upper-band k xs h (inr e) = formulas-have-units.upper r k xs [] [] ratio h e.0 e.1

  -- ---- places among the values

  pub percentile-in : (percent : ℕ) (vs : List ℤ) → Each (IsExact r) vs → IsPercentileExact r percent vs → percentile percent (map (scaled r) vs) ≡ scaled r (percentile percent vs)
  percentile-in percent vs h e =
      ap (λ n. quot (edge (map (scaled r) vs) (percent * (n - 1)) 10000) (pos 10000)) (length-map vs (scaled r))
      ∙ units.quot-scaled r ratio (edge vs (percent * (length vs - 1)) 10000) (edge (map (scaled r) vs) (percent * (length vs - 1)) 10000) 10000
      (edge-times r ratio vs h (percent * (length vs - 1)) 10000) e

  percentiles : (percent : ℕ) (xs : List ℤ) → AreExact r xs → IsPercentileExact r percent (present_values xs)
      → if_any (map (scaled r) xs) (percentile percent (present_values (map (scaled r) xs))) ≡ scaled r (if_any xs (percentile percent (present_values xs)))
  percentiles percent xs h e =
      ap (λ n. if n == 0 then MISSING else percentile percent (present_values (map (scaled r) xs))) (units.count-same r ratio xs h)
      ∙ ap (λ us. if_any xs (percentile percent us)) (units.presents r ratio xs h).0
      ∙ ap (if_any xs) (percentile-in percent (present_values xs) (units.presents r ratio xs h).1 e)
      ∙ step (count xs == 0)
    where
      step : (b : Bool) → (if b then MISSING else scaled r (percentile percent (present_values xs))) ≡ scaled r (if b then MISSING else percentile percent (present_values xs))
      step true = sym (missing_stays r)
      step false = refl

  ranked : (x : ℤ) (vs : List ℤ) → IsExact r x → Each (IsExact r) vs → rank_among (scaled r x) (map (scaled r) vs) ≡ rank_among x vs
  ranked x vs hx h =
      ap (λ n. quot (pos ((2 * n + count_equal (scaled r x) (map (scaled r) vs) + 1) * MILLION)) (pos (2 * length (map (scaled r) vs)))) (preceding_same r ratio.0 Ascending x vs hx h)
      ∙ ap (λ n. quot (pos ((2 * count_less x vs + n + 1) * MILLION)) (pos (2 * length (map (scaled r) vs)))) (equals_same r ratio.0 x vs hx h)
      ∙ ap (λ n. quot (pos (twice_rank x vs * MILLION)) (pos (2 * n))) (length-map vs (scaled r))

  rank-of : (x : ℤ) (vs : List ℤ) → Divides r x → Each (IsExact r) vs → (b : Bool) → is_missing x ≡ b
      → (if b then MISSING else rank_among (scaled r x) (map (scaled r) vs)) ≡ (if b then MISSING else rank_among x vs)
  rank-of x vs hx h true e = refl
  rank-of x vs hx h false e = ranked x vs (e, hx) h

  window-rank : (xs : List ℤ) → AreExact r xs → (if is_missing (newest (map (scaled r) xs)) then MISSING else rank_among (newest (map (scaled r) xs)) (present_values (map (scaled r) xs)))
      ≡ (if is_missing (newest xs) then MISSING else rank_among (newest xs) (present_values xs))
  window-rank xs h =
      let x : ℤ = newest xs in
      let hx : Divides r (newest xs) = get-divides r ratio xs (length xs - 1) h in
      ap (λ y. if is_missing y then MISSING else rank_among y (present_values (map (scaled r) xs))) (newest_scaled r xs)
      ∙ ap (λ b. if b then MISSING else rank_among (scaled r x) (present_values (map (scaled r) xs))) (missing-same r ratio x hx)
      ∙ ap (λ us. if is_missing x then MISSING else rank_among (scaled r x) us) (units.presents r ratio xs h).0
      ∙ rank-of x (present_values xs) hx (units.presents r ratio xs h).1 (is_missing x) refl

  place-in : (x : ℤ) → Divides r x → (xs : List ℤ) → AreExact r xs → place_number (scaled r x) (map (scaled r) xs) ≡ place_number x xs
  place-in x hx xs h =
      ap (λ n. if n == 0 then MISSING else pos ((unwrap_or (position (λ y. int_eq y (scaled r x)) (map (scaled r) xs)) 0 + 1) * MILLION)) (units.count-same r ratio xs h)
      ∙ ap (λ o. if_any xs (pos ((unwrap_or o 0 + 1) * MILLION))) (position-same r ratio x hx xs h)

  -- ---- the true range

  span-in : (x y v' v : ℤ) → Divides r x → Divides r y → GivesExact r x y v → (IsExact r x → IsExact r y → Times v' v)
      → (of_both (scaled r x) (scaled r y) v' ≡ scaled r (of_both x y v)) × Divides r (of_both x y v)
  span-in x y v' v h i g t = (
    units.on_both r ratio x y (scaled r x) (scaled r y) v v' (missing-same r ratio x h) (missing-same r ratio y i) (λ e f. by-times v' v (g e f).1 (g e f).0 (t (e, h) (f, i))),
    step (is_missing x) (is_missing y) refl refl,
  )
    where
      step : (b c : Bool) → is_missing x ≡ b → is_missing y ≡ c → Divides r (of_both x y v)
      step true c e f = rw e (nothing-divides r ratio)
      step false true e f = rw (e, f) (nothing-divides r ratio)
      step false false e f = rw (e, f) (g e f).1

  difference : (x y : ℤ) → IsExact r x → IsExact r y → Times (scaled r x -ℤ scaled r y) (x -ℤ y)
  difference x y h i = units.times-minus r ratio (scaled r x) (scaled r y) x y (units.exact-times r ratio x h) (units.exact-times r ratio y i)

  distance : (x y : ℤ) → IsExact r x → IsExact r y → Times (pos (unsigned_abs (scaled r x -ℤ scaled r y))) (pos (unsigned_abs (x -ℤ y)))
  distance x y h i =
      let same : unsigned_abs (scaled r x -ℤ scaled r y) * r.den ≡ unsigned_abs (x -ℤ y) * r.num
      = sym (unsigned_abs-mul (scaled r x -ℤ scaled r y) (pos r.den)) ∙ ap unsigned_abs (difference x y h i) ∙ unsigned_abs-mul (x -ℤ y) (pos r.num) in
      ap pos same

  cell-of : (g : ℤ) → Divides r g → (is_missing g ≡ false → unsigned_abs g ≤ LIMIT) → to_cell (scaled r g) ≡ scaled r (to_cell g)
  unfolding to_cell
  cell-of g h small = step (is_missing g) refl
    where
      none : to_cell (scaled r MISSING) ≡ scaled r (to_cell MISSING)
      none = ap to_cell (missing_stays r) ∙ sym (missing_stays r)

      step : (b : Bool) → is_missing g ≡ b → to_cell (scaled r g) ≡ scaled r (to_cell g)
      step true e = let gone : g ≡ MISSING = int_eq-true g MISSING e in rw gone none
      step false e = units.cell-scaled r ratio g (units.exact-present r ratio g (e, h)) ∙ ap (scaled r) (sym (units.small-cell g (small e)))

  range-in : (h l c : ℤ) → Divides r h → Divides r l → Divides r c → AreSpansExact r h l c
      → to_cell (greatest (spans (scaled r h) (scaled r l) (scaled r c))) ≡ scaled r (to_cell (greatest (spans h l c)))
  range-in h l c dh dl dc e =
      let own = span-in h l (scaled r h -ℤ scaled r l) (h -ℤ l) dh dl e.own (difference h l) in
      let high = span-in h c (pos (unsigned_abs (scaled r h -ℤ scaled r c))) (pos (unsigned_abs (h -ℤ c))) dh dc e.high (distance h c) in
      let low = span-in l c (pos (unsigned_abs (scaled r l -ℤ scaled r c))) (pos (unsigned_abs (l -ℤ c))) dl dc e.low (distance l c) in
      let g = units.greatest-scaled r ratio (spans h l c) (own.1, (high.1, (low.1, tt))) in
      ap (λ x. to_cell (greatest (x ∷ gap (scaled r h) (scaled r c) ∷ gap (scaled r l) (scaled r c) ∷ []))) own.0
      ∙ ap (λ x. to_cell (greatest (scaled r (of_both h l (h -ℤ l)) ∷ x ∷ gap (scaled r l) (scaled r c) ∷ []))) high.0
      ∙ ap (λ x. to_cell (greatest (scaled r (of_both h l (h -ℤ l)) ∷ scaled r (gap h c) ∷ x ∷ []))) low.0
      ∙ ap to_cell g.0
      ∙ cell-of (greatest (spans h l c)) g.1 e.small

  true-range : (xs ys zs : List ℤ) → AreExact r xs → AreExact r ys → AreExact r zs → AreSpansExact r (newest xs) (newest ys) (oldest zs)
      → to_cell (greatest (spans (newest (map (scaled r) xs)) (newest (map (scaled r) ys)) (oldest (map (scaled r) zs)))) ≡ scaled r (to_cell (greatest (spans (newest xs) (newest ys) (oldest zs))))
  true-range xs ys zs h i j e =
      ap (λ x. to_cell (greatest (spans x (newest (map (scaled r) ys)) (oldest (map (scaled r) zs))))) (newest_scaled r xs)
      ∙ ap (λ y. to_cell (greatest (spans (scaled r (newest xs)) y (oldest (map (scaled r) zs))))) (newest_scaled r ys)
      ∙ ap (λ z. to_cell (greatest (spans (scaled r (newest xs)) (scaled r (newest ys)) z))) (oldest_scaled r zs)
      ∙ range-in (newest xs) (newest ys) (oldest zs) (get-divides r ratio xs (length xs - 1) h) (get-divides r ratio ys (length ys - 1) i) (get-divides r ratio zs 0 j) e

  all-present : (xs : List ℤ) → AreExact r xs → list_all is_present (map (scaled r) xs) ≡ list_all is_present xs
  all-present [] h = refl
  all-present (x ∷ xs) h = rw (units.present-same r ratio x h.0, all-present xs h.1) refl

module _ (r : Fraction) (ratio : IsRatio r) where
  abbrev s : ℕ → Fraction
  s n = raised r n

  q : (n : ℕ) → IsRatio (raised r n)
  q n = raised-ratio r ratio n

  pub formula-in : {k : WindowKind} {mx my mz u : Measure} → FormulaRule k mx my mz u → (xs ys zs : List ℤ) → AreOf r mx xs → AreOf r my ys → AreOf r mz zs
      → IsFormulaExact (ratio_of r u) k my xs ys zs → formula k (list_in r mx xs) (list_in r my ys) (list_in r mz zs) ≡ number_in r u (formula k xs ys zs)
  unfolding formula
  formula-in (FormulaRule.latest {n}) xs ys zs h i j e = oldest_scaled (s n) xs
  formula-in (FormulaRule.first {n}) xs ys zs h i j e = oldest_scaled (s n) xs
  formula-in (FormulaRule.greatest {n}) xs ys zs h i j e = formulas-have-units.greatest (s n) xs ys zs (q n) h
  formula-in (FormulaRule.least {n}) xs ys zs h i j e = formulas-have-units.least (s n) xs ys zs (q n) h
  formula-in (FormulaRule.sum {n}) xs ys zs h i j e = formulas-have-units.sums (s n) xs ys zs (q n) h e
  formula-in (FormulaRule.mean {n}) xs ys zs h i j e = (formulas-have-units.means (s n) xs ys zs (q n) h e).0
  formula-in (FormulaRule.middle {n}) xs ys zs h i j e = (formulas-have-units.means (s n) xs ys zs (q n) h e).1
  formula-in (FormulaRule.linear {n}) xs ys zs h i j e = formulas-have-units.linear (s n) xs ys zs (q n) h e
  formula-in (FormulaRule.weighted {n}) xs ys zs h i j e = weighted (s n) (q n) xs ys h e
  formula-in (FormulaRule.by_volume {n}) xs ys zs h i j e = weighted (s n) (q n) xs ys h e
  formula-in (FormulaRule.dollar_volume {n}) xs ys zs h i j e = formulas-have-units.dollar_volumes (s n) xs ys zs (q n) h e
  formula-in (FormulaRule.faded {n} {decay}) xs ys zs h i j e = fading (s n) (q n) MILLION decay xs h e
  formula-in (FormulaRule.fine {n} {decay}) xs ys zs h i j e = fading (s n) (q n) FINE decay xs h e
  formula-in (FormulaRule.deviation {n}) xs ys zs h i j e = formulas-have-units.deviations (s n) xs ys zs (q n) h e
  formula-in (FormulaRule.faded_deviation {n} {decay}) xs ys zs h i j e = roots-have-units.faded_deviation (s n) decay xs ys zs (q n) h e
  formula-in (FormulaRule.lower {n} {k}) xs ys zs h i j e = lower-band (s n) (q n) k xs h e
  formula-in (FormulaRule.upper {n} {k}) xs ys zs h i j e = upper-band (s n) (q n) k xs h e
  formula-in (FormulaRule.percentile {n} {percent}) xs ys zs h i j e = percentiles (s n) (q n) percent xs h e
  formula-in (FormulaRule.true_range {n}) xs ys zs h i j e = true-range (s n) (q n) xs ys zs h i j e
  formula-in (FormulaRule.returns {n}) xs ys zs h i j e = changes-have-no-unit.returns (s n) (q n).0 xs ys zs (get-divides (s n) (q n) xs 0 h) (get-divides (s n) (q n) xs (length xs - 1) h)
  formula-in (FormulaRule.change {n}) xs ys zs h i j e = changes-have-no-unit.changes (s n) (q n).0 xs ys zs (get-divides (s n) (q n) xs 0 h) (get-divides (s n) (q n) xs (length xs - 1) h)
  formula-in (FormulaRule.rate {n}) xs ys zs h i j e = changes-have-no-unit.rates (s n) (q n).0 xs ys zs (get-divides (s n) (q n) xs 0 h) (get-divides (s n) (q n) xs (length xs - 1) h)
  formula-in (FormulaRule.strength {n}) xs ys zs h i j e = indicators-have-no-unit.strength (s n) xs ys zs (q n) h
  formula-in (FormulaRule.stochastic {n}) xs ys zs h i j e = indicators-have-no-unit.stochastic (s n) xs ys zs (q n) h i j
  formula-in (FormulaRule.up {n}) xs ys zs h i j e = indicators-have-no-unit.up (s n) xs ys zs (q n) h
  formula-in (FormulaRule.down {n}) xs ys zs h i j e = indicators-have-no-unit.down (s n) xs ys zs (q n) h
  formula-in (FormulaRule.drawdown {n}) xs ys zs h i j e = shapes-have-no-unit.drawdown (s n) xs ys zs (q n) h
  formula-in (FormulaRule.skewness {n}) xs ys zs h i j e = shapes-have-no-unit.skewness (s n) xs ys zs (q n) h
  formula-in (FormulaRule.kurtosis {n}) xs ys zs h i j e = shapes-have-no-unit.kurtosis (s n) xs ys zs (q n) h
  formula-in (FormulaRule.rank {n}) xs ys zs h i j e = window-rank (s n) (q n) xs h
  formula-in (FormulaRule.place_of_greatest {n}) xs ys zs h i j e =
      let g = units.greatest-scaled (s n) (q n) xs h in
      ap (λ x. place_number x (map (scaled (s n)) xs)) g.0 ∙ place-in (s n) (q n) (greatest xs) g.1 xs h
  formula-in (FormulaRule.place_of_least {n}) xs ys zs h i j e =
      let g = units.least-scaled (s n) (q n) xs h in
      ap (λ x. place_number x (map (scaled (s n)) xs)) g.0 ∙ place-in (s n) (q n) (least xs) g.1 xs h
  formula-in (FormulaRule.all_present {n}) xs ys zs h i j e = ap truth (all-present (s n) (q n) xs h)
  formula-in (FormulaRule.correlation {m} {n}) ys xs zs h i j e =
      correlations-have-no-scale.correlation.first (s m) ys (map (scaled (s n)) xs) zs (q m) h ∙ correlations-have-no-scale.correlation.second (s n) ys xs zs (q n) i
  formula-in (FormulaRule.correlation_of_y {n}) ys xs zs h i j e = correlations-have-no-scale.correlation.first (s n) ys xs zs (q n) h
  formula-in (FormulaRule.correlation_of_x {n}) ys xs zs h i j e = correlations-have-no-scale.correlation.second (s n) ys xs zs (q n) i
  formula-in (FormulaRule.rank_correlation {m} {n}) ys xs zs h i j e =
      correlations-have-no-scale.ranks.first (s m) ys (map (scaled (s n)) xs) zs (q m) h ∙ correlations-have-no-scale.ranks.second (s n) ys xs zs (q n) i
  formula-in (FormulaRule.rank_correlation_of_y {n}) ys xs zs h i j e = correlations-have-no-scale.ranks.first (s n) ys xs zs (q n) h
  formula-in (FormulaRule.rank_correlation_of_x {n}) ys xs zs h i j e = correlations-have-no-scale.ranks.second (s n) ys xs zs (q n) i
  formula-in (FormulaRule.r_squared {n}) xs ys zs h i j e = correlations-have-no-scale.r_squared (s n) xs ys zs (q n) h
  formula-in (FormulaRule.covariance {n}) ys xs zs h i j e = regressions-have-units.covariance (s n) ys xs zs (q n) h e
  formula-in (FormulaRule.joint_variance {m} {n}) ys xs zs h i j e =
      joined-in (s m) (q m) (s n) (q n) (s (suc (m + n))) (q (suc (m + n))) (raised-product r m n) xs ys i h e
  formula-in (FormulaRule.slope {n}) ys xs zs h i j e = regressions-have-units.slope (s n) ys xs zs (q n) h e
  formula-in (FormulaRule.hedge {n}) ys xs zs h i j e = slope-same (s n) (q n) xs ys i h
  formula-in (FormulaRule.error {n}) ys xs zs h i j e = roots-have-units.error (s n) ys xs zs (q n) h e
  formula-in (FormulaRule.hedge_error {n}) ys xs zs h i j e = shapes-have-no-unit.error (s n) ys xs zs (q n) h i
  formula-in (FormulaRule.intercept {n}) ys xs zs h i j e = intercept-in (s n) (q n) _ _ (window-scaled (s n) (q n) xs ys h) e
  formula-in (FormulaRule.hedge_intercept {n}) ys xs zs h i j e = intercept-both (s n) (q n) xs ys i h e
  formula-in (FormulaRule.trend {n}) xs ys zs h i j e = trend-in (s n) (q n) xs h e
  formula-in (FormulaRule.off_trend {n}) xs ys zs h i j e = off-trend-in (s n) (q n) xs h e
