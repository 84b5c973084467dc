-- Cross-sections of prices in another unit.
use Rattle.std.proofs.Common.{◌≡◌, ℕ, ◌+◌, ◌-◌, ◌*◌, ◌/◌, ◌<◌, ◌≤◌, Bool, true, false, cond, ℤ, pos, ◌*ℤ◌, List, [], ◌∷◌, length, map, fold, find, Some, unwrap_or, refl, sym, ◌∙◌, ap, arith}
use Rattle.std.proofs.lemmas.List.{length-map}
use Rattle.pl_spec.specs.Cells.{total}
use Rattle.pl_spec.specs.Rounding.{LIMIT, MILLION, Fraction, is_missing, scaled, to_cell, quot}
use Rattle.std.specs.Prelude.{sum_by}
use Rattle.std.specs.Int.{int_max, int_min}
use Rattle.std.specs.Int.RustNames.{unsigned_abs, int_lt}
use Rattle.std.proofs.lemmas.Int.{ints, int_max_is, int_min_is}
use Rattle.pl_spec.proofs.Each.{Each}
use Rattle.pl_pipeline.specs.Kind.{CrossKind}
use Rattle.pl_pipeline.specs.Cross.{Entry, values, winsorized, scaled_to_one, if_some, summary, is_for_all, cross}
use Rattle.pl_pipeline.specs.Formula.{spread}
use Rattle.pl_pipeline.specs.Order.{value_at, percentile}
use Rattle.pl_invariance.specs.Crossed.{AreUnrounded}
use Rattle.pl_invariance.specs.Exact.{Divides}
use Rattle.pl_invariance.specs.Pipelines.{Measure, raised, CrossRule, IsCrossExact}
use Rattle.pl_invariance.specs.Ranked.{IsExact, scaled_entry}
use Rattle.pl_invariance.specs.Units.{IsRatio, IsUnrounded, IsSpreadExact}
use Rattle.pl_invariance.proofs.Compared.{quot_same}
use Rattle.pl_invariance.proofs.Operated.{magnitude}
use Rattle.pl_invariance.proofs.Crossed.{crosses-have-no-unit, value-times}
use Rattle.pl_invariance.proofs.Exact.{missing_stays}
use Rattle.pl_invariance.proofs.Formulas.{spread-scaled}
use Rattle.pl_invariance.proofs.Measured.{raised-ratio, number_in, IsOf, by-times, percentile-in}
use Rattle.pl_invariance.proofs.Ranked.{ranks-have-no-unit, values_exact, values_same}
use Rattle.pl_invariance.proofs.Units as units

max-below : (x y : ℤ) → int_lt x y ≡ true → int_max x y ≡ y
max-below x y l = grind (arith, ints, int_max_is x y)

max-above : (x y : ℤ) → int_lt x y ≡ false → int_max x y ≡ x
max-above x y l = grind (arith, ints, int_max_is x y)

min-below : (x y : ℤ) → int_lt x y ≡ true → int_min x y ≡ x
min-below x y l = grind (arith, ints, int_min_is x y)

min-above : (x y : ℤ) → int_lt x y ≡ false → int_min x y ≡ y
min-above x y l = grind (arith, ints, int_min_is x y)

module _ (r : Fraction) (ratio : IsRatio r) where
  -- ---- summaries

  -- of no value there is nothing in either unit
  of_some : (vs : List ℤ) (v' v : ℤ) → (0 < length vs → v' ≡ scaled r v) → if_some (map (scaled r) vs) v' ≡ scaled r (if_some vs v)
  of_some [] v' v h = sym (missing_stays r)
  of_some (x ∷ xs) v' v h = h (omega arith)

  sums : (vs : List ℤ) → Each (IsExact r) vs → unsigned_abs (total vs) ≤ LIMIT → to_cell (total (map (scaled r) vs)) ≡ scaled r (to_cell (total vs))
  sums vs h small =
      sym (ap (scaled r) (units.small-cell (total vs) small)
      ∙ units.is-scaled r ratio (total vs) (total (map (scaled r) vs)) small (units.total-times r ratio (map (scaled r) vs) vs (units.all-scaled r ratio vs h)))

  means : (vs : List ℤ) → Each (IsExact r) vs → IsUnrounded r (total vs) (length vs) → quot (total (map (scaled r) vs)) (pos (length (map (scaled r) vs))) ≡ scaled r (quot (total vs) (pos (length vs)))
  means vs h e =
      ap (λ n. quot (total (map (scaled r) vs)) (pos n)) (length-map vs (scaled r))
      ∙ units.quot-scaled r ratio (total vs) (total (map (scaled r) vs)) (length vs) (units.total-times r ratio (map (scaled r) vs) vs (units.all-scaled r ratio vs h)) e

  spreads : (vs : List ℤ) → Each (IsExact r) vs → IsSpreadExact r vs → 0 < length vs → to_cell (pos (spread (map (scaled r) vs))) ≡ scaled r (to_cell (pos (spread vs)))
  spreads vs h s some =
      ap to_cell (spread-scaled r ratio vs h s some)
      ∙ units.cell-scaled r ratio (pos (spread vs)) (units.exact-present r ratio (pos (spread vs)) s.root_exact)
      ∙ ap (scaled r) (sym (units.small-cell (pos (spread vs)) s.root_small))

  -- a value that is found is present
  found-there : (q : ℤ → Bool) (vs : List ℤ) → Each (IsExact r) vs → is_missing (unwrap_or (find q vs) (pos 0)) ≡ false
  found-there q [] h = refl
  found-there q (v ∷ vs) h = step (q v) (found-there q vs h.1)
    where
      step : (b : Bool) → is_missing (unwrap_or (find q vs) (pos 0)) ≡ false → is_missing (unwrap_or (cond b (Some v) (find q vs)) (pos 0)) ≡ false
      step true rest = h.0.0
      step false rest = rest

  at_place : (vs : List ℤ) → Each (IsExact r) vs → (i : ℕ) → Divides r (value_at vs i) → value_at (map (scaled r) vs) i ≡ scaled r (value_at vs i)
  at_place vs h i w = by-times r ratio (value_at (map (scaled r) vs) i) (value_at vs i) w (found-there _ vs h) (value-times r ratio vs h i)

  extreme : (vs : List ℤ) → Each (IsExact r) vs → (i : ℕ) → Divides r (if_some vs (value_at vs i)) → if_some (map (scaled r) vs) (value_at (map (scaled r) vs) i) ≡ scaled r (if_some vs (value_at vs i))
  extreme [] h i w = sym (missing_stays r)
  extreme (v ∷ vs) h i w = at_place (v ∷ vs) h i w

  -- ---- shares and bounds

  magnitudes : (vs : List ℤ) → Each (IsExact r) vs → (t u : ℕ) → t * r.den ≡ u * r.num
      → fold (λ a x. a + unsigned_abs x) t (map (scaled r) vs) * r.den ≡ fold (λ a x. a + unsigned_abs x) u vs * r.num
  magnitudes [] h t u e = e
  magnitudes (v ∷ vs) h t u e = magnitudes vs h.1 (t + unsigned_abs (scaled r v)) (u + unsigned_abs v) (summed t (unsigned_abs (scaled r v)) r.den u (unsigned_abs v) r.num e (magnitude r ratio v h.0))
    where
      summed : (t a d u b n : ℕ) → t * d ≡ u * n → a * d ≡ b * n → (t + a) * d ≡ (u + b) * n
      summed t a d u b n e f = omega arith

  shares : (vs : List ℤ) → Each (IsExact r) vs → (x : ℤ) → IsExact r x → scaled_to_one (map (scaled r) vs) (scaled r x) ≡ scaled_to_one vs x
  shares vs h x hx =
      quot_same (x *ℤ pos MILLION) (scaled r x *ℤ pos MILLION) (pos (sum_by unsigned_abs vs)) (pos (sum_by unsigned_abs (map (scaled r) vs))) r.num r.den ratio.0 ratio.1
      (units.times-by r ratio (scaled r x) x (pos MILLION) (units.exact-times r ratio x hx)) (ap pos (magnitudes vs h 0 0 (omega arith)))

  greater : (y y' x x' : ℤ) → units.Times r ratio y x → units.Times r ratio y' x' → units.Times r ratio (int_max y y') (int_max x x')
  greater y y' x x' e f = step (int_lt x x') refl
    where
      step : (b : Bool) → int_lt x x' ≡ b → units.Times r ratio (int_max y y') (int_max x x')
      step true l = rw (max-below x x' l, max-below y y' (units.less-same r ratio y y' x x' e f ∙ l)) f
      step false l = rw (max-above x x' l, max-above y y' (units.less-same r ratio y y' x x' e f ∙ l)) e

  lesser : (y y' x x' : ℤ) → units.Times r ratio y x → units.Times r ratio y' x' → units.Times r ratio (int_min y y') (int_min x x')
  lesser y y' x x' e f = step (int_lt x x') refl
    where
      step : (b : Bool) → int_lt x x' ≡ b → units.Times r ratio (int_min y y') (int_min x x')
      step true l = rw (min-below x x' l, min-below y y' (units.less-same r ratio y y' x x' e f ∙ l)) e
      step false l = rw (min-above x x' l, min-above y y' (units.less-same r ratio y y' x x' e f ∙ l)) f

  drawn : (vs : List ℤ) → Each (IsExact r) vs → (low high : ℕ) (x : ℤ) → IsExact r x → Divides r (winsorized low high vs x) → is_missing (winsorized low high vs x) ≡ false
      → winsorized low high (map (scaled r) vs) (scaled r x) ≡ scaled r (winsorized low high vs x)
  drawn vs h low high x hx w there =
      ap (λ n. bounded n (map (scaled r) vs) (scaled r x)) (length-map vs (scaled r))
      ∙ by-times r ratio (bounded (length vs) (map (scaled r) vs) (scaled r x)) (winsorized low high vs x) w there
      (greater _ _ _ _ (value-times r ratio vs h (low * length vs / MILLION))
      (lesser _ _ _ _ (value-times r ratio vs h ((high * length vs + MILLION - 1) / MILLION - 1)) (units.exact-times r ratio x hx)))
    where
      bounded : ℕ → List ℤ → ℤ → ℤ
      bounded n us y = int_max (value_at us (low * n / MILLION)) (int_min (value_at us ((high * n + MILLION - 1) / MILLION - 1)) y)

  -- the asset has a value of its own among them
  abbrev pub IsAmong : List Entry → ℤ → Type 0
  IsAmong list x = IsExact r x × (0 < length list)

-- ---- by the rules

module _ (r : Fraction) (ratio : IsRatio r) (n : ℕ) where
  abbrev s : Fraction
  s = raised r n

  abbrev q : IsRatio (raised r n)
  q = raised-ratio r ratio n

  module _ (list : List Entry) (a : ℕ) (x : ℤ) (all : Each (λ (e : Entry). IsExact s e.1) list) where
    exact : Each (IsExact s) (values list)
    exact = values_exact s q.0 list all

    unrounded : IsAmong s q list x → AreUnrounded s list x
    unrounded own = record { ratio = q; some = own.1; all = all; own = own.0 }

    pub cross-in : {k : CrossKind} {u : Measure} → CrossRule n k u → (is_for_all k ≡ false → IsAmong s q list x) → IsOf r u (cross k list a x) → IsCrossExact s k (values list) x
        → cross k (map (scaled_entry s) list) a (scaled s x) ≡ number_in r u (cross k list a x)
    unfolding cross summary
    cross-in (CrossRule.rank {method} {order}) own w e = ranks-have-no-unit.ranks method order s q.0 list a x all (own refl).0
    cross-in (CrossRule.top {count}) own w e = ranks-have-no-unit.top count s q.0 list a x all (own refl).0
    cross-in (CrossRule.bottom {count}) own w e = ranks-have-no-unit.bottom count s q.0 list a x all (own refl).0
    cross-in (CrossRule.quantiles {bins}) own w e = crosses-have-no-unit.quantiles bins s list a x (unrounded (own refl))
    cross-in (CrossRule.percentiles {low} {high}) own w e = crosses-have-no-unit.percentiles low high s list a x (unrounded (own refl))
    cross-in CrossRule.score own w e = crosses-have-no-unit.scores s list a x (unrounded (own refl)) e
    cross-in CrossRule.distance own w e = crosses-have-no-unit.distances s list a x (unrounded (own refl)) e.0 (e.1 (own refl).0.0 (own refl).0.0)
    cross-in CrossRule.share own w e = ap (λ vs. scaled_to_one vs (scaled s x)) (values_same s q.0 list) ∙ shares s q (values list) exact x (own refl).0
    cross-in (CrossRule.drawn_in {low} {high}) own w e =
        ap (λ vs. winsorized low high vs (scaled s x)) (values_same s q.0 list) ∙ drawn s q (values list) exact low high x (own refl).0 w (e (own refl).0.0 (own refl).0.0)
    cross-in CrossRule.median own w e = ap (λ vs. if_some vs (percentile 5000 vs)) (values_same s q.0 list) ∙ of_some s q (values list) _ _ (λ some. percentile-in s q 5000 (values list) exact e)
    cross-in (CrossRule.percentile {percent}) own w e = ap (λ vs. if_some vs (percentile percent vs)) (values_same s q.0 list) ∙ of_some s q (values list) _ _ (λ some. percentile-in s q percent (values list) exact e)
    cross-in CrossRule.counted own w e = ap (λ vs. pos (length vs * MILLION)) (values_same s q.0 list) ∙ ap (λ n. pos (n * MILLION)) (length-map (values list) (scaled s))
    cross-in CrossRule.mean own w e = ap (λ vs. quot (total vs) (pos (length vs))) (values_same s q.0 list) ∙ means s q (values list) exact e
    cross-in CrossRule.sum own w e = ap (λ vs. if_some vs (to_cell (total vs))) (values_same s q.0 list) ∙ of_some s q (values list) _ _ (λ some. sums s q (values list) exact e)
    cross-in CrossRule.least own w e = ap (λ vs. if_some vs (value_at vs 0)) (values_same s q.0 list) ∙ extreme s q (values list) exact 0 w
    cross-in CrossRule.greatest own w e =
        ap (λ vs. if_some vs (value_at vs (length vs - 1))) (values_same s q.0 list)
        ∙ ap (λ n. if_some (map (scaled s) (values list)) (value_at (map (scaled s) (values list)) (n - 1))) (length-map (values list) (scaled s))
        ∙ extreme s q (values list) exact (length (values list) - 1) w
    cross-in CrossRule.deviation own w e =
        ap (λ vs. if_some vs (to_cell (pos (spread vs)))) (values_same s q.0 list) ∙ of_some s q (values list) _ _ (spreads s q (values list) exact e)
