-- The lines through prices, and through prices at their places, in another unit.
use Rattle.std.proofs.Common.{◌≡◌, ◌-◌, Bool, true, false, if◌then◌else◌, ℤ, pos, ◌-ℤ◌, ◌*ℤ◌, List, length, map, refl, sym, ◌∙◌, ap}
use Rattle.std.specs.List.{range_with_len}
use Rattle.std.proofs.lemmas.List.{length-map}
use Rattle.pl_spec.specs.Rounding.{MISSING, Fraction, is_missing, scaled, quot}
use Rattle.pl_pipeline.specs.Formula.{newest, places, PairSums, pair_sums, spread_x, joint_spread, trend_sums, steepness, residual, intercept}
use Rattle.pl_invariance.specs.Pipelines.{IsQuotientExact, above_trend}
use Rattle.pl_invariance.specs.Units.{IsRatio, AreExact}
use Rattle.pl_invariance.proofs.Compared.{newest_scaled}
use Rattle.pl_invariance.proofs.Exact.{missing_stays}
use Rattle.pl_invariance.proofs.Indicators.{missing-same, get-divides}
use Rattle.pl_invariance.proofs.Quotients.{quotient-scaled}
use Rattle.pl_invariance.proofs.Scales.{AreScaled, window-scaled}
use Rattle.pl_invariance.proofs.Units as units

module _ (r : Fraction) (ratio : IsRatio r) where
  pub intercept-in : (t s : PairSums) → AreScaled r ratio t s → IsQuotientExact r ((s.y *ℤ spread_x s) -ℤ (joint_spread s *ℤ s.x)) (pos s.number *ℤ spread_x s) → intercept t ≡ scaled r (intercept s)
  unfolding intercept
  intercept-in t s h e =
      ap (λ z. quot ((t.y *ℤ z) -ℤ (joint_spread t *ℤ t.x)) (pos t.number *ℤ z)) h.spread
      ∙ ap (λ z. quot ((t.y *ℤ spread_x s) -ℤ (joint_spread t *ℤ z)) (pos t.number *ℤ spread_x s)) h.first
      ∙ ap (λ n. quot ((t.y *ℤ spread_x s) -ℤ (joint_spread t *ℤ s.x)) (pos n *ℤ spread_x s)) h.number
      ∙ quotient-scaled r ratio ((s.y *ℤ spread_x s) -ℤ (joint_spread s *ℤ s.x)) ((t.y *ℤ spread_x s) -ℤ (joint_spread t *ℤ s.x)) (pos s.number *ℤ spread_x s)
      (units.times-minus r ratio (t.y *ℤ spread_x s) (joint_spread t *ℤ s.x) (s.y *ℤ spread_x s) (joint_spread s *ℤ s.x)
      (units.times-by r ratio t.y s.y (spread_x s) h.second) (units.times-by r ratio (joint_spread t) (joint_spread s) s.x h.joint)) e

  steepness-in : (t s : PairSums) → AreScaled r ratio t s → IsQuotientExact r (joint_spread s) (spread_x s) → steepness t ≡ scaled r (steepness s)
  unfolding steepness
  steepness-in t s h e = ap (quot (joint_spread t)) h.spread ∙ quotient-scaled r ratio (joint_spread s) (joint_spread t) (spread_x s) h.joint e

  residual-in : (t s : PairSums) (x y' y : ℤ) → AreScaled r ratio t s → units.Times r ratio y' y → IsQuotientExact r (above_trend s x y) (pos s.number *ℤ spread_x s) → residual t x y' ≡ scaled r (residual s x y)
  unfolding residual
  residual-in t s x y' y h f e =
      ap (λ z. quot ((((pos t.number *ℤ y') -ℤ t.y) *ℤ z) -ℤ (joint_spread t *ℤ ((pos t.number *ℤ x) -ℤ t.x))) (pos t.number *ℤ z)) h.spread
      ∙ ap (λ z. quot ((((pos t.number *ℤ y') -ℤ t.y) *ℤ spread_x s) -ℤ (joint_spread t *ℤ ((pos t.number *ℤ x) -ℤ z))) (pos t.number *ℤ spread_x s)) h.first
      ∙ ap (λ n. quot ((((pos n *ℤ y') -ℤ t.y) *ℤ spread_x s) -ℤ (joint_spread t *ℤ ((pos n *ℤ x) -ℤ s.x))) (pos n *ℤ spread_x s)) h.number
      ∙ quotient-scaled r ratio (above_trend s x y) ((((pos s.number *ℤ y') -ℤ t.y) *ℤ spread_x s) -ℤ (joint_spread t *ℤ ((pos s.number *ℤ x) -ℤ s.x))) (pos s.number *ℤ spread_x s)
      (units.times-minus r ratio (((pos s.number *ℤ y') -ℤ t.y) *ℤ spread_x s) (joint_spread t *ℤ ((pos s.number *ℤ x) -ℤ s.x)) (((pos s.number *ℤ y) -ℤ s.y) *ℤ spread_x s) (joint_spread s *ℤ ((pos s.number *ℤ x) -ℤ s.x))
      (units.times-by r ratio ((pos s.number *ℤ y') -ℤ t.y) ((pos s.number *ℤ y) -ℤ s.y) (spread_x s)
      (units.times-minus r ratio (pos s.number *ℤ y') t.y (pos s.number *ℤ y) s.y (units.by-times r ratio y' y (pos s.number) f) h.second))
      (units.times-by r ratio (joint_spread t) (joint_spread s) ((pos s.number *ℤ x) -ℤ s.x) h.joint)) e

  -- ---- prices at their places

  at_places : (xs : List ℤ) → AreExact r xs → AreScaled r ratio (pair_sums (places xs) (map (scaled r) xs)) (trend_sums xs)
  at_places xs h = window-scaled r ratio (places xs) xs h

  pub trend-in : (xs : List ℤ) → AreExact r xs → IsQuotientExact r (joint_spread (trend_sums xs)) (spread_x (trend_sums xs)) → steepness (trend_sums (map (scaled r) xs)) ≡ scaled r (steepness (trend_sums xs))
  trend-in xs h e =
      ap (λ n. steepness (pair_sums (map pos (range_with_len 1 n)) (map (scaled r) xs))) (length-map xs (scaled r))
      ∙ steepness-in (pair_sums (places xs) (map (scaled r) xs)) (trend_sums xs) (at_places xs h) e

  off-trend : (xs : List ℤ) → AreExact r xs → (b : Bool) → is_missing (newest xs) ≡ b
      → (is_missing (newest xs) ≡ false → IsQuotientExact r (above_trend (trend_sums xs) (pos (length xs)) (newest xs)) (pos (trend_sums xs).number *ℤ spread_x (trend_sums xs)))
      → (if b then MISSING else residual (pair_sums (places xs) (map (scaled r) xs)) (pos (length xs)) (scaled r (newest xs))) ≡ scaled r (if b then MISSING else residual (trend_sums xs) (pos (length xs)) (newest xs))
  off-trend xs h true p e = sym (missing_stays r)
  off-trend xs h false p e =
      residual-in (pair_sums (places xs) (map (scaled r) xs)) (trend_sums xs) (pos (length xs)) (scaled r (newest xs)) (newest xs) (at_places xs h)
      (units.exact-times r ratio (newest xs) (p, get-divides r ratio xs (length xs - 1) h)) (e p)

  pub off-trend-in : (xs : List ℤ) → AreExact r xs
      → (is_missing (newest xs) ≡ false → IsQuotientExact r (above_trend (trend_sums xs) (pos (length xs)) (newest xs)) (pos (trend_sums xs).number *ℤ spread_x (trend_sums xs)))
      → (if is_missing (newest (map (scaled r) xs)) then MISSING else residual (trend_sums (map (scaled r) xs)) (pos (length (map (scaled r) xs))) (newest (map (scaled r) xs)))
      ≡ scaled r (if is_missing (newest xs) then MISSING else residual (trend_sums xs) (pos (length xs)) (newest xs))
  off-trend-in xs h e =
      ap (λ y. if is_missing y then MISSING else residual (trend_sums (map (scaled r) xs)) (pos (length (map (scaled r) xs))) y) (newest_scaled r xs)
      ∙ ap (λ b. if b then MISSING else residual (trend_sums (map (scaled r) xs)) (pos (length (map (scaled r) xs))) (scaled r (newest xs))) (missing-same r ratio (newest xs) (get-divides r ratio xs (length xs - 1) h))
      ∙ ap (λ n. if is_missing (newest xs) then MISSING else residual (pair_sums (map pos (range_with_len 1 n)) (map (scaled r) xs)) (pos n) (scaled r (newest xs))) (length-map xs (scaled r))
      ∙ off-trend xs h (is_missing (newest xs)) refl e
