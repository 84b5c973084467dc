-- Indicators of prices are the same in every unit.
use Rattle.std.proofs.Common.{◌≡◌, ℕ, zero, suc, ◌-◌, ◌==◌, Bool, true, false, not, ◌||◌, if◌then◌else◌, cond, nat_lt, ℤ, pos, ◌+ℤ◌, ◌-ℤ◌, ◌*ℤ◌, List, [], ◌∷◌, length, map, filter, get_or, Some, None, refl, sym, ◌∙◌, ap, inl}
use Rattle.std.specs.Int.RustNames.{int_lt}
use Rattle.std.specs.List.{position_or_len}
use Rattle.std.specs.Ordering.{int_eq}
use Rattle.std.specs.Cmp.{both_ways}
use Rattle.std.specs.Prelude.{unwrap_or, position}
use Rattle.std.proofs.lemmas.Bool.{true≢false}
use Rattle.std.proofs.lemmas.List.{length-map}
use Rattle.pl_spec.specs.Cells.{total, greatest, least}
use Rattle.pl_spec.specs.Rounding.{MISSING, Fraction, is_missing, is_present, scaled, quot}
use Rattle.pl_spec.proofs.Signed.{int_eq-true, eq-int_eq}
use Rattle.pl_pipeline.specs.Formula.{HUNDRED, newest, present_pairs, differences, gains, losses, if_any, place_of, of_all, formula}
use Rattle.pl_invariance.specs.Exact.{Divides}
use Rattle.pl_invariance.specs.Units.{IsRatio, AreExact, IndicatorsHaveNoUnit}
use Rattle.pl_invariance.proofs.Compared.{newest_scaled, quot_same}
use Rattle.pl_invariance.proofs.Exact.{missing_stays}
use Rattle.pl_invariance.proofs.Units as units

flipped : (b c : Bool) → not b ≡ not c → b ≡ c
flipped true true e = refl
flipped false false e = refl
flipped true false e = absurd (true≢false (sym e))
flipped false true e = absurd (true≢false e)

module _ (r : Fraction) (ratio : IsRatio r) where
  abbrev Times : ℤ → ℤ → Type 0
  Times y x = units.Times r ratio y x

  pub missing-same : (x : ℤ) → Divides r x → is_missing (scaled r x) ≡ is_missing x
  missing-same x h = flipped (is_missing (scaled r x)) (is_missing x) (units.present-same r ratio x h)

  -- ---- strength

  abbrev gaps : List ℤ → List ℤ → List ℤ
  gaps xs ys = map (λ p. p.1 -ℤ p.0) (present_pairs xs ys)

  gaps-times : (xs ys : List ℤ) → AreExact r xs → AreExact r ys → units.AllTimes r ratio (gaps (map (scaled r) xs) (map (scaled r) ys)) (gaps xs ys)
  gaps-times [] ys h i = tt
  gaps-times (x ∷ xs) [] h i = tt
  gaps-times (x ∷ xs) (y ∷ ys) h i = step (is_present x) (is_present y) refl refl (gaps-times xs ys h.1 i.1)
    where
      step : (b c : Bool) → is_present x ≡ b → is_present y ≡ c → units.AllTimes r ratio (gaps (map (scaled r) xs) (map (scaled r) ys)) (gaps xs ys)
          → units.AllTimes r ratio (gaps (map (scaled r) (x ∷ xs)) (map (scaled r) (y ∷ ys))) (gaps (x ∷ xs) (y ∷ ys))
      step true true e f rest =
          rw (units.present-same r ratio x h.0, units.present-same r ratio y i.0, e, f)
          (units.times-minus r ratio (scaled r y) (scaled r x) y x (units.exact-times r ratio y (units.is-exact r ratio y i.0 f)) (units.exact-times r ratio x (units.is-exact r ratio x h.0 e)), rest)
      step true false e f rest = rw (units.present-same r ratio x h.0, units.present-same r ratio y i.0, e, f) rest
      step false c e f rest = rw (units.present-same r ratio x h.0, e) rest

  differences-times : (xs : List ℤ) → AreExact r xs → units.AllTimes r ratio (differences (map (scaled r) xs)) (differences xs)
  differences-times [] h = tt
  differences-times (x ∷ xs) h = gaps-times (x ∷ xs) xs h h.1

  kept-times : (p : ℤ → Bool) → ((y x : ℤ) → Times y x → p y ≡ p x) → (ys xs : List ℤ) → units.AllTimes r ratio ys xs → units.AllTimes r ratio (filter p ys) (filter p xs)
  kept-times p same [] [] h = tt
  kept-times p same [] (x ∷ xs) h = absurd h
  kept-times p same (y ∷ ys) [] h = absurd h
  kept-times p same (y ∷ ys) (x ∷ xs) h = step (p x) refl (kept-times p same ys xs h.1)
    where
      step : (b : Bool) → p x ≡ b → units.AllTimes r ratio (filter p ys) (filter p xs) → units.AllTimes r ratio (filter p (y ∷ ys)) (filter p (x ∷ xs))
      step true e rest = rw (same y x h.0, e) (h.0, rest)
      step false e rest = rw (same y x h.0, e) rest

  gains-times : (ys xs : List ℤ) → units.AllTimes r ratio ys xs → Times (gains ys) (gains xs)
  gains-times ys xs h =
      units.total-times r ratio (filter (λ x. int_lt (pos 0) x) ys) (filter (λ x. int_lt (pos 0) x) xs)
      (kept-times (λ x. int_lt (pos 0) x) (λ y x e. units.less-same r ratio (pos 0) y (pos 0) x (units.times-zero r ratio) e) ys xs h)

  losses-times : (ys xs : List ℤ) → units.AllTimes r ratio ys xs → Times (losses ys) (losses xs)
  losses-times ys xs h =
      units.times-neg r ratio (total (filter (λ x. int_lt x (pos 0)) ys)) (total (filter (λ x. int_lt x (pos 0)) xs))
      (units.total-times r ratio (filter (λ x. int_lt x (pos 0)) ys) (filter (λ x. int_lt x (pos 0)) xs)
      (kept-times (λ x. int_lt x (pos 0)) (λ y x e. units.less-same r ratio y (pos 0) x (pos 0) e (units.times-zero r ratio)) ys xs h))

  strength : (xs : List ℤ) → AreExact r xs
      → quot (gains (differences (map (scaled r) xs)) *ℤ HUNDRED) (gains (differences (map (scaled r) xs)) +ℤ losses (differences (map (scaled r) xs)))
      ≡ quot (gains (differences xs) *ℤ HUNDRED) (gains (differences xs) +ℤ losses (differences xs))
  strength xs h =
      let ys = differences (map (scaled r) xs) in
      let zs = differences xs in
      let all = differences-times xs h in
      quot_same (gains zs *ℤ HUNDRED) (gains ys *ℤ HUNDRED) (gains zs +ℤ losses zs) (gains ys +ℤ losses ys) r.num r.den ratio.0 ratio.1
      (units.times-by r ratio (gains ys) (gains zs) HUNDRED (gains-times ys zs all))
      (units.times-plus r ratio (gains ys) (losses ys) (gains zs) (losses zs) (gains-times ys zs all) (losses-times ys zs all))

  -- ---- the place between the least and the greatest

  pub nothing-divides : Divides r MISSING
  nothing-divides = (ratio.1, inl refl)

  pub get-divides : (xs : List ℤ) (k : ℕ) → AreExact r xs → Divides r (get_or xs k MISSING)
  get-divides [] k h = nothing-divides
  get-divides (x ∷ xs) zero h = h.0
  get-divides (x ∷ xs) (suc k) h = get-divides xs k h.1

  abbrev position_of : ℤ → ℤ → ℤ → ℤ
  position_of x y z = quot ((x -ℤ y) *ℤ HUNDRED) (z -ℤ y)

  placed : (x y z : ℤ) → Divides r x → Divides r y → Divides r z
      → of_all (scaled r x) (scaled r y) (scaled r z) (position_of (scaled r x) (scaled r y) (scaled r z)) ≡ of_all x y z (position_of x y z)
  placed x y z hx hy hz =
      ap (λ b. all_of b (is_missing (scaled r y)) (is_missing (scaled r z)) there) (missing-same x hx)
      ∙ ap (λ b. all_of (is_missing x) b (is_missing (scaled r z)) there) (missing-same y hy)
      ∙ ap (λ b. all_of (is_missing x) (is_missing y) b there) (missing-same z hz)
      ∙ step (is_missing x) (is_missing y) (is_missing z) refl refl refl
    where
      there : ℤ
      there = position_of (scaled r x) (scaled r y) (scaled r z)

      all_of : Bool → Bool → Bool → ℤ → ℤ
      all_of a b c v = if a || b then MISSING else if b || c then MISSING else v

      times : (u : ℤ) → Divides r u → is_missing u ≡ false → Times (scaled r u) u
      times u hu e = units.exact-times r ratio u (e, hu)

      step : (a b c : Bool) → is_missing x ≡ a → is_missing y ≡ b → is_missing z ≡ c → all_of a b c there ≡ all_of a b c (position_of x y z)
      step true b c e f g = refl
      step false true c e f g = refl
      step false false true e f g = refl
      step false false false e f g =
          quot_same ((x -ℤ y) *ℤ HUNDRED) ((scaled r x -ℤ scaled r y) *ℤ HUNDRED) (z -ℤ y) (scaled r z -ℤ scaled r y) r.num r.den ratio.0 ratio.1
          (units.times-by r ratio (scaled r x -ℤ scaled r y) (x -ℤ y) HUNDRED (units.times-minus r ratio (scaled r x) (scaled r y) x y (times x hx e) (times y hy f)))
          (units.times-minus r ratio (scaled r z) (scaled r y) z y (times z hz g) (times y hy f))

  stochastic : (closes lows highs : List ℤ) → AreExact r closes → AreExact r lows → AreExact r highs
      → of_all (newest (map (scaled r) closes)) (least (map (scaled r) lows)) (greatest (map (scaled r) highs))
      (position_of (newest (map (scaled r) closes)) (least (map (scaled r) lows)) (greatest (map (scaled r) highs)))
      ≡ of_all (newest closes) (least lows) (greatest highs) (position_of (newest closes) (least lows) (greatest highs))
  stochastic closes lows highs hc hl hh =
      let low = units.least-scaled r ratio lows hl in
      let high = units.greatest-scaled r ratio highs hh in
      ap (λ x. of_all x (least (map (scaled r) lows)) (greatest (map (scaled r) highs)) (position_of x (least (map (scaled r) lows)) (greatest (map (scaled r) highs)))) (newest_scaled r closes)
      ∙ ap (λ y. of_all (scaled r (newest closes)) y (greatest (map (scaled r) highs)) (position_of (scaled r (newest closes)) y (greatest (map (scaled r) highs)))) low.0
      ∙ ap (λ z. of_all (scaled r (newest closes)) (scaled r (least lows)) z (position_of (scaled r (newest closes)) (scaled r (least lows)) z)) high.0
      ∙ placed (newest closes) (least lows) (greatest highs) (get-divides closes (length closes - 1) hc) low.1 high.1

  -- ---- the place of an extreme

  equal-same : (y x : ℤ) → Divides r y → Divides r x → int_eq (scaled r y) (scaled r x) ≡ int_eq y x
  equal-same y x hy hx = step (is_missing y) (is_missing x) refl refl
    where
      gone : (u : ℤ) → is_missing u ≡ true → u ≡ MISSING
      gone u e = int_eq-true u MISSING e

      lost : (u : ℤ) → is_missing u ≡ true → scaled r u ≡ MISSING
      lost u e = ap (scaled r) (gone u e) ∙ missing_stays r

      step : (b c : Bool) → is_missing y ≡ b → is_missing x ≡ c → int_eq (scaled r y) (scaled r x) ≡ int_eq y x
      step false false e f = units.equal-same r ratio (scaled r y) (scaled r x) y x (units.exact-times r ratio y (e, hy)) (units.exact-times r ratio x (f, hx))
      step b true e f =
          ap (int_eq (scaled r y)) (lost x f) ∙ missing-same y hy ∙ sym (ap (int_eq y) (gone x f))
      step true false e f =
          ap (λ u. int_eq u (scaled r x)) (lost y e) ∙ turned (scaled r x) ∙ missing-same x hx ∙ sym (turned x) ∙ sym (ap (λ u. int_eq u x) (gone y e))
        where
          turned : (u : ℤ) → int_eq MISSING u ≡ is_missing u
          turned u = both_ways _ _ (λ l. eq-int_eq u MISSING (sym (int_eq-true MISSING u l))) (λ l. eq-int_eq MISSING u (sym (int_eq-true u MISSING l)))

  places-same : (x : ℤ) → Divides r x → (xs : List ℤ) → AreExact r xs → position_or_len (λ y. int_eq y (scaled r x)) (map (scaled r) xs) ≡ position_or_len (λ y. int_eq y x) xs
  places-same x hx [] h = refl
  places-same x hx (y ∷ ys) h = rw (equal-same y x h.0 hx, places-same x hx ys h.1) refl

  pub position-same : (x : ℤ) → Divides r x → (xs : List ℤ) → AreExact r xs → position (λ y. int_eq y (scaled r x)) (map (scaled r) xs) ≡ position (λ y. int_eq y x) xs
  position-same x hx xs h =
      ap (λ n. cond (nat_lt n (length (map (scaled r) xs))) (Some n) None) (places-same x hx xs h)
      ∙ ap (λ m. cond (nat_lt (position_or_len (λ y. int_eq y x) xs) m) (Some (position_or_len (λ y. int_eq y x) xs)) None) (length-map xs (scaled r))

  place-same : (x : ℤ) → Divides r x → (xs : List ℤ) → AreExact r xs → place_of (scaled r x) (map (scaled r) xs) ≡ place_of x xs
  place-same x hx xs h =
      ap (λ n. if n == 0 then MISSING else quot (pos (unwrap_or (position (λ y. int_eq y (scaled r x)) (map (scaled r) xs)) 0) *ℤ HUNDRED) (pos (length (map (scaled r) xs) - 1))) (units.count-same r ratio xs h)
      ∙ ap (λ o. if_any xs (quot (pos (unwrap_or o 0) *ℤ HUNDRED) (pos (length (map (scaled r) xs) - 1)))) (position-same x hx xs h)
      ∙ ap (λ n. if_any xs (quot (pos (unwrap_or (position (λ y. int_eq y x) xs) 0) *ℤ HUNDRED) (pos (n - 1)))) (length-map xs (scaled r))

pub indicators-have-no-unit : IndicatorsHaveNoUnit
unfolding formula
indicators-have-no-unit = record {
  strength = λ r xs ys zs ratio h. strength r ratio xs h;
  stochastic = λ r closes lows highs ratio hc hl hh. stochastic r ratio closes lows highs hc hl hh;
  up = λ r xs ys zs ratio h.
      let g = units.greatest-scaled r ratio xs h in
      ap (λ x. place_of x (map (scaled r) xs)) g.0 ∙ place-same r ratio (greatest xs) g.1 xs h;
  down = λ r xs ys zs ratio h.
      let g = units.least-scaled r ratio xs h in
      ap (λ x. place_of x (map (scaled r) xs)) g.0 ∙ place-same r ratio (least xs) g.1 xs h;
}
