-- Correlations and regressions of values in another unit.
use Rattle.std.proofs.Common.{◌≡◌, ℕ, zero, suc, ◌+◌, ◌*◌, ◌/◌, ◌^◌, ◌<◌, ◌==◌, Bool, true, false, cond, ℤ, pos, negsuc, ◌*ℤ◌, List, [], ◌∷◌, length, map, fold, unsigned_abs, arith, refl, sym, ap, ap₂, ◌∙◌}
use Rattle.std.specs.Int.RustNames.{int_lt}
use Rattle.std.specs.Ordering.{int_eq}
use Rattle.std.proofs.lemmas.Int.{unsigned_abs-mul}
use Rattle.std.proofs.lemmas.List.{length-map}
use Rattle.std.proofs.lemmas.Bool.Decides.{nat_tests}
use Rattle.std.proofs.Math.Nat.{mul-pos, mul-div-mul_right}
use Rattle.pl_spec.specs.Cells.{total}
use Rattle.pl_spec.specs.Rounding.{MILLION, Fraction, is_present, scaled, quot, to_cell}
use Rattle.pl_pipeline.specs.Formula.{PairSums, present_pairs, pair_sums, sums_of_pairs, spread_x, spread_y, joint_spread, square, near_root, root_quot, correlation, covariance, slope, r_squared, ranked, places, trend_sums, formula}
use Rattle.pl_pipeline.specs.Order.{twice_rank}
use Rattle.pl_invariance.specs.Units.{IsRatio, AreExact, IsUnrounded}
use Rattle.pl_invariance.specs.Scales.{CorrelationsHaveNoScale, RegressionsHaveUnits}
use Rattle.pl_invariance.proofs.Exact.{turned}
use Rattle.pl_invariance.proofs.Compared.{quot_same}
use Rattle.std.specs.List.{range_with_len}
use Rattle.pl_invariance.proofs.Lists.{maps}
use Rattle.pl_invariance.proofs.Paired.{swap, pairs-swapped, sums-turned, correlation-turned, pairs-have-no-order}
use Rattle.pl_invariance.proofs.Ring.{times-times}
use Rattle.pl_invariance.proofs.Schwarz.{spread-not-below}
use Rattle.pl_invariance.proofs.Units.{Times, times-zero, times-minus, times-by, by-times, exact-times, less-same, equal-same, quot-scaled, AllTimes, total-times, present-same, is-exact}

-- the ratio twice
abbrev pub squared : Fraction → Fraction
squared r = record { num = r.num * r.num; den = r.den * r.den }

pub ratio-squared : (r : Fraction) → IsRatio r → IsRatio (squared r)
ratio-squared r h = (mul-pos h.0 h.0, mul-pos h.1 h.1)

abbrev pub both : ℕ → ℕ → ℤ × ℤ
both m n = (pos m, pos n)

-- the ranks of a pair among others
abbrev pub ranks_in : List (ℤ × ℤ) → ℤ × ℤ → ℤ × ℤ
ranks_in ps p = (pos (twice_rank p.0 (map (λ q. q.0) ps)), pos (twice_rank p.1 (map (λ q. q.1) ps)))

-- ---- roots of quotients

-- a and b, and a' and b', are in one proportion
pub root-same : (a a' b b' p q : ℕ) → 0 < p → 0 < q → a' * q ≡ a * p → b' * q ≡ b * p → root_quot a' b' ≡ root_quot a b
root-same a a' zero zero p q sp sq e f = refl
root-same a a' zero (suc b') p q sp sq e f = absurd (let some : 0 < suc b' * q = mul-pos (omega arith) sq in omega (arith, some, f))
root-same a a' (suc b) zero p q sp sq e f = absurd (let some : 0 < suc b * p = mul-pos (omega arith) sp in omega (arith, some, f))
root-same a a' (suc b) (suc b') p q sp sq e f =
    let above : 4 * a' * q ≡ 4 * a * p = omega (arith, e) in
    let same : 4 * a' / suc b' ≡ 4 * a / suc b =
    sym (mul-div-mul_right (4 * a') (suc b') sq)
    ∙ ap (λ n. n / (suc b' * q)) above ∙ ap (λ m. 4 * a * p / m) f
    ∙ mul-div-mul_right (4 * a) (suc b) sp in
    let no : (suc b == 0) ≡ false = grind (arith, nat_tests) in
    let none : (suc b' == 0) ≡ false = grind (arith, nat_tests) in
    rw (no, none) (ap (λ n. to_cell (pos (near_root n))) same)

module _ (r : Fraction) (ratio : IsRatio r) where
  pub twice : (a b c : ℤ) → Times r ratio a b → Times r ratio b c → Times (squared r) (ratio-squared r ratio) a c
  twice a b c e f =
      sym (times-times a (pos r.den) (pos r.den))
      ∙ ap (λ t. t *ℤ pos r.den) e
      ∙ turned b r.num r.den
      ∙ ap (λ t. t *ℤ pos r.num) f
      ∙ times-times c (pos r.num) (pos r.num)

  pub times-square : (y x : ℤ) → Times r ratio y x → Times (squared r) (ratio-squared r ratio) (y *ℤ y) (x *ℤ x)
  times-square y x e = twice (y *ℤ y) (x *ℤ y) (x *ℤ x) (times-by r ratio y x y e) (by-times r ratio y x x e)

  pub magnitudes : (y x : ℤ) → Times r ratio y x → unsigned_abs y * r.den ≡ unsigned_abs x * r.num
  magnitudes y x e = sym (unsigned_abs-mul y (pos r.den)) ∙ ap unsigned_abs e ∙ unsigned_abs-mul x (pos r.num)

  -- ---- pairs

  -- the pairs are those of the second list, with the second of each times the ratio
  unfoldable pub ArePaired : List (ℤ × ℤ) → List (ℤ × ℤ) → Type 0
  ArePaired [] [] = Unit {0}
  ArePaired [] (p ∷ ps) = ⊥
  ArePaired (q ∷ qs) [] = ⊥
  ArePaired (q ∷ qs) (p ∷ ps) = (q.0 ≡ p.0) × Times r ratio q.1 p.1 × ArePaired qs ps

  pub paired : (xs ys : List ℤ) → AreExact r ys → ArePaired (present_pairs xs (map (scaled r) ys)) (present_pairs xs ys)
  unfolding ArePaired
  paired [] ys h = tt
  paired (x ∷ xs) [] h = tt
  paired (x ∷ xs) (y ∷ ys) h = step (is_present x) (is_present y) refl refl (paired xs ys h.1)
    where
      step : (b c : Bool) → is_present x ≡ b → is_present y ≡ c → ArePaired (present_pairs xs (map (scaled r) ys)) (present_pairs xs ys)
          → ArePaired (present_pairs (x ∷ xs) (map (scaled r) (y ∷ ys))) (present_pairs (x ∷ xs) (y ∷ ys))
      step true true e f rest = rw (present-same r ratio y h.0, e, f) (refl, exact-times r ratio y (is-exact r ratio y h.0 f), rest)
      step true false e f rest = rw (present-same r ratio y h.0, e, f) rest
      step false c e f rest = rw (present-same r ratio y h.0, e) rest

  -- what f makes of each pair is the same
  same-each : (f : ℤ × ℤ → ℤ) → ((q p : ℤ × ℤ) → q.0 ≡ p.0 → f q ≡ f p) → (qs ps : List (ℤ × ℤ)) → ArePaired qs ps → map f qs ≡ map f ps
  unfolding ArePaired
  same-each f one [] [] h = refl
  same-each f one [] (p ∷ ps) h = absurd h
  same-each f one (q ∷ qs) [] h = absurd h
  same-each f one (q ∷ qs) (p ∷ ps) h = ap₂ (λ (z : ℤ) (l : List ℤ). z ∷ l) (one q p h.0) (same-each f one qs ps h.2)

  same-length : (qs ps : List (ℤ × ℤ)) → ArePaired qs ps → length qs ≡ length ps
  unfolding ArePaired
  same-length [] [] h = refl
  same-length [] (p ∷ ps) h = absurd h
  same-length (q ∷ qs) [] h = absurd h
  same-length (q ∷ qs) (p ∷ ps) h = ap suc (same-length qs ps h.2)

  seconds : (qs ps : List (ℤ × ℤ)) → ArePaired qs ps → AllTimes r ratio (map (λ q. q.1) qs) (map (λ p. p.1) ps)
  unfolding ArePaired
  seconds [] [] h = tt
  seconds [] (p ∷ ps) h = absurd h
  seconds (q ∷ qs) [] h = absurd h
  seconds (q ∷ qs) (p ∷ ps) h = (h.1, seconds qs ps h.2)

  joints : (qs ps : List (ℤ × ℤ)) → ArePaired qs ps → AllTimes r ratio (map (λ q. q.0 *ℤ q.1) qs) (map (λ p. p.0 *ℤ p.1) ps)
  unfolding ArePaired
  joints [] [] h = tt
  joints [] (p ∷ ps) h = absurd h
  joints (q ∷ qs) [] h = absurd h
  joints (q ∷ qs) (p ∷ ps) h = (rw (h.0) (by-times r ratio q.1 p.1 p.0 h.1), joints qs ps h.2)

  squares : (qs ps : List (ℤ × ℤ)) → ArePaired qs ps → AllTimes (squared r) (ratio-squared r ratio) (map (λ q. q.1 *ℤ q.1) qs) (map (λ p. p.1 *ℤ p.1) ps)
  unfolding ArePaired
  squares [] [] h = tt
  squares [] (p ∷ ps) h = absurd h
  squares (q ∷ qs) [] h = absurd h
  squares (q ∷ qs) (p ∷ ps) h = (times-square q.1 p.1 h.1, squares qs ps h.2)

  pub record AreScaled (t s : PairSums) : Type 0 where
    pub number : t.number ≡ s.number
    pub first : t.x ≡ s.x
    pub second : Times r ratio t.y s.y
    pub spread : spread_x t ≡ spread_x s
    pub joint : Times r ratio (joint_spread t) (joint_spread s)
    pub other : Times (squared r) (ratio-squared r ratio) (spread_y t) (spread_y s)

  sums-scaled : (qs ps : List (ℤ × ℤ)) → ArePaired qs ps → AreScaled (sums_of_pairs qs) (sums_of_pairs ps)
  sums-scaled qs ps h =
      let t = sums_of_pairs qs in
      let s = sums_of_pairs ps in
      let n : t.number ≡ s.number = same-length qs ps h in
      let x : t.x ≡ s.x = ap total (same-each (λ q. q.0) (λ q p e. e) qs ps h) in
      let xx : t.xx ≡ s.xx = ap total (same-each (λ q. q.0 *ℤ q.0) (λ q p e. ap (λ (z : ℤ). z *ℤ z) e) qs ps h) in
      let y : Times r ratio t.y s.y = total-times r ratio _ _ (seconds qs ps h) in
      let xy : Times r ratio t.xy s.xy = total-times r ratio _ _ (joints qs ps h) in
      let yy : Times (squared r) (ratio-squared r ratio) t.yy s.yy = total-times (squared r) (ratio-squared r ratio) _ _ (squares qs ps h) in
      record {
        number = n;
        first = x;
        second = y;
        spread = rw (n, x, xx) refl;
        joint = rw (n, x) (times-minus r ratio (pos s.number *ℤ t.xy) (s.x *ℤ t.y) (pos s.number *ℤ s.xy) (s.x *ℤ s.y) (by-times r ratio t.xy s.xy (pos s.number) xy) (by-times r ratio t.y s.y s.x y));
        other =
            rw n
            (times-minus (squared r) (ratio-squared r ratio) (pos s.number *ℤ t.yy) (t.y *ℤ t.y) (pos s.number *ℤ s.yy) (s.y *ℤ s.y)
            (by-times (squared r) (ratio-squared r ratio) t.yy s.yy (pos s.number) yy) (times-square t.y s.y y));
      }

  pub window-scaled : (xs ys : List ℤ) → AreExact r ys → AreScaled (pair_sums xs (map (scaled r) ys)) (pair_sums xs ys)
  window-scaled xs ys h = sums-scaled _ _ (paired xs ys h)

  -- ---- correlations

  proportion : (u v p q k : ℕ) → v * q ≡ u * p → v * v * k * (q * q) ≡ u * u * k * (p * p)
  proportion u v p q k e =
      let left : v * v * k * (q * q) ≡ (v * q) * (v * q) * k = omega arith in
      let right : u * u * k * (p * p) ≡ (u * p) * (u * p) * k = omega arith in
      left ∙ ap (λ z. z * z * k) e ∙ sym right

  beside : (c u v p q : ℕ) → v * q ≡ u * p → c * v * q ≡ c * u * p
  beside c u v p q e =
      let left : c * v * q ≡ c * (v * q) = omega arith in
      let right : c * u * p ≡ c * (u * p) = omega arith in
      left ∙ ap (λ z. c * z) e ∙ sym right

  correlation-scaled : (t s : PairSums) → AreScaled t s → correlation t ≡ correlation s
  unfolding correlation
  correlation-scaled t s h =
      let sign : int_lt (joint_spread t) (pos 0) ≡ int_lt (joint_spread s) (pos 0) = less-same r ratio (joint_spread t) (pos 0) (joint_spread s) (pos 0) h.joint (times-zero r ratio) in
      let two = ratio-squared r ratio in
      let above = proportion (unsigned_abs (joint_spread s)) (unsigned_abs (joint_spread t)) r.num r.den (10 ^ 12) (magnitudes (joint_spread t) (joint_spread s) h.joint) in
      let side = sym (unsigned_abs-mul (spread_y t) (pos (r.den * r.den))) ∙ ap unsigned_abs h.other ∙ unsigned_abs-mul (spread_y s) (pos (r.num * r.num)) in
      let below = ap (λ (z : ℤ). unsigned_abs z * unsigned_abs (spread_y t) * (r.den * r.den)) h.spread
      ∙ beside (unsigned_abs (spread_x s)) (unsigned_abs (spread_y s)) (unsigned_abs (spread_y t)) (r.num * r.num) (r.den * r.den) side in
      let root : root_quot (square (joint_spread t) * 10 ^ 12) (unsigned_abs (spread_x t) * unsigned_abs (spread_y t)) ≡ root_quot (square (joint_spread s) * 10 ^ 12) (unsigned_abs (spread_x s) * unsigned_abs (spread_y s))
      = root-same _ _ _ _ (r.num * r.num) (r.den * r.den) two.0 two.1 above below in
      rw (sign, root) refl

  r_squared-scaled : (t s : PairSums) → AreScaled t s → r_squared t ≡ r_squared s
  unfolding r_squared
  r_squared-scaled t s h =
      let two = ratio-squared r ratio in
      let above = times-by (squared r) two (joint_spread t *ℤ joint_spread t) (joint_spread s *ℤ joint_spread s) (pos MILLION) (times-square (joint_spread t) (joint_spread s) h.joint) in
      let below = by-times (squared r) two (spread_y t) (spread_y s) (spread_x s) h.other in
      quot_same _ _ _ _ (r.num * r.num) (r.den * r.den) two.0 two.1 above (ap (λ (z : ℤ). (z *ℤ spread_y t) *ℤ pos (r.den * r.den)) h.spread ∙ below)

  -- ---- ranks

  counted-less : (y x : ℤ) (ys xs : List ℤ) (n : ℕ) → Times r ratio y x → AllTimes r ratio ys xs
      → fold (λ a v. a + cond (int_lt v y) 1 0) n ys ≡ fold (λ a v. a + cond (int_lt v x) 1 0) n xs
  counted-less y x [] [] n e h = refl
  counted-less y x [] (v ∷ xs) n e h = absurd h
  counted-less y x (u ∷ ys) [] n e h = absurd h
  counted-less y x (u ∷ ys) (v ∷ xs) n e h =
      ap (λ b. fold (λ a v. a + cond (int_lt v y) 1 0) (n + cond b 1 0) ys) (less-same r ratio u y v x h.0 e) ∙ counted-less y x ys xs (n + cond (int_lt v x) 1 0) e h.1

  counted-equal : (y x : ℤ) (ys xs : List ℤ) (n : ℕ) → Times r ratio y x → AllTimes r ratio ys xs
      → fold (λ a v. a + cond (int_eq y v) 1 0) n ys ≡ fold (λ a v. a + cond (int_eq x v) 1 0) n xs
  counted-equal y x [] [] n e h = refl
  counted-equal y x [] (v ∷ xs) n e h = absurd h
  counted-equal y x (u ∷ ys) [] n e h = absurd h
  counted-equal y x (u ∷ ys) (v ∷ xs) n e h =
      ap (λ b. fold (λ a v. a + cond (int_eq y v) 1 0) (n + cond b 1 0) ys) (equal-same r ratio y u x v e h.0) ∙ counted-equal y x ys xs (n + cond (int_eq x v) 1 0) e h.1

  rank-same : (y x : ℤ) (ys xs : List ℤ) → Times r ratio y x → AllTimes r ratio ys xs → twice_rank y ys ≡ twice_rank x xs
  rank-same y x ys xs e h = ap₂ (λ (m n : ℕ). 2 * m + n + 1) (counted-less y x ys xs 0 e h) (counted-equal y x ys xs 0 e h)

  ranks-same : (qs ps : List (ℤ × ℤ)) → ArePaired qs ps → ranked qs ≡ ranked ps
  unfolding ArePaired
  ranks-same qs ps h = all qs ps h
    where
      firsts : map (λ q. q.0) qs ≡ map (λ p. p.0) ps
      firsts = same-each (λ q. q.0) (λ q p e. e) qs ps h

      all : (vs us : List (ℤ × ℤ)) → ArePaired vs us
          → map (ranks_in qs) vs ≡ map (ranks_in ps) us
      all [] [] g = refl
      all [] (u ∷ us) g = absurd g
      all (v ∷ vs) [] g = absurd g
      all (v ∷ vs) (u ∷ us) g =
          ap₂ (λ (p : ℤ × ℤ) (l : List (ℤ × ℤ)). p ∷ l)
          (ap₂ both (ap₂ twice_rank g.0 firsts) (rank-same v.1 u.1 _ _ g.1 (seconds qs ps h)))
          (all vs us g.2)

  -- ---- quotients

  slope-scaled : (t s : PairSums) → AreScaled t s → ((n : ℕ) → spread_x s ≡ negsuc n → ⊥)
      → IsUnrounded r (joint_spread s *ℤ pos MILLION) (unsigned_abs (spread_x s)) → slope t ≡ scaled r (slope s)
  unfolding slope
  slope-scaled t s h above exact =
      let same : spread_x s ≡ pos (unsigned_abs (spread_x s)) = not-below (spread_x s) above in
      ap (quot (joint_spread t *ℤ pos MILLION)) (h.spread ∙ same)
      ∙ quot-scaled r ratio (joint_spread s *ℤ pos MILLION) (joint_spread t *ℤ pos MILLION) (unsigned_abs (spread_x s)) (times-by r ratio (joint_spread t) (joint_spread s) (pos MILLION) h.joint) exact
      ∙ ap (λ (z : ℤ). scaled r (quot (joint_spread s *ℤ pos MILLION) z)) (sym same)
    where
      not-below : (z : ℤ) → ((n : ℕ) → z ≡ negsuc n → ⊥) → z ≡ pos (unsigned_abs z)
      not-below (pos n) f = refl
      not-below (negsuc n) f = absurd (f n refl)

  covariance-scaled : (t s : PairSums) → AreScaled t s → IsUnrounded r (joint_spread s) (s.number * s.number * MILLION) → covariance t ≡ scaled r (covariance s)
  unfolding covariance
  covariance-scaled t s h exact =
      ap (λ (n : ℕ). quot (joint_spread t) (pos (n * n * MILLION))) h.number
      ∙ quot-scaled r ratio (joint_spread s) (joint_spread t) (s.number * s.number * MILLION) h.joint exact

correlation-first : (r : Fraction) (ys xs : List ℤ) → IsRatio r → AreExact r ys → correlation (pair_sums xs (map (scaled r) ys)) ≡ correlation (pair_sums xs ys)
correlation-first r ys xs ratio h = correlation-scaled r ratio _ _ (window-scaled r ratio xs ys h)

correlation-second : (r : Fraction) (ys xs : List ℤ) → IsRatio r → AreExact r xs → correlation (pair_sums (map (scaled r) xs) ys) ≡ correlation (pair_sums xs ys)
correlation-second r ys xs ratio h =
    pairs-have-no-order.correlation ys (map (scaled r) xs) ∙ correlation-first r xs ys ratio h ∙ pairs-have-no-order.correlation xs ys

ranks-turned : (ps : List (ℤ × ℤ)) → ranked (map swap ps) ≡ map swap (ranked ps)
ranks-turned ps = all ps
  where
    firsts : map (λ q. q.0) (map swap ps) ≡ map (λ q. q.1) ps
    firsts = maps (λ (q : ℤ × ℤ). q.0) swap ps

    seconds-are : map (λ q. q.1) (map swap ps) ≡ map (λ q. q.0) ps
    seconds-are = maps (λ (q : ℤ × ℤ). q.1) swap ps

    all : (qs : List (ℤ × ℤ)) → map (ranks_in (map swap ps)) (map swap qs) ≡ map swap (map (ranks_in ps) qs)
    all [] = refl
    all (q ∷ qs) =
        ap₂ (λ (p : ℤ × ℤ) (l : List (ℤ × ℤ)). p ∷ l)
        (ap₂ (λ (vs us : List ℤ). both (twice_rank q.1 vs) (twice_rank q.0 us)) firsts seconds-are)
        (all qs)

pub ranked-swapped : (xs ys : List ℤ) → correlation (sums_of_pairs (ranked (present_pairs ys xs))) ≡ correlation (sums_of_pairs (ranked (present_pairs xs ys)))
ranked-swapped xs ys =
    ap (λ (ps : List (ℤ × ℤ)). correlation (sums_of_pairs (ranked ps))) (pairs-swapped xs ys)
    ∙ ap (λ (ps : List (ℤ × ℤ)). correlation (sums_of_pairs ps)) (ranks-turned (present_pairs xs ys))
    ∙ correlation-turned _ _ (sums-turned (ranked (present_pairs xs ys)))

ranks-first : (r : Fraction) (ys xs : List ℤ) → IsRatio r → AreExact r ys
    → correlation (sums_of_pairs (ranked (present_pairs xs (map (scaled r) ys)))) ≡ correlation (sums_of_pairs (ranked (present_pairs xs ys)))
ranks-first r ys xs ratio h = ap (λ (ps : List (ℤ × ℤ)). correlation (sums_of_pairs ps)) (ranks-same r ratio _ _ (paired r ratio xs ys h))

trend-scaled : (r : Fraction) (xs : List ℤ) → IsRatio r → AreExact r xs → r_squared (trend_sums (map (scaled r) xs)) ≡ r_squared (trend_sums xs)
trend-scaled r xs ratio h =
    ap (λ (n : ℕ). r_squared (pair_sums (map pos (range_with_len 1 n)) (map (scaled r) xs))) (length-map xs (scaled r))
    ∙ r_squared-scaled r ratio _ _ (window-scaled r ratio (places xs) xs h)

pub correlations-have-no-scale : CorrelationsHaveNoScale
unfolding formula
correlations-have-no-scale = record {
  correlation = record {
    first = λ r ys xs zs ratio h. correlation-first r ys xs ratio h;
    second = λ r ys xs zs ratio h. correlation-second r ys xs ratio h;
  };
  ranks = record {
    first = λ r ys xs zs ratio h. ranks-first r ys xs ratio h;
    second = λ r ys xs zs ratio h. ranked-swapped ys (map (scaled r) xs) ∙ ranks-first r xs ys ratio h ∙ ranked-swapped xs ys;
  };
  r_squared = λ r xs ys zs ratio h. trend-scaled r xs ratio h;
}

pub regressions-have-units : RegressionsHaveUnits
unfolding formula
regressions-have-units = record {
  covariance = λ r ys xs zs ratio h exact. covariance-scaled r ratio _ _ (window-scaled r ratio xs ys h) exact;
  slope = λ r ys xs zs ratio h exact. slope-scaled r ratio _ _ (window-scaled r ratio xs ys h) (spread-not-below (present_pairs xs ys)) exact;
}
