-- Correlations and regressions of values to which a constant is added.
use Rattle.std.proofs.Common.{◌≡◌, ℕ, suc, ◌+◌, ◌*◌, Bool, true, false, ◌||◌, cond, if◌then◌else◌, ◌⊎◌, inl, inr, ℤ, pos, ◌+ℤ◌, ◌-ℤ◌, ◌*ℤ◌, ◌<ℤ◌, List, [], ◌∷◌, length, map, fold, arith, refl, sym, ap, ap₂, ◌∙◌}
use Rattle.std.specs.Int.RustNames.{int_lt}
use Rattle.std.specs.Ordering.{int_eq}
use Rattle.std.specs.Cmp.{both_ways}
use Rattle.std.proofs.lemmas.Int.{ints}
use Rattle.std.proofs.lemmas.Bool.{true≢false}
use Rattle.std.proofs.Math.IntN.{*ℤ_comm}
use Rattle.pl_spec.specs.Cells.{total}
use Rattle.pl_spec.specs.Rounding.{MISSING, is_missing, add, to_cell, quot}
use Rattle.pl_spec.proofs.Signed.{int_eq-true, eq-int_eq, lt-int_lt}
use Rattle.pl_pipeline.specs.Formula.{PairSums, present_pairs, sums_of_pairs, spread_x, spread_y, joint_spread, correlation, covariance, slope, slope_error, ranked, formula}
use Rattle.pl_pipeline.specs.Order.{twice_rank}
use Rattle.pl_invariance.specs.Origins.{AreMoved, PairsHaveNoOrigin}
use Rattle.pl_invariance.proofs.Paired.{AreTurned, pairs-swapped, sums-turned, joint-turned}
use Rattle.pl_invariance.proofs.Ring.{times-sum, times-times}
use Rattle.pl_invariance.proofs.Scales.{ranked-swapped, both, ranks_in}
use Rattle.pl_invariance.proofs.Schwarz.{total-cons}
use Rattle.pl_invariance.proofs.Units.{cell-stays, less-true}

-- ---- what the formulas of pairs are made of

record AreAlike (t s : PairSums) : Type 0 where
  pub number : t.number ≡ s.number
  pub spread_x : spread_x t ≡ spread_x s
  pub spread_y : spread_y t ≡ spread_y s
  pub joint : joint_spread t ≡ joint_spread s

correlation-alike : (t s : PairSums) → AreAlike t s → correlation t ≡ correlation s
unfolding correlation
correlation-alike t s h = rw (h.spread_x, h.spread_y, h.joint) refl

covariance-alike : (t s : PairSums) → AreAlike t s → covariance t ≡ covariance s
unfolding covariance
covariance-alike t s h = ap₂ (λ (z : ℤ) (n : ℕ). quot z (pos (n * n * 1000000))) h.joint h.number

slope-alike : (t s : PairSums) → AreAlike t s → slope t ≡ slope s
unfolding slope
slope-alike t s h = rw (h.spread_x, h.joint) refl

error-alike : (t s : PairSums) → AreAlike t s → slope_error t ≡ slope_error s
unfolding slope_error
error-alike t s h = rw (h.spread_x, h.spread_y, h.joint, h.number) refl

-- with the two sides swapped
alike-turned : (t s t' s' : PairSums) → AreTurned t t' → AreTurned s s' → AreAlike t s → AreAlike t' s'
alike-turned t s t' s' e f h = record {
  number = e.number ∙ h.number ∙ sym f.number;
  spread_x = first t t' e ∙ h.spread_y ∙ sym (first s s' f);
  spread_y = second t t' e ∙ h.spread_x ∙ sym (second s s' f);
  joint = joint-turned t t' e ∙ h.joint ∙ sym (joint-turned s s' f);
}
  where
    first : (u v : PairSums) → AreTurned u v → spread_x v ≡ spread_y u
    first u v g = rw (g.number, g.x, g.xx) refl

    second : (u v : PairSums) → AreTurned u v → spread_y v ≡ spread_x u
    second u v g = rw (g.number, g.y, g.yy) refl

-- ---- one value

module _ (c : ℤ) where
  IsMoved : ℤ → Type 0
  IsMoved x = (x ≡ MISSING) ⊎ (is_missing (add c x) ≡ false)

  moved-missing : (x : ℤ) → x ≡ MISSING → add c x ≡ MISSING
  unfolding add
  moved-missing x e = rw e (both-ways (is_missing c))
    where
      both-ways : (b : Bool) → (if b || true then MISSING else to_cell (c +ℤ MISSING)) ≡ MISSING
      both-ways true = refl
      both-ways false = refl

  -- a present sum is the sum, and of a present value
  moved-is : (x : ℤ) → is_missing (add c x) ≡ false → (add c x ≡ c +ℤ x) × (is_missing x ≡ false)
  unfolding add
  moved-is x h = step (is_missing c) (is_missing x) refl refl h
    where
      step : (a b : Bool) → is_missing c ≡ a → is_missing x ≡ b → is_missing (add c x) ≡ false → (add c x ≡ c +ℤ x) × (is_missing x ≡ false)
      step true b e f g = absurd (let no : true ≡ false = rw e at g in true≢false no)
      step false true e f g = absurd (let no : true ≡ false = rw (e, f) at g in true≢false no)
      step false false e f g =
          let there : is_missing (to_cell (c +ℤ x)) ≡ false = rw (e, f) at g in
          rw (e, f) (cell-stays (c +ℤ x) there, refl)

  -- ---- pairs

  ArePaired : List (ℤ × ℤ) → List (ℤ × ℤ) → Type 0
  ArePaired [] [] = Unit {0}
  ArePaired [] (p ∷ ps) = ⊥
  ArePaired (q ∷ qs) [] = ⊥
  ArePaired (q ∷ qs) (p ∷ ps) = (q.0 ≡ p.0) × (q.1 ≡ c +ℤ p.1) × ArePaired qs ps

  paired : (xs ys : List ℤ) → AreMoved c ys → ArePaired (present_pairs xs (map (add c) ys)) (present_pairs xs ys)
  unfolding ArePaired
  paired [] ys h = tt
  paired (x ∷ xs) [] h = tt
  paired (x ∷ xs) (y ∷ ys) h = step (is_missing x) refl h.0 (paired xs ys h.1)
    where
      step : (a : Bool) → is_missing x ≡ a → (y ≡ MISSING) ⊎ (is_missing (add c y) ≡ false) → ArePaired (present_pairs xs (map (add c) ys)) (present_pairs xs ys)
          → ArePaired (present_pairs (x ∷ xs) (map (add c) (y ∷ ys))) (present_pairs (x ∷ xs) (y ∷ ys))
      step true e g rest = rw e rest
      step false e (inl g) rest = rw (moved-missing y g, g, e) rest
      step false e (inr g) rest = let m = moved-is y g in rw (e, g, m.1) (refl, m.0, rest)

  same-length : (qs ps : List (ℤ × ℤ)) → ArePaired qs ps → length qs ≡ length ps
  unfolding ArePaired
  same-length [] [] h = refl
  same-length [] (p ∷ ps) h = absurd h
  same-length (q ∷ qs) [] h = absurd h
  same-length (q ∷ qs) (p ∷ ps) h = ap suc (same-length qs ps h.2)

  same-each : (f : ℤ × ℤ → ℤ) → ((q p : ℤ × ℤ) → q.0 ≡ p.0 → f q ≡ f p) → (qs ps : List (ℤ × ℤ)) → ArePaired qs ps → map f qs ≡ map f ps
  unfolding ArePaired
  same-each f one [] [] h = refl
  same-each f one [] (p ∷ ps) h = absurd h
  same-each f one (q ∷ qs) [] h = absurd h
  same-each f one (q ∷ qs) (p ∷ ps) h = ap₂ (λ (z : ℤ) (l : List ℤ). z ∷ l) (one q p h.0) (same-each f one qs ps h.2)

  abbrev firsts : List (ℤ × ℤ) → ℤ
  firsts ps = total (map (λ p. p.0) ps)

  abbrev seconds : List (ℤ × ℤ) → ℤ
  seconds ps = total (map (λ p. p.1) ps)

  abbrev squares : List (ℤ × ℤ) → ℤ
  squares ps = total (map (λ p. p.1 *ℤ p.1) ps)

  abbrev joints : List (ℤ × ℤ) → ℤ
  joints ps = total (map (λ p. p.0 *ℤ p.1) ps)

  seconds-moved : (qs ps : List (ℤ × ℤ)) → ArePaired qs ps → seconds qs ≡ (pos (length ps) *ℤ c) +ℤ seconds ps
  unfolding ArePaired
  seconds-moved [] [] h = omega (arith, ints)
  seconds-moved [] (p ∷ ps) h = absurd h
  seconds-moved (q ∷ qs) [] h = absurd h
  seconds-moved (q ∷ qs) (p ∷ ps) h =
      let left = total-cons q.1 (map (λ (p : ℤ × ℤ). p.1) qs) in
      let right = total-cons p.1 (map (λ (p : ℤ × ℤ). p.1) ps) in
      let rest = seconds-moved qs ps h.2 in
      let e = h.1 in
      let n : pos (suc (length ps)) *ℤ c ≡ (pos (length ps) *ℤ c) +ℤ c = omega (arith, ints) in
      omega (arith, ints, left, right, rest, e, n)

  joint-one : (x y : ℤ) → x *ℤ (c +ℤ y) ≡ (c *ℤ x) +ℤ (x *ℤ y)
  joint-one x y = times-sum x c y ∙ ap (λ (z : ℤ). z +ℤ (x *ℤ y)) (*ℤ_comm x c)

  joints-moved : (qs ps : List (ℤ × ℤ)) → ArePaired qs ps → joints qs ≡ (c *ℤ firsts ps) +ℤ joints ps
  unfolding ArePaired
  joints-moved [] [] h = omega (arith, ints)
  joints-moved [] (p ∷ ps) h = absurd h
  joints-moved (q ∷ qs) [] h = absurd h
  joints-moved (q ∷ qs) (p ∷ ps) h =
      let left = total-cons (q.0 *ℤ q.1) (map (λ (p : ℤ × ℤ). p.0 *ℤ p.1) qs) in
      let right = total-cons (p.0 *ℤ p.1) (map (λ (p : ℤ × ℤ). p.0 *ℤ p.1) ps) in
      let first = ap (λ (z : ℤ). c *ℤ z) (total-cons p.0 (map (λ (p : ℤ × ℤ). p.0) ps)) ∙ times-sum c p.0 (firsts ps) in
      let rest = joints-moved qs ps h.2 in
      let e : q.0 *ℤ q.1 ≡ (c *ℤ p.0) +ℤ (p.0 *ℤ p.1) = ap₂ (λ (x y : ℤ). x *ℤ y) h.0 h.1 ∙ joint-one p.0 p.1 in
      omega (arith, ints, left, right, first, rest, e)

  square-one : (y : ℤ) → (c +ℤ y) *ℤ (c +ℤ y) ≡ (c *ℤ c) +ℤ ((c *ℤ y) +ℤ (c *ℤ y)) +ℤ (y *ℤ y)
  square-one y =
      let whole = times-sum (c +ℤ y) c y in
      let left = *ℤ_comm (c +ℤ y) c ∙ times-sum c c y in
      let right = *ℤ_comm (c +ℤ y) y ∙ times-sum y c y in
      let turned = *ℤ_comm y c in
      omega (arith, ints, whole, left, right, turned)

  squares-moved : (qs ps : List (ℤ × ℤ)) → ArePaired qs ps
      → squares qs ≡ (pos (length ps) *ℤ (c *ℤ c)) +ℤ ((c *ℤ seconds ps) +ℤ (c *ℤ seconds ps)) +ℤ squares ps
  unfolding ArePaired
  squares-moved [] [] h = omega (arith, ints)
  squares-moved [] (p ∷ ps) h = absurd h
  squares-moved (q ∷ qs) [] h = absurd h
  squares-moved (q ∷ qs) (p ∷ ps) h =
      let left = total-cons (q.1 *ℤ q.1) (map (λ (p : ℤ × ℤ). p.1 *ℤ p.1) qs) in
      let right = total-cons (p.1 *ℤ p.1) (map (λ (p : ℤ × ℤ). p.1 *ℤ p.1) ps) in
      let first = ap (λ (z : ℤ). c *ℤ z) (total-cons p.1 (map (λ (p : ℤ × ℤ). p.1) ps)) ∙ times-sum c p.1 (seconds ps) in
      let rest = squares-moved qs ps h.2 in
      let e : q.1 *ℤ q.1 ≡ (c *ℤ c) +ℤ ((c *ℤ p.1) +ℤ (c *ℤ p.1)) +ℤ (p.1 *ℤ p.1) = ap (λ (y : ℤ). y *ℤ y) h.1 ∙ square-one p.1 in
      let n : pos (suc (length ps)) *ℤ (c *ℤ c) ≡ (pos (length ps) *ℤ (c *ℤ c)) +ℤ (c *ℤ c) = omega (arith, ints) in
      omega (arith, ints, left, right, first, rest, e, n)

  -- ---- spreads

  spread-moved : (n y yy : ℤ) → (n *ℤ ((n *ℤ (c *ℤ c)) +ℤ ((c *ℤ y) +ℤ (c *ℤ y)) +ℤ yy)) -ℤ (((n *ℤ c) +ℤ y) *ℤ ((n *ℤ c) +ℤ y)) ≡ (n *ℤ yy) -ℤ (y *ℤ y)
  spread-moved n y yy =
      let a = times-sum n ((n *ℤ (c *ℤ c)) +ℤ ((c *ℤ y) +ℤ (c *ℤ y))) yy in
      let b = times-sum n (n *ℤ (c *ℤ c)) ((c *ℤ y) +ℤ (c *ℤ y)) in
      let d = times-sum n (c *ℤ y) (c *ℤ y) in
      let whole = times-sum ((n *ℤ c) +ℤ y) (n *ℤ c) y in
      let left = *ℤ_comm ((n *ℤ c) +ℤ y) (n *ℤ c) ∙ times-sum (n *ℤ c) (n *ℤ c) y in
      let right = *ℤ_comm ((n *ℤ c) +ℤ y) y ∙ times-sum y (n *ℤ c) y in
      let turned = *ℤ_comm y (n *ℤ c) in
      let e : (n *ℤ c) *ℤ y ≡ n *ℤ (c *ℤ y) = times-times n c y in
      let f : (n *ℤ c) *ℤ (n *ℤ c) ≡ n *ℤ (n *ℤ (c *ℤ c))
      = times-times n c (n *ℤ c) ∙ ap (λ (z : ℤ). n *ℤ z) (sym (times-times c n c) ∙ ap (λ (z : ℤ). z *ℤ c) (*ℤ_comm c n) ∙ times-times n c c) in
      omega (arith, ints, a, b, d, whole, left, right, turned, e, f)

  joint-moved : (n x y xy : ℤ) → (n *ℤ ((c *ℤ x) +ℤ xy)) -ℤ (x *ℤ ((n *ℤ c) +ℤ y)) ≡ (n *ℤ xy) -ℤ (x *ℤ y)
  joint-moved n x y xy =
      let a = times-sum n (c *ℤ x) xy in
      let b = times-sum x (n *ℤ c) y in
      let e : x *ℤ (n *ℤ c) ≡ n *ℤ (c *ℤ x) = *ℤ_comm x (n *ℤ c) ∙ times-times n c x in
      omega (arith, ints, a, b, e)

  sums-alike : (qs ps : List (ℤ × ℤ)) → ArePaired qs ps → AreAlike (sums_of_pairs qs) (sums_of_pairs ps)
  sums-alike qs ps h =
      let t = sums_of_pairs qs in
      let s = sums_of_pairs ps in
      let n : t.number ≡ s.number = same-length qs ps h in
      let x : t.x ≡ s.x = ap total (same-each (λ q. q.0) (λ q p e. e) qs ps h) in
      let xx : t.xx ≡ s.xx = ap total (same-each (λ q. q.0 *ℤ q.0) (λ q p e. ap (λ (z : ℤ). z *ℤ z) e) qs ps h) in
      let y : t.y ≡ (pos s.number *ℤ c) +ℤ s.y = seconds-moved qs ps h in
      let yy : t.yy ≡ (pos s.number *ℤ (c *ℤ c)) +ℤ ((c *ℤ s.y) +ℤ (c *ℤ s.y)) +ℤ s.yy = squares-moved qs ps h in
      let xy : t.xy ≡ (c *ℤ s.x) +ℤ s.xy = joints-moved qs ps h in
      record {
        number = n;
        spread_x = rw (n, x, xx) refl;
        spread_y = rw (n, y, yy) (spread-moved (pos s.number) s.y s.yy);
        joint = rw (n, x, y, xy) (joint-moved (pos s.number) s.x s.y s.xy);
      }

  alike-first : (xs ys : List ℤ) → AreMoved c ys → AreAlike (sums_of_pairs (present_pairs xs (map (add c) ys))) (sums_of_pairs (present_pairs xs ys))
  alike-first xs ys h = sums-alike _ _ (paired xs ys h)

  alike-second : (xs ys : List ℤ) → AreMoved c xs → AreAlike (sums_of_pairs (present_pairs (map (add c) xs) ys)) (sums_of_pairs (present_pairs xs ys))
  alike-second xs ys h =
      rw (pairs-swapped ys (map (add c) xs), pairs-swapped ys xs)
      (alike-turned _ _ _ _ (sums-turned (present_pairs ys (map (add c) xs))) (sums-turned (present_pairs ys xs)) (alike-first ys xs h))

  -- ---- ranks

  AreRaised : List ℤ → List ℤ → Type 0
  AreRaised [] [] = Unit {0}
  AreRaised [] (x ∷ xs) = ⊥
  AreRaised (y ∷ ys) [] = ⊥
  AreRaised (y ∷ ys) (x ∷ xs) = (y ≡ c +ℤ x) × AreRaised ys xs

  raised : (qs ps : List (ℤ × ℤ)) → ArePaired qs ps → AreRaised (map (λ q. q.1) qs) (map (λ p. p.1) ps)
  unfolding ArePaired AreRaised
  raised [] [] h = tt
  raised [] (p ∷ ps) h = absurd h
  raised (q ∷ qs) [] h = absurd h
  raised (q ∷ qs) (p ∷ ps) h = (h.1, raised qs ps h.2)

  less-moved : (x x' : ℤ) → int_lt (c +ℤ x) (c +ℤ x') ≡ int_lt x x'
  less-moved x x' =
      both_ways _ _ (λ e. lt-int_lt x x' (down x x' (less-true (c +ℤ x) (c +ℤ x') e)))
      (λ e. lt-int_lt (c +ℤ x) (c +ℤ x') (up x x' (less-true x x' e)))
    where
      down : (x x' : ℤ) → (c +ℤ x) <ℤ (c +ℤ x') → x <ℤ x'
      down x x' l = omega (arith, ints)

      up : (x x' : ℤ) → x <ℤ x' → (c +ℤ x) <ℤ (c +ℤ x')
      up x x' l = omega (arith, ints)

  equal-moved : (x x' : ℤ) → int_eq (c +ℤ x) (c +ℤ x') ≡ int_eq x x'
  equal-moved x x' =
      both_ways _ _ (λ e. eq-int_eq x x' (down x x' (int_eq-true (c +ℤ x) (c +ℤ x') e)))
      (λ e. eq-int_eq (c +ℤ x) (c +ℤ x') (ap (λ (z : ℤ). c +ℤ z) (int_eq-true x x' e)))
    where
      down : (x x' : ℤ) → c +ℤ x ≡ c +ℤ x' → x ≡ x'
      down x x' e = omega (arith, ints)

  counted-less : (y x : ℤ) (ys xs : List ℤ) (n : ℕ) → y ≡ c +ℤ x → AreRaised ys xs
      → fold (λ a v. a + cond (int_lt v y) 1 0) n ys ≡ fold (λ a v. a + cond (int_lt v x) 1 0) n xs
  unfolding AreRaised
  counted-less y x [] [] n e h = refl
  counted-less y x [] (v ∷ xs) n e h = absurd h
  counted-less y x (u ∷ ys) [] n e h = absurd h
  counted-less y x (u ∷ ys) (v ∷ xs) n e h =
      ap (λ b. fold (λ a v. a + cond (int_lt v y) 1 0) (n + cond b 1 0) ys) (ap₂ int_lt h.0 e ∙ less-moved v x)
      ∙ counted-less y x ys xs (n + cond (int_lt v x) 1 0) e h.1

  counted-equal : (y x : ℤ) (ys xs : List ℤ) (n : ℕ) → y ≡ c +ℤ x → AreRaised ys xs
      → fold (λ a v. a + cond (int_eq y v) 1 0) n ys ≡ fold (λ a v. a + cond (int_eq x v) 1 0) n xs
  unfolding AreRaised
  counted-equal y x [] [] n e h = refl
  counted-equal y x [] (v ∷ xs) n e h = absurd h
  counted-equal y x (u ∷ ys) [] n e h = absurd h
  counted-equal y x (u ∷ ys) (v ∷ xs) n e h =
      ap (λ b. fold (λ a v. a + cond (int_eq y v) 1 0) (n + cond b 1 0) ys) (ap₂ int_eq e h.0 ∙ equal-moved x v)
      ∙ counted-equal y x ys xs (n + cond (int_eq x v) 1 0) e h.1

  rank-same : (y x : ℤ) (ys xs : List ℤ) → y ≡ c +ℤ x → AreRaised ys xs → twice_rank y ys ≡ twice_rank x xs
  rank-same y x ys xs e h = ap₂ (λ (m n : ℕ). 2 * m + n + 1) (counted-less y x ys xs 0 e h) (counted-equal y x ys xs 0 e h)

  ranks-same : (qs ps : List (ℤ × ℤ)) → ArePaired qs ps → ranked qs ≡ ranked ps
  unfolding ArePaired
  ranks-same qs ps h = all qs ps h
    where
      firsts-are : map (λ q. q.0) qs ≡ map (λ p. p.0) ps
      firsts-are = same-each (λ q. q.0) (λ q p e. e) qs ps h

      all : (vs us : List (ℤ × ℤ)) → ArePaired vs us → map (ranks_in qs) vs ≡ map (ranks_in ps) us
      all [] [] g = refl
      all [] (u ∷ us) g = absurd g
      all (v ∷ vs) [] g = absurd g
      all (v ∷ vs) (u ∷ us) g =
          ap₂ (λ (p : ℤ × ℤ) (l : List (ℤ × ℤ)). p ∷ l)
          (ap₂ both (ap₂ twice_rank g.0 firsts-are) (rank-same v.1 u.1 _ _ g.1 (raised qs ps h)))
          (all vs us g.2)

  ranks-first : (xs ys : List ℤ) → AreMoved c ys → correlation (sums_of_pairs (ranked (present_pairs xs (map (add c) ys)))) ≡ correlation (sums_of_pairs (ranked (present_pairs xs ys)))
  ranks-first xs ys h = ap (λ (ps : List (ℤ × ℤ)). correlation (sums_of_pairs ps)) (ranks-same _ _ (paired xs ys h))

pub pairs-have-no-origin : PairsHaveNoOrigin
unfolding formula
pairs-have-no-origin = record {
  correlation = record {
    first = λ c ys xs zs h. correlation-alike _ _ (alike-first c xs ys h);
    second = λ c ys xs zs h. correlation-alike _ _ (alike-second c xs ys h);
  };
  ranks = record {
    first = λ c ys xs zs h. ranks-first c xs ys h;
    second = λ c ys xs zs h. ranked-swapped ys (map (add c) xs) ∙ ranks-first c ys xs h ∙ ranked-swapped xs ys;
  };
  covariance = record {
    first = λ c ys xs zs h. covariance-alike _ _ (alike-first c xs ys h);
    second = λ c ys xs zs h. covariance-alike _ _ (alike-second c xs ys h);
  };
  slope = record {
    first = λ c ys xs zs h. slope-alike _ _ (alike-first c xs ys h);
    second = λ c ys xs zs h. slope-alike _ _ (alike-second c xs ys h);
  };
  error = record {
    first = λ c ys xs zs h. error-alike _ _ (alike-first c xs ys h);
    second = λ c ys xs zs h. error-alike _ _ (alike-second c xs ys h);
  };
}
