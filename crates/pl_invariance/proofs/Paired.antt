-- The sums of pairs with the sides swapped, and of values with themselves.
use Rattle.std.proofs.Common.{◌≡◌, ℕ, zero, suc, ◌+◌, ◌*◌, ◌/◌, ◌^◌, ◌≤◌, ◌==◌, nat_lt, Bool, true, false, ◌⊎◌, inl, inr, ℤ, pos, negsuc, neg_ℤ, ◌-ℤ◌, ◌*ℤ◌, List, [], ◌∷◌, length, map, unsigned_abs, arith, refl, ap, ap₂, ◌∙◌}
use Rattle.std.proofs.lemmas.Nat.{mul-le}
use Rattle.std.proofs.lemmas.Bool.Decides.{nat_tests}
use Rattle.std.proofs.Math.IntN.{*ℤ_comm, negsuc-*ℤ-pos}
use Rattle.std.proofs.Math.Nat.{div-eq_of_lt-le}
use Rattle.pl_spec.specs.Cells.{total, present_values}
use Rattle.pl_spec.specs.Rounding.{MISSING, MILLION, is_missing, isqrt, root_by, quot, div_round, to_cell}
use Rattle.pl_pipeline.specs.Formula.{PairSums, present_pairs, pair_total, sums_of_pairs, pair_sums, spread_x, spread_y, joint_spread, square, root_quot, with_sign, correlation, covariance, slope}
use Rattle.pl_invariance.specs.Paired.{IsOne, PairsHaveNoOrder, ValuesExplainThemselves}
use Rattle.pl_invariance.proofs.Schwarz.{spread-not-below}

abbrev pub swap : ℤ × ℤ → ℤ × ℤ
swap p = (p.1, p.0)

pairs-by : (x y : ℤ) (xs ys : List ℤ) (a b : Bool) → is_missing x ≡ a → is_missing y ≡ b → present_pairs ys xs ≡ map swap (present_pairs xs ys)
    → present_pairs (y ∷ ys) (x ∷ xs) ≡ map swap (present_pairs (x ∷ xs) (y ∷ ys))
pairs-by x y xs ys true true e f h = rw (e, f) h
pairs-by x y xs ys true false e f h = rw (e, f) h
pairs-by x y xs ys false true e f h = rw (e, f) h
pairs-by x y xs ys false false e f h = rw (e, f) (ap (λ (l : List (ℤ × ℤ)). (y, x) ∷ l) h)

pub pairs-swapped : (xs ys : List ℤ) → present_pairs ys xs ≡ map swap (present_pairs xs ys)
pairs-swapped [] [] = refl
pairs-swapped [] (y ∷ ys) = refl
pairs-swapped (x ∷ xs) [] = refl
pairs-swapped (x ∷ xs) (y ∷ ys) = pairs-by x y xs ys _ _ refl refl (pairs-swapped xs ys)

map-swapped : (f : ℤ → ℤ → ℤ) (ps : List (ℤ × ℤ)) → pair_total f (map swap ps) ≡ pair_total (λ x y. f y x) ps
map-swapped f ps = ap total (each ps)
  where
    each : (qs : List (ℤ × ℤ)) → map (λ q. f q.0 q.1) (map swap qs) ≡ map (λ q. f q.1 q.0) qs
    each [] = refl
    each (q ∷ qs) = ap (λ (l : List ℤ). f q.1 q.0 ∷ l) (each qs)

turned-products : (ps : List (ℤ × ℤ)) → pair_total (λ x y. y *ℤ x) ps ≡ pair_total (λ x y. x *ℤ y) ps
turned-products ps = ap total (each ps)
  where
    each : (qs : List (ℤ × ℤ)) → map (λ q. q.1 *ℤ q.0) qs ≡ map (λ q. q.0 *ℤ q.1) qs
    each [] = refl
    each (q ∷ qs) = ap₂ (λ (z : ℤ) (l : List ℤ). z ∷ l) (*ℤ_comm q.1 q.0) (each qs)

swap-length : (ps : List (ℤ × ℤ)) → length (map swap ps) ≡ length ps
swap-length [] = refl
swap-length (p ∷ ps) = ap suc (swap-length ps)

pub record AreTurned (s t : PairSums) : Type 0 where
  pub number : t.number ≡ s.number
  pub x : t.x ≡ s.y
  pub y : t.y ≡ s.x
  pub xx : t.xx ≡ s.yy
  pub yy : t.yy ≡ s.xx
  pub xy : t.xy ≡ s.xy

pub sums-turned : (ps : List (ℤ × ℤ)) → AreTurned (sums_of_pairs ps) (sums_of_pairs (map swap ps))
sums-turned ps = record {
  number = swap-length ps;
  x = map-swapped (λ x y. x) ps;
  y = map-swapped (λ x y. y) ps;
  xx = map-swapped (λ x y. x *ℤ x) ps;
  yy = map-swapped (λ x y. y *ℤ y) ps;
  xy = map-swapped (λ x y. x *ℤ y) ps ∙ turned-products ps;
}

pub joint-turned : (s t : PairSums) → AreTurned s t → joint_spread t ≡ joint_spread s
joint-turned s t h = rw (h.number, h.x, h.y, h.xy) (ap (λ (z : ℤ). (pos s.number *ℤ s.xy) -ℤ z) (*ℤ_comm s.y s.x))

pub correlation-turned : (s t : PairSums) → AreTurned s t → correlation t ≡ correlation s
unfolding correlation
correlation-turned s t h =
    let j : joint_spread t ≡ joint_spread s = joint-turned s t h in
    let a : spread_x t ≡ spread_y s = rw (h.number, h.x, h.xx) refl in
    let b : spread_y t ≡ spread_x s = rw (h.number, h.y, h.yy) refl in
    let d : unsigned_abs (spread_x t) * unsigned_abs (spread_y t) ≡ unsigned_abs (spread_x s) * unsigned_abs (spread_y s) = rw (a, b) (omega arith) in
    ap₂ (λ (z : ℤ) (n : ℕ). with_sign z (root_quot (square z * 10 ^ 12) n)) j d

covariance-turned : (s t : PairSums) → AreTurned s t → covariance t ≡ covariance s
unfolding covariance
covariance-turned s t h =
    let j : joint_spread t ≡ joint_spread s = joint-turned s t h in
    ap₂ (λ (z : ℤ) (n : ℕ). quot z (pos (n * n * MILLION))) j h.number

pub pairs-have-no-order : PairsHaveNoOrder
pairs-have-no-order = record {
  correlation = λ xs ys. ap (λ (ps : List (ℤ × ℤ)). correlation (sums_of_pairs ps)) (pairs-swapped xs ys) ∙ correlation-turned _ _ (sums-turned (present_pairs xs ys));
  covariance = λ xs ys. ap (λ (ps : List (ℤ × ℤ)). covariance (sums_of_pairs ps)) (pairs-swapped xs ys) ∙ covariance-turned _ _ (sums-turned (present_pairs xs ys));
}

-- ---- values by themselves

abbrev pub twice : ℤ → ℤ × ℤ
twice x = (x, x)

twice-by : (x : ℤ) (xs : List ℤ) (a : Bool) → is_missing x ≡ a → present_pairs xs xs ≡ map twice (present_values xs) → present_pairs (x ∷ xs) (x ∷ xs) ≡ map twice (present_values (x ∷ xs))
twice-by x xs true e h = rw e h
twice-by x xs false e h = rw e (ap (λ (l : List (ℤ × ℤ)). (x, x) ∷ l) h)

pub own-pairs : (xs : List ℤ) → present_pairs xs xs ≡ map twice (present_values xs)
own-pairs [] = refl
own-pairs (x ∷ xs) = twice-by x xs _ refl (own-pairs xs)

pub map-twice : (f g : ℤ → ℤ → ℤ) → ((x : ℤ) → f x x ≡ g x x) → (xs : List ℤ) → map (λ q. f q.0 q.1) (map twice xs) ≡ map (λ q. g q.0 q.1) (map twice xs)
map-twice f g e [] = refl
map-twice f g e (x ∷ xs) = ap₂ (λ (z : ℤ) (l : List ℤ). z ∷ l) (e x) (map-twice f g e xs)

pub own-joint : (xs : List ℤ) → let s = sums_of_pairs (map twice xs) in joint_spread s ≡ spread_x s
own-joint xs =
    let y = ap total (map-twice (λ x y. y) (λ x y. x) (λ x. refl) xs) in
    let xy = ap total (map-twice (λ x y. x *ℤ y) (λ x y. x *ℤ x) (λ x. refl) xs) in
    rw (y, xy) refl

pub one : (n : ℕ) → to_cell (div_round (pos (suc n * MILLION)) (suc n)) ≡ pos MILLION
unfolding to_cell div_round
one n =
    let e : (2 * (suc n * MILLION) + suc n) / (2 * suc n) ≡ MILLION = div-eq_of_lt-le (2 * suc n) (omega arith) (omega arith) in
    rw e refl

pub turned-back : (n : ℕ) → neg_ℤ (neg_ℤ (pos n)) ≡ pos n
turned-back zero = refl
turned-back (suc n) = refl

quot-one : (a b : ℤ) → b ≡ a → (quot (b *ℤ pos MILLION) a ≡ MISSING) ⊎ (quot (b *ℤ pos MILLION) a ≡ pos MILLION)
unfolding quot
quot-one (pos zero) b e = inl refl
quot-one (pos (suc n)) b e = inr (rw e (one n))
quot-one (negsuc n) b e =
    let turned : neg_ℤ (negsuc n *ℤ pos MILLION) ≡ pos (suc n * MILLION) = ap neg_ℤ (negsuc-*ℤ-pos n MILLION) ∙ turned-back (suc n * MILLION) in
    inr (rw (e, turned) (one n))

own-slope : (xs : List ℤ) → IsOne (slope (pair_sums xs xs))
unfolding slope
own-slope xs =
    let s = pair_sums xs xs in
    let e : joint_spread s ≡ spread_x s = rw (own-pairs xs) (own-joint (present_values xs)) in
    quot-one (spread_x s) (joint_spread s) e

pub root-one : (m : ℕ) → root_quot (suc m * suc m * 10 ^ 12) (suc m * suc m) ≡ pos MILLION
unfolding isqrt root_by to_cell
root-one m =
    let d = suc m * suc m in
    let some : 1 * 1 ≤ suc m * suc m = mul-le 1 1 (suc m) (suc m) (omega arith) (omega arith) in
    let no : (d == 0) ≡ false = grind (arith, nat_tests, some) in
    let e : 4 * (d * 10 ^ 12) / d ≡ 4 * 10 ^ 12 = div-eq_of_lt-le d (omega arith) (omega (arith, some)) in
    rw (no, e) refl

own-by : (a : ℤ) → ((n : ℕ) → a ≡ negsuc n → ⊥) → (j y : ℤ) → j ≡ a → y ≡ a
    → let v = with_sign j (root_quot (square j * 10 ^ 12) (unsigned_abs a * unsigned_abs y)) in (v ≡ MISSING) ⊎ (v ≡ pos MILLION)
own-by (pos zero) f j y e g = inl (rw (e, g) refl)
own-by (pos (suc m)) f j y e g = let no : nat_lt (suc m) 0 ≡ false = grind (arith, nat_tests) in inr (rw (e, g, no) (root-one m))
own-by (negsuc n) f j y e g = absurd (f n refl)

own-correlation : (xs : List ℤ) → IsOne (correlation (sums_of_pairs (map twice xs)))
unfolding correlation
own-correlation xs =
    let s = sums_of_pairs (map twice xs) in
    let y = ap total (map-twice (λ x y. y) (λ x y. x) (λ x. refl) xs) in
    let yy = ap total (map-twice (λ x y. y *ℤ y) (λ x y. x *ℤ x) (λ x. refl) xs) in
    let same : spread_y s ≡ spread_x s = rw (y, yy) refl in
    own-by (spread_x s) (spread-not-below (map twice xs)) (joint_spread s) (spread_y s) (own-joint xs) same

pub values-explain-themselves : ValuesExplainThemselves
values-explain-themselves = record { correlation = λ xs. rw (own-pairs xs) (own-correlation (present_values xs)); slope = own-slope }
