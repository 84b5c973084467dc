-- The line of a regression goes through the means.
use Rattle.std.proofs.Common.{◌≡◌, ℕ, zero, suc, ◌+◌, ◌*◌, ◌<◌, ◌≤◌, false, true, inl, inr, ℤ, pos, negsuc, ◌+ℤ◌, ◌-ℤ◌, ◌*ℤ◌, neg_ℤ, unsigned_abs, arith, refl, sym, ap, ap₂, ◌∙◌}
use Rattle.std.proofs.lemmas.Int.{ints, unsigned_abs-mul}
use Rattle.std.proofs.lemmas.Bool.{cases_lt, true≢false}
use Rattle.std.proofs.lemmas.Nat.{mul-le}
use Rattle.std.proofs.Math.IntN.{*ℤ_comm}
use Rattle.pl_spec.specs.Rounding.{MILLION, is_missing, div_round, to_cell, quot}
use Rattle.pl_spec.proofs.Nearest.{div_round-is_nearest}
use Rattle.pl_pipeline.specs.Formula.{PairSums, pair_sums, present_pairs, spread_x, joint_spread, slope, intercept, formula}
use Rattle.pl_invariance.specs.Lines.{IsThroughMeans, LinesGoThroughMeans, off_means}
use Rattle.pl_invariance.proofs.Ring.{times-sum, times-less, times-times}
use Rattle.pl_invariance.proofs.Schwarz.{spread-not-below}
use Rattle.pl_invariance.proofs.Units.{cell-stays}

-- a present quotient by a number above 0 is the nearest
record IsQuotient (a : ℤ) (b : ℕ) (q : ℤ) : Type 0 where
  pub near : 2 * unsigned_abs (a -ℤ (q *ℤ pos b)) ≤ b

quotient-near : (a : ℤ) (b : ℕ) → is_missing (quot a (pos b)) ≡ false → IsQuotient a b (quot a (pos b))
unfolding quot
quotient-near a zero h = absurd (let no : true ≡ false = h in true≢false no)
quotient-near a (suc b) h =
    let near = (div_round-is_nearest a (suc b) (omega arith)).near in
    let stays : to_cell (div_round a (suc b)) ≡ div_round a (suc b) = cell-stays (div_round a (suc b)) h in
    record { near = rw stays near }

quotient-some : (a : ℤ) (b : ℕ) → is_missing (quot a (pos b)) ≡ false → 0 < b
unfolding quot
quotient-some a zero h = absurd (let no : true ≡ false = h in true≢false no)
quotient-some a (suc b) h = omega arith

pub less-factor : (s a b : ℕ) → 0 < s → a * s ≤ b * s → a ≤ b
less-factor s a b some h = elim (cases_lt b a) [
  | inl above ↦ (let scaled : (b + 1) * s ≤ a * s = mul-le (b + 1) s a s (omega arith) (omega arith) in absurd (omega (arith, h, some, scaled)))
  | inr low ↦ low
]

-- ---- products

pub sum-by : (a b c : ℤ) → (a +ℤ b) *ℤ c ≡ (a *ℤ c) +ℤ (b *ℤ c)
sum-by a b c = *ℤ_comm (a +ℤ b) c ∙ times-sum c a b ∙ ap₂ (λ (x y : ℤ). x +ℤ y) (*ℤ_comm c a) (*ℤ_comm c b)

pub less-by : (a b c : ℤ) → (a -ℤ b) *ℤ c ≡ (a *ℤ c) -ℤ (b *ℤ c)
less-by a b c = *ℤ_comm (a -ℤ b) c ∙ times-less c a b ∙ ap₂ (λ (x y : ℤ). x -ℤ y) (*ℤ_comm c a) (*ℤ_comm c b)

-- what the line is off, times the width, is made of the rests of the two quotients
parts : (m n w x y j a b : ℤ) → ((((m *ℤ n) *ℤ a) +ℤ (b *ℤ x)) -ℤ (m *ℤ y)) *ℤ w
    ≡ neg_ℤ ((m *ℤ (((y *ℤ w) -ℤ (j *ℤ x)) -ℤ (a *ℤ (n *ℤ w)))) +ℤ (x *ℤ ((j *ℤ m) -ℤ (b *ℤ w))))
parts m n w x y j a b =
    let outer = less-by (((m *ℤ n) *ℤ a) +ℤ (b *ℤ x)) (m *ℤ y) w in
    let inner = sum-by ((m *ℤ n) *ℤ a) (b *ℤ x) w in
    let first = times-less m ((y *ℤ w) -ℤ (j *ℤ x)) (a *ℤ (n *ℤ w)) in
    let second = times-less m (y *ℤ w) (j *ℤ x) in
    let third = times-less x (j *ℤ m) (b *ℤ w) in
    let turned : n *ℤ (a *ℤ w) ≡ a *ℤ (n *ℤ w) = sym (times-times n a w) ∙ ap (λ (z : ℤ). z *ℤ w) (*ℤ_comm n a) ∙ times-times a n w in
    let e : ((m *ℤ n) *ℤ a) *ℤ w ≡ m *ℤ (a *ℤ (n *ℤ w)) = times-times (m *ℤ n) a w ∙ times-times m n (a *ℤ w) ∙ ap (λ (z : ℤ). m *ℤ z) turned in
    let f : (b *ℤ x) *ℤ w ≡ x *ℤ (b *ℤ w) = ap (λ (z : ℤ). z *ℤ w) (*ℤ_comm b x) ∙ times-times x b w in
    let g : (m *ℤ y) *ℤ w ≡ m *ℤ (y *ℤ w) = times-times m y w in
    let h : m *ℤ (j *ℤ x) ≡ x *ℤ (j *ℤ m) = sym (times-times m j x) ∙ *ℤ_comm (m *ℤ j) x ∙ ap (λ (z : ℤ). x *ℤ z) (*ℤ_comm m j) in
    omega (arith, ints, outer, inner, first, second, third, e, f, g, h)

-- ---- the bound

apart : (a b : ℤ) → unsigned_abs (neg_ℤ (a +ℤ b)) ≤ unsigned_abs a + unsigned_abs b
apart a b = omega (arith, ints)

bound : (m n w x e f : ℕ) → 2 * e ≤ n * w → 2 * f ≤ w → 2 * (m * e + x * f) ≤ (m * n + x) * w
bound m n w x e f h k =
    let first : m * (2 * e) ≤ m * (n * w) = mul-le m (2 * e) m (n * w) (omega arith) h in
    let second : x * (2 * f) ≤ x * w = mul-le x (2 * f) x w (omega arith) k in
    omega (arith, first, second)

near-means : (n w : ℕ) (x y j a b : ℤ) → 0 < w → IsQuotient (j *ℤ pos MILLION) w b → IsQuotient ((y *ℤ pos w) -ℤ (j *ℤ x)) (n * w) a
    → 2 * unsigned_abs (((pos (MILLION * n) *ℤ a) +ℤ (b *ℤ x)) -ℤ (pos MILLION *ℤ y)) ≤ MILLION * n + unsigned_abs x
near-means n w x y j a b some qb qa =
    let off : ℤ = ((pos (MILLION * n) *ℤ a) +ℤ (b *ℤ x)) -ℤ (pos MILLION *ℤ y) in
    let e : ℤ = ((y *ℤ pos w) -ℤ (j *ℤ x)) -ℤ (a *ℤ pos (n * w)) in
    let f : ℤ = (j *ℤ pos MILLION) -ℤ (b *ℤ pos w) in
    let whole : unsigned_abs off * w ≡ unsigned_abs (neg_ℤ ((pos MILLION *ℤ e) +ℤ (x *ℤ f)))
    = sym (unsigned_abs-mul off (pos w)) ∙ ap unsigned_abs (parts (pos MILLION) (pos n) (pos w) x y j a b) in
    let two = apart (pos MILLION *ℤ e) (x *ℤ f) in
    let left : unsigned_abs (pos MILLION *ℤ e) ≡ MILLION * unsigned_abs e = unsigned_abs-mul (pos MILLION) e in
    let right : unsigned_abs (x *ℤ f) ≡ unsigned_abs x * unsigned_abs f = unsigned_abs-mul x f in
    let most = bound MILLION n w (unsigned_abs x) (unsigned_abs e) (unsigned_abs f) qa.near qb.near in
    less-factor w (2 * unsigned_abs off) (MILLION * n + unsigned_abs x) some (omega (arith, whole, two, left, right, most))

not-below : (z : ℤ) → ((n : ℕ) → z ≡ negsuc n → ⊥) → z ≡ pos (unsigned_abs z)
not-below (pos n) f = refl
not-below (negsuc n) f = absurd (f n refl)

rounded-line : (s : PairSums) → ((n : ℕ) → spread_x s ≡ negsuc n → ⊥) → is_missing (slope s) ≡ false → is_missing (intercept s) ≡ false
    → 2 * unsigned_abs (off_means s (slope s) (intercept s)) ≤ s.number * MILLION + unsigned_abs s.x
unfolding slope intercept
rounded-line s above there here =
    let w = unsigned_abs (spread_x s) in
    let e : spread_x s ≡ pos w = not-below (spread_x s) above in
    let j = joint_spread s in
    let b = quot (j *ℤ pos MILLION) (pos w) in
    let a = quot ((s.y *ℤ pos w) -ℤ (j *ℤ s.x)) (pos (s.number * w)) in
    let eb : slope s ≡ b = ap (quot (j *ℤ pos MILLION)) e in
    let ea : intercept s ≡ a = ap (λ (z : ℤ). quot ((s.y *ℤ z) -ℤ (j *ℤ s.x)) (pos s.number *ℤ z)) e in
    let some : 0 < w = quotient-some (j *ℤ pos MILLION) w (sym (ap is_missing eb) ∙ there) in
    let qb = quotient-near (j *ℤ pos MILLION) w (sym (ap is_missing eb) ∙ there) in
    let qa = quotient-near ((s.y *ℤ pos w) -ℤ (j *ℤ s.x)) (s.number * w) (sym (ap is_missing ea) ∙ here) in
    let n : s.number * MILLION ≡ MILLION * s.number = omega arith in
    rw (eb, ea, n) (near-means s.number w s.x s.y j a b some qb qa)

exact-line : (s : PairSums) → IsThroughMeans s (slope s) (intercept s)
unfolding slope intercept
exact-line s = record {
  rise = joint_spread s;
  start = (s.y *ℤ spread_x s) -ℤ (joint_spread s *ℤ s.x);
  width = spread_x s;
  slope_is = refl;
  intercept_is = refl;
  through = back (s.y *ℤ spread_x s) (joint_spread s *ℤ s.x);
}
  where
    back : (a b : ℤ) → (a -ℤ b) +ℤ b ≡ a
    back a b = omega (arith, ints)

pub lines-go-through-means : LinesGoThroughMeans
unfolding formula
lines-go-through-means = record {
  exactly = λ ys xs zs. exact-line (pair_sums xs ys);
  rounded = λ ys xs zs there here. rounded-line (pair_sums xs ys) (spread-not-below (present_pairs xs ys)) there here;
}
