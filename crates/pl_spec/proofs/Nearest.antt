-- The rounded quotient is the nearest number, and the only one.
use Rattle.std.proofs.Common.{◌≡◌, ℕ, zero, suc, ◌+◌, ◌-◌, ◌*◌, ◌/◌, ◌<◌, ◌≤◌, ℤ, pos, negsuc, ◌+ℤ◌, ◌-ℤ◌, ◌*ℤ◌, neg_ℤ, refl, sym, ◌∙◌, ap, arith}
use Rattle.std.proofs.Math.IntN.{nat_abs, sub_ℕ, neg_ℤ-neg_ℤ}
use Rattle.std.proofs.Math.Nat.{lt-div-mul-add, div-mul-le_self, div-lt_iff_lt-mul}
use Rattle.pl_spec.specs.Rounding.{IsNearest, div_round}

-- ---- how far apart two numbers are

abs_sub_ℕ : (n k : ℕ) → nat_abs (sub_ℕ n (suc k)) ≡ (n - suc k) + (suc k - n)
abs_sub_ℕ n k = grind arith

abs-pos-pos : (n k : ℕ) → nat_abs (pos n -ℤ pos k) ≡ (n - k) + (k - n)
abs-pos-pos n zero = omega arith
abs-pos-pos n (suc k) = abs_sub_ℕ n k

abs-pos-neg : (n k : ℕ) → nat_abs (pos n -ℤ neg_ℤ (pos k)) ≡ n + k
abs-pos-neg n k = ap (λ z. nat_abs (pos n +ℤ z)) (neg_ℤ-neg_ℤ (pos k))

abs-neg-pos : (n k : ℕ) → nat_abs (negsuc n -ℤ pos k) ≡ suc n + k
abs-neg-pos n zero = grind arith
abs-neg-pos n (suc k) = omega arith

abs-neg-neg : (n k : ℕ) → nat_abs (negsuc n -ℤ neg_ℤ (pos k)) ≡ (suc n - k) + (k - suc n)
abs-neg-neg n k = ap (λ z. nat_abs (negsuc n +ℤ z)) (neg_ℤ-neg_ℤ (pos k)) ∙ abs_sub_ℕ k n ∙ omega arith

abs-neg : (k : ℕ) → nat_abs (neg_ℤ (pos k)) ≡ k
abs-neg zero = refl
abs-neg (suc k) = refl

-- ---- a quotient lies between the multiples around it

pub quotient : (x d m : ℕ) → 0 < d → m * d ≤ x → x < m * d + d → x / d ≡ m
quotient x d m h low high =
    let up : x / d < suc m = (div-lt_iff_lt-mul {k = d} {x = x} {y = suc m} h).1 (omega arith) in
    let down : x / d < m → ⊥ = (λ l. let bad : x < m * d = (div-lt_iff_lt-mul {k = d} {x = x} {y = m} h).0 l in omega arith) in
    omega arith

-- n / b, half a unit more, rounded down
record Halved (n b q : ℕ) : Type 0 where
  low : q * (2 * b) ≤ 2 * n + b
  high : 2 * n + b < q * (2 * b) + 2 * b

halved : (n b : ℕ) → 0 < b → Halved n b ((2 * n + b) / (2 * b))
halved n b h =
    let d : 0 < 2 * b = omega arith in
    record { low = div-mul-le_self (2 * n + b) (2 * b); high = lt-div-mul-add d }

one_half : (n b q : ℕ) → 0 < b → Halved n b q → (2 * n + b) / (2 * b) ≡ q
one_half n b q h f = quotient (2 * n + b) (2 * b) q (omega arith) f.low f.high

near : (n b q : ℕ) → Halved n b q → 2 * ((n - q * b) + (q * b - n)) ≤ b
near n b q f = omega (arith, f.low, f.high)

tie : (n b q : ℕ) → Halved n b q → 2 * ((n - q * b) + (q * b - n)) ≡ b → n < q * b
tie n b q f e = omega (arith, f.low, f.high)

above : (n b q : ℕ) → 0 < b → 2 * ((n - q * b) + (q * b - n)) ≤ b → (2 * ((n - q * b) + (q * b - n)) ≡ b → n < q * b) → 2 * n + b < q * (2 * b) + 2 * b
above n b q h within half = grind arith

half_of : (n b q : ℕ) → 0 < b → 2 * ((n - q * b) + (q * b - n)) ≤ b → (2 * ((n - q * b) + (q * b - n)) ≡ b → n < q * b) → Halved n b q
half_of n b q h within half = record { low = omega arith; high = above n b q h within half }

-- ---- the two directions

is_nearest_up : (n b q : ℕ) → Halved n b q → IsNearest (pos n) b (pos q)
is_nearest_up n b q f = record {
  near = rw (abs-pos-pos n (q * b)) (near n b q f);
  tie = rw (abs-pos-pos n (q * b)) (tie n b q f);
}

neg-times : (q b : ℕ) → neg_ℤ (pos q) *ℤ pos b ≡ neg_ℤ (pos (q * b))
neg-times zero b = ap pos (omega arith) ∙ ap (λ k. neg_ℤ (pos k)) (let e : 0 ≡ zero * b = omega arith in e)
neg-times (suc q) b = refl

is_nearest_down : (n b q : ℕ) → Halved (suc n) b q → IsNearest (negsuc n) b (neg_ℤ (pos q))
is_nearest_down n b q f =
    let e : nat_abs (negsuc n -ℤ neg_ℤ (pos q) *ℤ pos b) ≡ (suc n - q * b) + (q * b - suc n) = ap (λ z. nat_abs (negsuc n -ℤ z)) (neg-times q b) ∙ abs-neg-neg n (q * b) in
    record {
      near = rw e (near (suc n) b q f);
      tie = rw (e, abs-neg q) (tie (suc n) b q f);
    }

pub div_round-is_nearest : (a : ℤ) (b : ℕ) → 0 < b → IsNearest a b (div_round a b)
unfolding div_round
div_round-is_nearest (pos n) b h = is_nearest_up n b ((2 * n + b) / (2 * b)) (halved n b h)
div_round-is_nearest (negsuc n) b h = is_nearest_down n b ((2 * suc n + b) / (2 * b)) (halved (suc n) b h)

small : (n b : ℕ) → 2 * (suc n + 0 * b) ≤ b → (2 * (suc n + 0 * b) ≡ b → suc n < 0 * b) → 2 * suc n + b < 0 * (2 * b) + 2 * b
small n b e t = grind arith

pub nearest_is-div_round : (a : ℤ) (b : ℕ) (q : ℤ) → 0 < b → IsNearest a b q → q ≡ div_round a b
unfolding div_round
nearest_is-div_round (pos n) b (pos m) h f =
    ap pos (sym (one_half n b m h (half_of n b m h (rw (abs-pos-pos n (m * b)) at f.near) (rw (abs-pos-pos n (m * b)) at f.tie))))
nearest_is-div_round (pos n) b (negsuc m) h f =
    let e : 2 * (n + suc m * b) ≤ b = rw (abs-pos-neg n (suc m * b)) at f.near in absurd (omega arith)
nearest_is-div_round (negsuc n) b (pos m) h f =
    let e : 2 * (suc n + m * b) ≤ b = rw (abs-neg-pos n (m * b)) at f.near in
    let t : 2 * (suc n + m * b) ≡ b → suc n < m * b = rw (abs-neg-pos n (m * b)) at f.tie in
    by_zero m e t
  where
    by_zero : (m : ℕ) → 2 * (suc n + m * b) ≤ b → (2 * (suc n + m * b) ≡ b → suc n < m * b) → pos m ≡ neg_ℤ (pos ((2 * suc n + b) / (2 * b)))
    by_zero zero e t = ap (λ k. neg_ℤ (pos k)) (sym (one_half (suc n) b 0 h (record { low = omega arith; high = small n b e t })))
    by_zero (suc m) e t = absurd (omega arith)
nearest_is-div_round (negsuc n) b (negsuc m) h f =
    let e : 2 * ((suc n - suc m * b) + (suc m * b - suc n)) ≤ b = rw (abs-neg-neg n (suc m * b)) at f.near in
    let t : 2 * ((suc n - suc m * b) + (suc m * b - suc n)) ≡ b → suc n < suc m * b = rw (abs-neg-neg n (suc m * b)) at f.tie in
    ap (λ k. neg_ℤ (pos k)) (sym (one_half (suc n) b (suc m) h (half_of (suc n) b (suc m) h e t)))
