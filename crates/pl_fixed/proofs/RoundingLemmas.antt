-- The code's quotient is the nearest number, and what follows of its size.
use Rattle.std.proofs.Common.{◌≡◌, ℕ, zero, suc, ◌+◌, ◌-◌, ◌*◌, ◌/◌, ◌%◌, ◌<◌, ◌≤◌, ℤ, pos, negsuc, neg_ℤ, ◌+ℤ◌, ◌-ℤ◌, ◌<ℤ◌, ◌≤ℤ◌, unsigned_abs, arith, refl, ap, sym, ◌∙◌, FitsSigned, to_z, of_z, nat_lt, false, div-lt_iff_lt-mul}
use Rattle.std.specs.Int.{Width}
use Rattle.std.specs.Int.RustNames.{int_div, int_rem, int_lt}
use Rattle.std.proofs.lemmas.Nat.{div-add-mod', div-mul-add, mod_below, mul-le}
use Rattle.std.proofs.lemmas.Bool.Decides.{nat_tests}
use Rattle.std.proofs.lemmas.Int.{ints, to_z-of_z, quot_is, rem_is, quot_fits, rem_below}
use Rattle.pl_spec.specs.Decimals.{signed}
use Rattle.pl_spec.specs.Rounding.{LIMIT, div_round}

-- ---- from the quotient that is rounded toward 0, by its rest

-- the rest is below half of b
nat_down : (n b : ℕ) → 2 * (n % b) < b → (2 * n + b) / (2 * b) ≡ n / b
nat_down n b h =
    let e : 2 * n + b ≡ (n / b) * (2 * b) + (2 * (n % b) + b) = omega (arith, div-add-mod' n b) in
    rw e (div-mul-add (n / b) (2 * b) (2 * (n % b) + b) (omega arith))

-- the rest is half of b or more
nat_up : (n b : ℕ) → 0 < b → b ≤ 2 * (n % b) → (2 * n + b) / (2 * b) ≡ n / b + 1
nat_up n b p h =
    let e : 2 * n + b ≡ (n / b + 1) * (2 * b) + (2 * (n % b) - b) = omega (arith, div-add-mod' n b) in
    rw e (div-mul-add (n / b + 1) (2 * b) (2 * (n % b) - b) (omega (arith, mod_below n b p)))

abs_neg : (n : ℕ) → unsigned_abs (neg_ℤ (pos n)) ≡ n
abs_neg zero = refl
abs_neg (suc n) = refl

-- b is above 0, and these are the sizes of the rest of a / b and of b
pub record IsDivided (a b : ℤ) (rest size : ℕ) : Type 0 where
  pub above : pos 0 <ℤ b
  pub rest_is : rest ≡ unsigned_abs (int_rem a b)
  pub size_is : size ≡ unsigned_abs b

pub quotient_nearest : (a b : ℤ) (rest size : ℕ) → IsDivided a b rest size → rest < size - rest → int_div a b ≡ div_round a (unsigned_abs b)
unfolding div_round
quotient_nearest (pos a) (pos b) rest size h less = ap pos (sym (nat_down a b (omega (arith, h.rest_is, h.size_is))))
quotient_nearest (negsuc a) (pos b) rest size h less =
    ap (λ n. neg_ℤ (pos n)) (sym (nat_down (suc a) b (omega (arith, rw abs_neg at h.rest_is, h.size_is))))
quotient_nearest a (negsuc b) rest size h less = absurd (omega (arith, ints, h.above))

pub quotient_above : (a b : ℤ) (rest size : ℕ) → IsDivided a b rest size → size - rest ≤ rest → pos 0 ≤ℤ a
    → int_div a b +ℤ pos 1 ≡ div_round a (unsigned_abs b)
unfolding div_round
quotient_above (pos a) (pos b) rest size h more sign =
    ap pos (sym (nat_up a b (omega (arith, ints, h.above)) (omega (arith, h.rest_is, h.size_is))))
quotient_above (negsuc a) b rest size h more sign = absurd (omega (arith, ints))
quotient_above a (negsuc b) rest size h more sign = absurd (omega (arith, ints, h.above))

pub quotient_below : (a b : ℤ) (rest size : ℕ) → IsDivided a b rest size → size - rest ≤ rest → a <ℤ pos 0
    → int_div a b -ℤ pos 1 ≡ div_round a (unsigned_abs b)
unfolding div_round
quotient_below (pos a) b rest size h more sign = absurd (omega (arith, ints))
quotient_below (negsuc a) (pos b) rest size h more sign =
    let e = nat_up (suc a) b (omega (arith, ints, h.above)) (omega (arith, rw abs_neg at h.rest_is, h.size_is)) in
    rw e (omega (arith, ints))
quotient_below a (negsuc b) rest size h more sign = absurd (omega (arith, ints, h.above))

pub above_zero : (b : ℤ) → pos 0 <ℤ b → 0 < unsigned_abs b
above_zero (pos b) p = omega (arith, ints)
above_zero (negsuc b) p = absurd (omega (arith, ints))

-- ---- the size of the rounded quotient

pub unsigned_abs-div_round : (a : ℤ) (b : ℕ) → unsigned_abs (div_round a b) ≡ (2 * unsigned_abs a + b) / (2 * b)
unfolding div_round
unsigned_abs-div_round (pos a) b = refl
unsigned_abs-div_round (negsuc a) b = abs_neg _

-- the rounded mean of so many cells is no farther from 0 than they are
pub div_round-few : (t : ℤ) (n : ℕ) → 0 < n → unsigned_abs t ≤ n * LIMIT → unsigned_abs (div_round t n) ≤ LIMIT
div_round-few t n some few =
    let size : unsigned_abs (div_round t n) ≡ (2 * unsigned_abs t + n) / (2 * n) = unsigned_abs-div_round t n in
    let bound : 2 * unsigned_abs t + n < suc LIMIT * (2 * n) = omega arith in
    let less : (2 * unsigned_abs t + n) / (2 * n) < suc LIMIT = (div-lt_iff_lt-mul {k = 2 * n} {x = 2 * unsigned_abs t + n} {y = suc LIMIT} (omega arith)).1 bound in
    omega arith

by_factor : (q n b : ℕ) → 0 < b → 2 * (q * b) ≤ 2 * n + b → q ≤ n
by_factor zero n b p h = omega arith
by_factor (suc zero) n b p h = omega arith
by_factor (suc (suc q)) n b p h = omega (arith, mul-le q 1 q b (omega arith) p)

below_fits : (w : Width) (q a : ℕ) → q ≤ suc a → FitsSigned w (negsuc a) → FitsSigned w (neg_ℤ (pos q))
below_fits w zero a h f = record { sfits = omega (arith, f.sfits) }
below_fits w (suc q) a h f = record { sfits = omega (arith, f.sfits) }

size-le : (n b : ℕ) → 0 < b → (2 * n + b) / (2 * b) ≤ n
size-le n b p =
    let q = (2 * n + b) / (2 * b) in
    let e = div-add-mod' (2 * n + b) (2 * b) in
    by_factor q n b p (omega arith)

-- it fits where the dividend fits
pub div_round-fits : (w : Width) (a : ℤ) (b : ℕ) → 0 < b → FitsSigned w a → FitsSigned w (div_round a b)
unfolding div_round
div_round-fits w (pos a) b p f = record { sfits = omega (arith, f.sfits, size-le a b p) }
div_round-fits w (negsuc a) b p f = below_fits w ((2 * suc a + b) / (2 * b)) a (size-le (suc a) b p) f

-- ---- the code's division

-- what the code has of the rest and of the divisor
pub divided_by : (w : Width) (a b : ℤ) (rest size : ℕ) → FitsSigned w a → FitsSigned w b → pos 0 <ℤ b
    → rest ≡ unsigned_abs (to_z w (of_z w (int_rem (to_z w (of_z w a)) (to_z w (of_z w b))))) → size ≡ unsigned_abs (to_z w (of_z w b))
    → IsDivided a b rest size
divided_by w a b rest size fa fb above r s = record {
  above = above;
  rest_is = r ∙ ap unsigned_abs (rem_is w a b fa fb);
  size_is = s ∙ ap unsigned_abs (to_z-of_z w b fb);
}

-- the rest is not above the divisor
pub rest_within : (a b : ℤ) (rest size : ℕ) → IsDivided a b rest size → rest ≤ size
rest_within a b rest size h = omega (arith, h.rest_is, h.size_is, rem_below a b (above_zero b h.above))

-- the quotient can be moved by 1
pub quotient_below-fits : (w : Width) (a b : ℤ) (rest size : ℕ) → IsDivided a b rest size → size - rest ≤ rest → a <ℤ pos 0
    → FitsSigned w a → FitsSigned w b → FitsSigned w (to_z w (of_z w (int_div (to_z w (of_z w a)) (to_z w (of_z w b)))) -ℤ pos 1)
quotient_below-fits w a b rest size h more sign fa fb =
    rw (quot_is w a b fa fb (quot_fits w a b fa h.above), quotient_below a b rest size h more sign) (div_round-fits w a _ (above_zero b h.above) fa)

pub quotient_above-fits : (w : Width) (a b : ℤ) (rest size : ℕ) → IsDivided a b rest size → size - rest ≤ rest → pos 0 ≤ℤ a
    → FitsSigned w a → FitsSigned w b → FitsSigned w (to_z w (of_z w (int_div (to_z w (of_z w a)) (to_z w (of_z w b)))) +ℤ pos 1)
quotient_above-fits w a b rest size h more sign fa fb =
    rw (quot_is w a b fa fb (quot_fits w a b fa h.above), quotient_above a b rest size h more sign) (div_round-fits w a _ (above_zero b h.above) fa)

-- ---- a multiple is divided exactly

div_small : (n b : ℕ) → n < b → n / b ≡ 0
div_small n b h = let e : 0 * b + n ≡ n = omega arith in rw e at (div-mul-add 0 b n h)

multiple : (m b : ℕ) → 0 < b → (2 * (m * b) + b) / (2 * b) ≡ m
multiple m b p = let e : 2 * (m * b) + b ≡ m * (2 * b) + b = omega arith in rw e (div-mul-add m (2 * b) b (omega arith))

pub div_round-neg : (n b : ℕ) → 0 < b → div_round (neg_ℤ (pos n)) b ≡ neg_ℤ (pos ((2 * n + b) / (2 * b)))
unfolding div_round
div_round-neg zero b p = let none = div_small (2 * 0 + b) (2 * b) (omega arith) in rw none
div_round-neg (suc n) b p = refl

pub div_round-multiple : (m b : ℕ) → 0 < b → div_round (pos (m * b)) b ≡ pos m
unfolding div_round
div_round-multiple m b p = ap pos (multiple m b p)

pub div_round-multiple_neg : (m b : ℕ) → 0 < b → div_round (neg_ℤ (pos (m * b))) b ≡ neg_ℤ (pos m)
div_round-multiple_neg m b p = div_round-neg (m * b) b p ∙ ap (λ n. neg_ℤ (pos n)) (multiple m b p)

-- by the sizes, with the sign of the dividend
pub div_round-by_sizes : (a : ℤ) (b : ℕ) → signed (int_lt a (pos 0)) ((2 * unsigned_abs a + b) / (2 * b)) ≡ div_round a b
unfolding div_round
div_round-by_sizes (pos a) b = let none : nat_lt a 0 ≡ false = grind (arith, nat_tests) in rw none refl
div_round-by_sizes (negsuc a) b = refl
