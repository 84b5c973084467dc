-- What the parts of a logarithm come to in 128 bits.
use Rattle.std.proofs.Common.{◌≡◌, ℕ, ℤ, pos, negsuc, neg_ℤ, ◌*◌, ◌^◌, ◌+◌, ◌/◌, ◌<◌, ◌≤◌, ◌-ℤ◌, ◌*ℤ◌, ◌≤ℤ◌, ◌<ℤ◌, unsigned_abs, FitsSigned, to_z, of_z, refl, sym, ap, ◌∙◌, arith}
use Rattle.std.specs.Int.{w128}
use Rattle.std.proofs.lemmas.Int.{ints, to_z-of_z, to_z_pos, unsigned_abs-mul, fits_signed_from_abs}
use Rattle.std.proofs.lemmas.Nat.{mul-le}
use Rattle.pl_spec.specs.Rounding.{LIMIT, MILLION, div_round}
use Rattle.pl_fixed.proofs.RoundingLemmas.{unsigned_abs-div_round}
use Rattle.pl_pipeline.specs.Elementary.{LN2, binary_log, size_by, log_bits}

within : (z : ℤ) (m : ℕ) → neg_ℤ (pos m) ≤ℤ z → z ≤ℤ pos m → unsigned_abs z ≤ m
within (pos n) m low high = omega (arith, ints)
within (negsuc n) m low high = omega (arith, ints)

million-log : binary_log MILLION ≡ 22979534024119767165
unfolding size_by log_bits
million-log = refl

abbrev parts : ℕ → ℤ
parts n = pos n -ℤ pos 22979534024119767165

parts-small : (n : ℕ) → n < 2 ^ 66 → unsigned_abs (parts n) ≤ 2 ^ 66
parts-small n h = within (parts n) (2 ^ 66) (omega (arith, ints)) (omega (arith, ints))

product-small : (n : ℕ) → n < 2 ^ 66 → unsigned_abs (parts n *ℤ pos LN2) ≤ 2 ^ 66 * LN2
product-small n h =
    let e : unsigned_abs (parts n *ℤ pos LN2) ≡ unsigned_abs (parts n) * LN2 = unsigned_abs-mul (parts n) (pos LN2) in
    let l : unsigned_abs (parts n) * LN2 ≤ 2 ^ 66 * LN2 = mul-le (unsigned_abs (parts n)) LN2 (2 ^ 66) LN2 (parts-small n h) (omega arith) in
    omega arith

pub product-is : (n : ℕ) → n < 2 ^ 66
    → to_z w128 (of_z w128 (to_z w128 (of_z w128 (to_z w128 n -ℤ pos 22979534024119767165)) *ℤ pos LN2)) ≡ (pos n -ℤ pos (binary_log MILLION)) *ℤ pos LN2
product-is n h =
    let p : to_z w128 n ≡ pos n = to_z_pos w128 n (omega arith) in
    let f : FitsSigned w128 (parts n) = fits_signed_from_abs w128 _ (omega (arith, parts-small n h)) in
    let g : FitsSigned w128 (parts n *ℤ pos LN2) = fits_signed_from_abs w128 _ (omega (arith, product-small n h)) in
    ap (λ z. to_z w128 (of_z w128 (to_z w128 (of_z w128 (z -ℤ pos 22979534024119767165)) *ℤ pos LN2))) p
    ∙ ap (λ z. to_z w128 (of_z w128 (z *ℤ pos LN2))) (to_z-of_z w128 _ f)
    ∙ to_z-of_z w128 _ g
    ∙ ap (λ m. (pos n -ℤ pos m) *ℤ pos LN2) (sym million-log)

pub natural-small : (n : ℕ) → n < 2 ^ 66 → unsigned_abs (div_round ((pos n -ℤ pos (binary_log MILLION)) *ℤ pos LN2) (2 ^ 60 * 10 ^ 12)) ≤ LIMIT
natural-small n h =
    let e = unsigned_abs-div_round (parts n *ℤ pos LN2) (2 ^ 60 * 10 ^ 12) in
    let l = product-small n h in
    rw million-log (omega (arith, e, l))

-- 2^60 times 10^12
abbrev pub PARTS : ℕ
PARTS = 1152921504606846976000000000000

abbrev pub nearest-of : ℕ → ℕ → ℕ
nearest-of b n = (2 * n + b) / (2 * b)

-- a rounded quotient from that of the magnitudes
up : (a : ℤ) (b n : ℕ) → pos 0 ≤ℤ a → n ≡ nearest-of b (unsigned_abs a) → pos n ≡ div_round a b
unfolding div_round
up (pos a) b n h e = ap pos e
up (negsuc a) b n h e = absurd (omega (arith, ints))

down : (a : ℤ) (b n : ℕ) → a <ℤ pos 0 → n ≡ nearest-of b (unsigned_abs a) → neg_ℤ (pos n) ≡ div_round a b
unfolding div_round
down (pos a) b n h e = absurd (omega (arith, ints))
down (negsuc a) b n h e = ap (λ m. neg_ℤ (pos m)) e

pub product-within : (n : ℕ) → n < 2 ^ 66 → unsigned_abs ((pos n -ℤ pos (binary_log MILLION)) *ℤ pos LN2) ≤ 2 ^ 66 * LN2
product-within n h = rw million-log (product-small n h)

-- the same in 128 bits
pub risen : (a : ℤ) (b n : ℕ) → pos 0 ≤ℤ a → n ≤ LIMIT → n ≡ nearest-of b (unsigned_abs a) → to_z w128 n ≡ div_round a b
risen a b n h l e = to_z_pos w128 n (omega arith) ∙ up a b n h e

pub fallen : (a : ℤ) (b n : ℕ) → a <ℤ pos 0 → n ≤ LIMIT → n ≡ nearest-of b (unsigned_abs a)
    → to_z w128 (of_z w128 (pos 0 -ℤ to_z w128 n)) ≡ div_round a b
fallen a b n h l e =
    let p : to_z w128 n ≡ pos n = to_z_pos w128 n (omega arith) in
    let m : pos 0 -ℤ pos n ≡ neg_ℤ (pos n) = omega (arith, ints) in
    let f : FitsSigned w128 (neg_ℤ (pos n)) = record { sfits = omega (arith, ints) } in
    ap (λ z. to_z w128 (of_z w128 (pos 0 -ℤ z))) p ∙ ap (λ z. to_z w128 (of_z w128 z)) m ∙ to_z-of_z w128 _ f ∙ down a b n h e
