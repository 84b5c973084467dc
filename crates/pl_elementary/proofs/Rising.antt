-- The logarithm and the exponential rise.
use Rattle.std.proofs.Common.{◌≡◌, ℕ, zero, suc, ◌+◌, ◌-◌, ◌*◌, ◌/◌, ◌^◌, ◌<◌, ◌≤◌, nat_lt, Bool, true, false, if◌then◌else◌, ℤ, pos, negsuc, neg_ℤ, ◌-ℤ◌, ◌*ℤ◌, ◌≤ℤ◌, ◌<ℤ◌, inl, inr, refl, sym, ap, ◌∙◌, subst, arith}
use Rattle.std.specs.Int.Count.{count_leading_zeros}
use Rattle.std.specs.Int.RustNames.{int_le}
use Rattle.std.proofs.Math.Nat.{pow-le-pow_right, div-mul-le_self}
use Rattle.std.proofs.lemmas.Nat.{mul-le, le-div}
use Rattle.std.proofs.lemmas.Bool.{cases_lt}
use Rattle.std.proofs.lemmas.Bool.Decides.{nat_tests}
use Rattle.std.proofs.lemmas.Int.{ints}
use Rattle.pl_spec.specs.Rounding.{IsCell, LIMIT, MILLION, MISSING, div_round}
use Rattle.pl_pipeline.specs.Elementary.{LN2, log, log_bits, size_by, part_log, binary_log}
use Rattle.pl_elementary.proofs.Bits.{few-bits}
use Rattle.pl_elementary.proofs.Sizes.{IsSized, sized}

-- ---- quotients

pub div-mono : (a b k : ℕ) → 0 < k → a ≤ b → a / k ≤ b / k
div-mono a b k p h = le-div (a / k) b k p (omega (arith, div-mul-le_self a k))

neg-rise : (m n : ℕ) → m ≤ n → neg_ℤ (pos n) ≤ℤ neg_ℤ (pos m)
neg-rise m n h = omega (arith, ints)

pub div-rise : (a b : ℤ) (d : ℕ) → 0 < d → a ≤ℤ b → div_round a d ≤ℤ div_round b d
unfolding div_round
div-rise (pos a) (pos b) d p h =
    let m : (2 * a + d) / (2 * d) ≤ (2 * b + d) / (2 * d) = div-mono (2 * a + d) (2 * b + d) (2 * d) (omega arith) (omega (arith, ints)) in
    omega (arith, ints)
div-rise (negsuc a) (pos b) d p h = omega (arith, ints)
div-rise (pos a) (negsuc b) d p h = absurd (omega (arith, ints))
div-rise (negsuc a) (negsuc b) d p h =
    neg-rise _ _ (div-mono (2 * suc b + d) (2 * suc a + d) (2 * d) (omega arith) (omega (arith, ints)))

-- ---- the logarithm

square-rise : (s t : ℕ) → s ≤ t → s * s / 2 ^ 62 ≤ t * t / 2 ^ 62
square-rise s t h = div-mono (s * s) (t * t) (2 ^ 62) (omega arith) (mul-le s s t t h h)

half-rise : (s t : ℕ) → s ≤ t → s / 2 ≤ t / 2
half-rise s t h = omega arith

bits-rise : (n s t : ℕ) → s ≤ t → log_bits n s ≤ log_bits n t
unfolding log_bits
bits-rise zero s t h = omega arith
bits-rise (suc n) zero t h = omega arith
bits-rise (suc n) (suc s) zero h = absurd (omega arith)
bits-rise (suc n) (suc s) (suc t) h =
    here (nat_lt (suc s) (2 ^ 63)) refl (nat_lt (suc t) (2 ^ 63)) refl
    (bits-rise n _ _ (square-rise (suc s) (suc t) h)) (bits-rise n _ _ (square-rise (suc s / 2) (suc t / 2) (half-rise (suc s) (suc t) h)))
    (few-bits n (suc s * suc s / 2 ^ 62))
  where
    here : (b : Bool) → nat_lt (suc s) (2 ^ 63) ≡ b → (c : Bool) → nat_lt (suc t) (2 ^ 63) ≡ c
        → log_bits n (suc s * suc s / 2 ^ 62) ≤ log_bits n (suc t * suc t / 2 ^ 62)
        → log_bits n (suc s / 2 * (suc s / 2) / 2 ^ 62) ≤ log_bits n (suc t / 2 * (suc t / 2) / 2 ^ 62)
        → log_bits n (suc s * suc s / 2 ^ 62) < 2 ^ n
        → (if b then log_bits n (suc s * suc s / 2 ^ 62) else 2 ^ n + log_bits n (suc s / 2 * (suc s / 2) / 2 ^ 62))
        ≤ (if c then log_bits n (suc t * suc t / 2 ^ 62) else 2 ^ n + log_bits n (suc t / 2 * (suc t / 2) / 2 ^ 62))
    here true e true f u v w = u
    here true e false f u v w = omega arith
    here false e true f u v w = absurd (grind (arith, nat_tests))
    here false e false f u v w = omega arith

binary-rise : (v w : ℕ) → 0 < v → v ≤ w → w ≤ LIMIT → binary_log v ≤ binary_log w
binary-rise v w some less small =
    by-size (size_by 57 v) (size_by 57 w) refl refl (sized v some (omega arith)) (sized w (omega arith) small)
  where
    by-size : (m n : ℕ) → size_by 57 v ≡ m → size_by 57 w ≡ n → IsSized v (count_leading_zeros 64 v) → IsSized w (count_leading_zeros 64 w) → binary_log v ≤ binary_log w
    by-size m n e f h k =
        let low : 2 ^ m ≤ v = subst (λ j. 2 ^ j ≤ v) e h.low in
        let high : w < 2 ^ suc n = subst (λ j. w < 2 ^ suc j) f k.high in
        let a : binary_log v ≡ m * 2 ^ 60 + part_log (v * 2 ^ (62 - m)) = ap (λ j. j * 2 ^ 60 + part_log (v * 2 ^ (62 - j))) e in
        let b : binary_log w ≡ n * 2 ^ 60 + part_log (w * 2 ^ (62 - n)) = ap (λ j. j * 2 ^ 60 + part_log (w * 2 ^ (62 - j))) f in
        elim (cases_lt m n) [
          | inl smaller ↦ omega (arith, a, b, few-bits 60 (v * 2 ^ (62 - m) * (v * 2 ^ (62 - m)) / 2 ^ 62))
          | inr larger ↦ elim (cases_lt n m) [
            | inl over ↦ absurd (let p = pow-le-pow_right {n = 2} (omega arith) {i = suc n} {j = m} over in omega (arith, p))
            | inr same ↦
                let z : m ≡ n = omega arith in
                let q : v * 2 ^ (62 - m) ≤ w * 2 ^ (62 - m) = mul-le v (2 ^ (62 - m)) w (2 ^ (62 - m)) less (omega arith) in
                let r = bits-rise 60 _ _ (square-rise (v * 2 ^ (62 - m)) (w * 2 ^ (62 - m)) q) in
                let c : binary_log w ≡ m * 2 ^ 60 + part_log (w * 2 ^ (62 - m)) = b ∙ ap (λ j. j * 2 ^ 60 + part_log (w * 2 ^ (62 - j))) (sym z) in
                omega (arith, a, c, r)
          ]
        ]

scaled-rise : (m n c : ℕ) → m ≤ n → ((pos m -ℤ pos c) *ℤ pos LN2) ≤ℤ ((pos n -ℤ pos c) *ℤ pos LN2)
scaled-rise m n c h = omega (arith, ints)

log-is : (v : ℕ) → 0 < v → log (pos v) ≡ div_round ((pos (binary_log v) -ℤ pos (binary_log MILLION)) *ℤ pos LN2) (2 ^ 60 * 10 ^ 12)
unfolding log
log-is zero h = absurd (omega arith)
log-is (suc v) h =
    let t : int_le (pos (suc v)) (pos 0) ≡ false = grind (arith, ints, nat_tests) in
    rw t refl

pub log-rise : (y x : ℤ) → pos 0 <ℤ y → y ≤ℤ x → x ≤ℤ pos LIMIT → log y ≤ℤ log x
log-rise (pos v) (pos w) some less small =
    let a = log-is v (omega (arith, ints)) in
    let b = log-is w (omega (arith, ints)) in
    let m = binary-rise v w (omega (arith, ints)) (omega (arith, ints)) (omega (arith, ints)) in
    rw (a, b) (div-rise _ _ (2 ^ 60 * 10 ^ 12) (omega arith) (scaled-rise (binary_log v) (binary_log w) (binary_log MILLION) m))
log-rise (negsuc v) x some less small = absurd (omega (arith, ints))
log-rise (pos v) (negsuc w) some less small = absurd (omega (arith, ints))

pub cell-most : (x : ℤ) → IsCell x → x ≤ℤ pos LIMIT
cell-most (pos n) (inl e) = absurd (let no : pos n ≡ MISSING = e in cc)
cell-most (pos n) (inr h) = omega (arith, ints)
cell-most (negsuc n) h = omega (arith, ints)
