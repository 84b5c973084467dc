-- The bits of a logarithm, one after the other, and how large it is.
use Rattle.std.proofs.Common.{◌≡◌, ℕ, zero, suc, ◌+◌, ◌-◌, ◌*◌, ◌/◌, ◌%◌, ◌^◌, ◌<◌, ◌≤◌, nat_lt, Bool, true, false, if◌then◌else◌, refl, ap, ◌∙◌, arith}
use Rattle.std.proofs.Math.Nat.{pow-suc, pow-le-pow_right, mod-eq_of_lt}
use Rattle.std.proofs.lemmas.Nat.{mul-le}
use Rattle.std.proofs.lemmas.Bool.Decides.{nat_tests}
use Rattle.pl_pipeline.specs.Elementary.{log_bits}

-- s, or its half where it is 2 or more
abbrev pub half : ℕ → ℕ
half s = if nat_lt s (2 ^ 63) then s else s / 2

abbrev pub next : ℕ → ℕ
next s = half s * half s / 2 ^ 62

none : (n : ℕ) → log_bits n 0 ≡ 0
unfolding log_bits
none zero = refl
none (suc n) = refl

-- one bit and the others
pub one-bit : (n s : ℕ) → s < 2 ^ 64 → log_bits (suc n) s ≡ s / 2 ^ 63 * 2 ^ n + log_bits n (next s)
unfolding log_bits
one-bit n zero h = let e = none n in rw e (omega arith)
one-bit n (suc s) h = here (nat_lt (suc s) (2 ^ 63)) refl
  where
    here : (b : Bool) → nat_lt (suc s) (2 ^ 63) ≡ b
        → (if b then log_bits n (suc s * suc s / 2 ^ 62) else 2 ^ n + log_bits n (suc s / 2 * (suc s / 2) / 2 ^ 62))
        ≡ suc s / 2 ^ 63 * 2 ^ n + log_bits n ((if b then suc s else suc s / 2) * (if b then suc s else suc s / 2) / 2 ^ 62)
    here true e =
        let l : suc s < 2 ^ 63 = grind (arith, nat_tests) in
        let d : suc s / 2 ^ 63 ≡ 0 = omega arith in
        rw d (omega arith)
    here false e =
        let l : 2 ^ 63 ≤ suc s = grind (arith, nat_tests) in
        let d : suc s / 2 ^ 63 ≡ 1 = omega arith in
        rw d (omega arith)

pub few-bits : (n s : ℕ) → log_bits n s < 2 ^ n
unfolding log_bits
few-bits zero s = omega arith
few-bits (suc n) zero = omega (arith, pow-suc 2 n, few-bits n 0)
few-bits (suc n) (suc s) =
    here (nat_lt (suc s) (2 ^ 63)) (few-bits n (suc s * suc s / 2 ^ 62)) (few-bits n (suc s / 2 * (suc s / 2) / 2 ^ 62))
  where
    here : (b : Bool) → log_bits n (suc s * suc s / 2 ^ 62) < 2 ^ n → log_bits n (suc s / 2 * (suc s / 2) / 2 ^ 62) < 2 ^ n
        → (if b then log_bits n (suc s * suc s / 2 ^ 62) else 2 ^ n + log_bits n (suc s / 2 * (suc s / 2) / 2 ^ 62)) < 2 ^ suc n
    here true h k = omega (arith, pow-suc 2 n)
    here false h k = omega (arith, pow-suc 2 n)

pub half-fits : (s : ℕ) → s < 2 ^ 64 → half s < 2 ^ 63
half-fits s h = here (nat_lt s (2 ^ 63)) refl
  where
    here : (b : Bool) → nat_lt s (2 ^ 63) ≡ b → (if b then s else s / 2) < 2 ^ 63
    here true e = grind (arith, nat_tests)
    here false e = omega arith

pub next-fits : (s : ℕ) → s < 2 ^ 64 → next s < 2 ^ 64
next-fits s h =
    let l : half s ≤ 2 ^ 63 - 1 = omega (arith, half-fits s h) in
    let m = mul-le (half s) (half s) (2 ^ 63 - 1) (2 ^ 63 - 1) l l in
    quotient (half s * half s) m
  where
    quotient : (n : ℕ) → n ≤ (2 ^ 63 - 1) * (2 ^ 63 - 1) → n / 2 ^ 62 < 2 ^ 64
    quotient n m = omega arith

-- a bit is taken out
pub stepped : (bits left s start : ℕ) → 0 < left → left ≤ 60 → s < 2 ^ 64 → bits + log_bits left s ≡ log_bits 60 start
    → bits + s / 2 ^ 63 * 2 ^ (left - 1) % 2 ^ 64 + log_bits (left - 1) (next s) ≡ log_bits 60 start
stepped bits left s start some few fits all =
    let e : left ≡ suc (left - 1) = omega arith in
    let whole : log_bits left s ≡ s / 2 ^ 63 * 2 ^ (left - 1) + log_bits (left - 1) (next s) = ap (λ n. log_bits n s) e ∙ one-bit (left - 1) s fits in
    let power : 2 ^ (left - 1) ≤ 2 ^ 60 = pow-le-pow_right {n = 2} (omega arith) {i = left - 1} {j = 60} (omega arith) in
    let bit : s / 2 ^ 63 ≤ 1 = omega arith in
    let product : s / 2 ^ 63 * 2 ^ (left - 1) ≤ 1 * 2 ^ 60 = mul-le (s / 2 ^ 63) (2 ^ (left - 1)) 1 (2 ^ 60) bit power in
    let same : s / 2 ^ 63 * 2 ^ (left - 1) % 2 ^ 64 ≡ s / 2 ^ 63 * 2 ^ (left - 1) = mod-eq_of_lt (omega arith) in
    plain bits _ _ _ _ _ same whole all
  where
    plain : (bits p q x y z : ℕ) → q ≡ p → y ≡ p + x → bits + y ≡ z → bits + q + x ≡ z
    plain bits p q x y z e f g = omega arith

no-bits : (s : ℕ) → log_bits 0 s ≡ 0
unfolding log_bits
no-bits s = refl

pub ended : (bits left s start : ℕ) → left ≡ 0 → bits + log_bits left s ≡ log_bits 60 start → bits ≡ log_bits 60 start
ended bits left s start none all =
    let e : log_bits left s ≡ 0 = ap (λ n. log_bits n s) none ∙ no-bits s in
    plain bits _ _ e all
  where
    plain : (bits x z : ℕ) → x ≡ 0 → bits + x ≡ z → bits ≡ z
    plain bits x z e f = omega arith
