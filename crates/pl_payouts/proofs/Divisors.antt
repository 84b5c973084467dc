-- Greatest common divisors, and fractions in lowest terms.
use Rattle.std.proofs.Common.{◌≡◌, ℕ, zero, suc, ◌+◌, ◌*◌, ◌/◌, ◌%◌, ◌<◌, ◌≤◌, refl, sym, ◌∙◌, ap, subst, arith}
use Rattle.std.specs.Int.{IsGcd, ◌∣◌}
use Rattle.std.proofs.Math.Nat.{mod-lt, mod-eq_of_lt, mul-add-mod_self_right, div-add-mod', mul-lt-mul_of_pos_left, mul_comm, div-mul_cancel, div-eq_of_eq-mul_left, pos_of_dvd_of_pos, mul-dvd-mul_right, dvd_of_mul-dvd-mul_right, eq-one_of_dvd-one, one-dvd, dvd_refl, eq_of_mul-eq-mul_right, one-mul}
use Rattle.std.proofs.lemmas.Nat.Gcd.{IsGcd-from_zero, IsGcd-from_mod, same_from_IsGcd}
use Rattle.pl_payouts.specs.Ratios.{gcd_by, gcd, lowest}

pub gcd_by-IsGcd : (n a b : ℕ) → b ≤ n → IsGcd a b (gcd_by n a b)
unfolding gcd_by
gcd_by-IsGcd zero a b h = IsGcd-from_zero a b (omega arith)
gcd_by-IsGcd (suc n) a zero h = IsGcd-from_zero a zero refl
gcd_by-IsGcd (suc n) a (suc b) h =
    let small : a % suc b < suc b = mod-lt a (omega arith) in
    IsGcd-from_mod a (suc b) (gcd_by n (suc b) (a % suc b)) (gcd_by-IsGcd n (suc b) (a % suc b) (omega arith))

pub gcd-IsGcd : (a b : ℕ) → IsGcd a b (gcd a b)
gcd-IsGcd a b = gcd_by-IsGcd b a b (omega arith)

-- ---- the divisor of multiples

mod-scaled : (k a b : ℕ) → 0 < k → 0 < b → (k * a) % (k * b) ≡ k * (a % b)
mod-scaled k a b p q =
    let r = a % b in
    let small : k * (a % b) < k * b = mul-lt-mul_of_pos_left (mod-lt a q) p in
    let parts : k * a ≡ (a / b) * (k * b) + k * (a % b) = ap (λ n. k * n) (sym (div-add-mod' a b)) ∙ spread k (a / b) b (a % b) in
    ap (λ n. n % (k * b)) parts ∙ mul-add-mod_self_right (a / b) (k * b) (k * (a % b)) ∙ mod-eq_of_lt small
  where
    spread : (k q b r : ℕ) → k * (q * b + r) ≡ q * (k * b) + k * r
    spread k q b r = grind arith

gcd_by-scaled : (k n a b : ℕ) → 0 < k → b ≤ n → IsGcd (k * a) (k * b) (k * gcd_by n a b)
unfolding gcd_by
gcd_by-scaled k zero a b p h = let none : b ≡ 0 = omega arith in IsGcd-from_zero (k * a) (k * b) (ap (λ n. k * n) none ∙ nought k)
  where
    nought : (k : ℕ) → k * 0 ≡ 0
    nought k = omega arith
gcd_by-scaled k (suc n) a zero p h = IsGcd-from_zero (k * a) (k * zero) (omega arith)
gcd_by-scaled k (suc n) a (suc b) p h =
    let small : a % suc b < suc b = mod-lt a (omega arith) in
    IsGcd-from_mod (k * a) (k * suc b) (k * gcd_by n (suc b) (a % suc b))
    (subst (λ r. IsGcd (k * suc b) r (k * gcd_by n (suc b) (a % suc b))) (sym (mod-scaled k a (suc b) p (omega arith)))
    (gcd_by-scaled k n (suc b) (a % suc b) p (omega arith)))

scaled : (k a b g : ℕ) → 0 < k → IsGcd a b g → IsGcd (k * a) (k * b) (k * g)
scaled k a b g p h =
    let same : gcd a b ≡ g = same_from_IsGcd a b (gcd a b) g (gcd-IsGcd a b) h in
    subst (λ d. IsGcd (k * a) (k * b) (k * d)) same (gcd_by-scaled k b a b p (omega arith))

-- ---- lowest terms

-- no number above 1 divides both
abbrev pub AreCoprime : ℕ → ℕ → Type 0
AreCoprime num den = (d : ℕ) → d ∣ num → d ∣ den → d ≡ 1

module _ (a b : ℕ) (some : 0 < b) where
  is : IsGcd a b (gcd a b)
  is = gcd-IsGcd a b

  pub gcd-pos : 0 < gcd a b
  gcd-pos = pos_of_dvd_of_pos is.1 some

  num-of : (lowest a b).num * gcd a b ≡ a
  unfolding lowest
  num-of = div-mul_cancel (gcd a b) is.0

  den-of : (lowest a b).den * gcd a b ≡ b
  unfolding lowest
  den-of = div-mul_cancel (gcd a b) is.1

  pub lowest-exact : (lowest a b).num * b ≡ (lowest a b).den * a
  lowest-exact = ap (λ n. (lowest a b).num * n) (sym den-of) ∙ turned (lowest a b).num (lowest a b).den (gcd a b) ∙ ap (λ n. (lowest a b).den * n) num-of
    where
      turned : (x y g : ℕ) → x * (y * g) ≡ y * (x * g)
      turned x y g = grind arith

  pub lowest-coprime : AreCoprime (lowest a b).num (lowest a b).den
  lowest-coprime d p q =
      let left : d * gcd a b ∣ a = subst (λ n. d * gcd a b ∣ n) num-of (mul-dvd-mul_right d p (gcd a b)) in
      let right : d * gcd a b ∣ b = subst (λ n. d * gcd a b ∣ n) den-of (mul-dvd-mul_right d q (gcd a b)) in
      let both : d * gcd a b ∣ 1 * gcd a b = subst (λ n. d * gcd a b ∣ n) (sym (one-mul (gcd a b))) (is.2 (d * gcd a b) left right) in
      eq-one_of_dvd-one (dvd_of_mul-dvd-mul_right d gcd-pos both)

  -- a fraction that is a / b and in lowest terms is this one
  module _ (num den : ℕ) (exact : num * b ≡ den * a) (coprime : AreCoprime num den) (above : 0 < den) where
    one : IsGcd num den 1
    one = (one-dvd num, one-dvd den, λ d p q. subst (λ n. d ∣ n) (coprime d p q) (dvd_refl d))

    by_b : IsGcd (den * a) (den * b) (b * 1)
    by_b = subst (λ n. IsGcd n (den * b) (b * 1)) (mul_comm b num ∙ exact) (subst (λ n. IsGcd (b * num) n (b * 1)) (mul_comm b den) (scaled b num den 1 some one))

    divided : b ≡ den * gcd a b
    divided =
        let e : b * 1 ≡ den * gcd a b = same_from_IsGcd (den * a) (den * b) (b * 1) (den * gcd a b) by_b (scaled den a b (gcd a b) above is) in
        plain b ∙ e
      where
        plain : (n : ℕ) → n ≡ n * 1
        plain n = omega arith

    pub lowest-den : den ≡ (lowest a b).den
    unfolding lowest
    lowest-den = sym (div-eq_of_eq-mul_left gcd-pos divided)

    pub lowest-num : num ≡ (lowest a b).num
    unfolding lowest
    lowest-num =
        let e : (num * gcd a b) * den ≡ a * den = turned num (gcd a b) den ∙ ap (λ n. num * n) (sym divided) ∙ exact ∙ mul_comm den a in
        sym (div-eq_of_eq-mul_left gcd-pos (sym (eq_of_mul-eq-mul_right den above (num * gcd a b) a e)))
      where
        turned : (x g y : ℕ) → (x * g) * y ≡ x * (y * g)
        turned x g y = grind arith
