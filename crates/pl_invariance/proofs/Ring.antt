-- Products of sums of whole numbers.
use Rattle.std.proofs.Common.{◌≡◌, ℕ, zero, suc, ◌+◌, ◌-◌, inl, inr, ℤ, pos, negsuc, ◌+ℤ◌, ◌-ℤ◌, ◌*ℤ◌, neg_ℤ, arith, ap, ap₂, sym, ◌∙◌}
use Rattle.std.proofs.lemmas.Int.{ints}
use Rattle.std.proofs.lemmas.Bool.{cases_lt}
use Rattle.std.proofs.Math.IntN.{*ℤ_comm}

both-pos : (a : ℤ) (m n : ℕ) → a *ℤ (pos m +ℤ pos n) ≡ (a *ℤ pos m) +ℤ (a *ℤ pos n)
both-pos a m n = let e : pos m +ℤ pos n ≡ pos (m + n) = omega (arith, ints) in rw e (omega (arith, ints))

both-neg : (a : ℤ) (m n : ℕ) → a *ℤ (negsuc m +ℤ negsuc n) ≡ (a *ℤ negsuc m) +ℤ (a *ℤ negsuc n)
both-neg a m n = let e : negsuc m +ℤ negsuc n ≡ negsuc (m + n + 1) = omega (arith, ints) in rw e (omega (arith, ints))

unlike : (a : ℤ) (m n : ℕ) → a *ℤ (pos m +ℤ negsuc n) ≡ (a *ℤ pos m) +ℤ (a *ℤ negsuc n)
unlike a m n = elim (cases_lt n m) [
  | inl more ↦
      let e : pos m +ℤ negsuc n ≡ pos (m - suc n) = omega (arith, ints) in
      let f : m ≡ suc n + (m - suc n) = omega arith in
      rw e (known (m - suc n) f)
  | inr less ↦
      let e : pos m +ℤ negsuc n ≡ negsuc (n - m) = omega (arith, ints) in
      let f : n ≡ m + (n - m) = omega arith in
      rw e (other (n - m) f)
]
  where
    known : (d : ℕ) → m ≡ suc n + d → a *ℤ pos d ≡ (a *ℤ pos m) +ℤ (a *ℤ negsuc n)
    known d f = rw f (omega (arith, ints))

    other : (d : ℕ) → n ≡ m + d → a *ℤ negsuc d ≡ (a *ℤ pos m) +ℤ (a *ℤ negsuc n)
    other d f = rw f (omega (arith, ints))

pub times-sum : (a b c : ℤ) → a *ℤ (b +ℤ c) ≡ (a *ℤ b) +ℤ (a *ℤ c)
times-sum a (pos m) (pos n) = both-pos a m n
times-sum a (pos m) (negsuc n) = unlike a m n
times-sum a (negsuc m) (pos n) =
    let e : negsuc m +ℤ pos n ≡ pos n +ℤ negsuc m = omega (arith, ints) in
    rw e (omega (arith, ints, unlike a n m))
times-sum a (negsuc m) (negsuc n) = both-neg a m n

pub times-neg : (a b : ℤ) → a *ℤ neg_ℤ b ≡ neg_ℤ (a *ℤ b)
times-neg a (pos zero) = omega (arith, ints)
times-neg a (pos (suc n)) = omega (arith, ints)
times-neg a (negsuc n) = omega (arith, ints)

pub times-less : (a b c : ℤ) → a *ℤ (b -ℤ c) ≡ (a *ℤ b) -ℤ (a *ℤ c)
times-less a b c =
    let e : b -ℤ c ≡ b +ℤ neg_ℤ c = omega (arith, ints) in
    let f = times-sum a b (neg_ℤ c) in
    let g = times-neg a c in
    rw e (omega (arith, ints, f, g))

pub times-times : (a b c : ℤ) → (a *ℤ b) *ℤ c ≡ a *ℤ (b *ℤ c)
times-times a b (pos zero) = let e : b *ℤ pos zero ≡ pos zero = omega (arith, ints) in rw e (omega (arith, ints))
times-times a b (pos (suc n)) =
    let e : b *ℤ pos (suc n) ≡ (b *ℤ pos n) +ℤ b = omega (arith, ints) in
    let f = times-sum a (b *ℤ pos n) b in
    let rest = times-times a b (pos n) in
    let whole : (a *ℤ b) *ℤ pos (suc n) ≡ ((a *ℤ b) *ℤ pos n) +ℤ (a *ℤ b) = omega (arith, ints) in
    rw (e, whole) (omega (arith, ints, f, rest))
times-times a b (negsuc zero) =
    let e : b *ℤ negsuc zero ≡ neg_ℤ b = omega (arith, ints) in
    let f = times-neg a b in
    rw e (omega (arith, ints, f))
times-times a b (negsuc (suc n)) =
    let e : b *ℤ negsuc (suc n) ≡ (b *ℤ negsuc n) -ℤ b = omega (arith, ints) in
    let f = times-less a (b *ℤ negsuc n) b in
    let rest = times-times a b (negsuc n) in
    let whole : (a *ℤ b) *ℤ negsuc (suc n) ≡ ((a *ℤ b) *ℤ negsuc n) -ℤ (a *ℤ b) = omega (arith, ints) in
    rw (e, whole) (omega (arith, ints, f, rest))

-- ---- products of differences

pub first-out : (k u v : ℤ) → (k *ℤ u) *ℤ v ≡ (k *ℤ v) *ℤ u
first-out k u v = times-times k u v ∙ ap (λ (z : ℤ). k *ℤ z) (*ℤ_comm u v) ∙ sym (times-times k v u)

four : (k u v : ℤ) → (k *ℤ u) *ℤ (k *ℤ v) ≡ (k *ℤ k) *ℤ (u *ℤ v)
four k u v =
    first-out k u (k *ℤ v)
    ∙ ap (λ (z : ℤ). z *ℤ u) (sym (times-times k k v))
    ∙ times-times (k *ℤ k) v u
    ∙ ap (λ (z : ℤ). (k *ℤ k) *ℤ z) (*ℤ_comm v u)

less-times : (a b c : ℤ) → (a -ℤ b) *ℤ c ≡ (a *ℤ c) -ℤ (b *ℤ c)
less-times a b c = *ℤ_comm (a -ℤ b) c ∙ times-less c a b ∙ ap₂ (λ (x y : ℤ). x -ℤ y) (*ℤ_comm c a) (*ℤ_comm c b)

pub expanded : (k c d u v : ℤ) → ((k *ℤ u) -ℤ c) *ℤ ((k *ℤ v) -ℤ d)
    ≡ ((((k *ℤ k) *ℤ (u *ℤ v)) -ℤ ((k *ℤ d) *ℤ u)) -ℤ ((k *ℤ c) *ℤ v)) +ℤ (c *ℤ d)
expanded k c d u v =
    let whole = less-times (k *ℤ u) c ((k *ℤ v) -ℤ d) in
    let left = times-less (k *ℤ u) (k *ℤ v) d in
    let right = times-less c (k *ℤ v) d in
    let a = four k u v in
    let b = first-out k u d in
    let e : c *ℤ (k *ℤ v) ≡ (k *ℤ c) *ℤ v = *ℤ_comm c (k *ℤ v) ∙ first-out k v c in
    omega (arith, ints, whole, left, right, a, b, e)

pub gathered : (k t x y : ℤ) → ((((k *ℤ k) *ℤ t) -ℤ ((k *ℤ y) *ℤ x)) -ℤ ((k *ℤ x) *ℤ y)) +ℤ (k *ℤ (x *ℤ y)) ≡ k *ℤ ((k *ℤ t) -ℤ (x *ℤ y))
gathered k t x y =
    let whole = times-less k (k *ℤ t) (x *ℤ y) in
    let a = times-times k k t in
    let b = times-times k x y in
    let e = first-out k y x in
    omega (arith, ints, whole, a, b, e)
