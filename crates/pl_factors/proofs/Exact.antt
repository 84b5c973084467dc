-- What is computed in 128 bits of sums, and of how far squares are from a number, is exact.
use Rattle.std.proofs.Common.{◌≡◌, ◌≤◌, ◌*◌, ◌^◌, ℤ, ◌+ℤ◌, ◌-ℤ◌, ◌*ℤ◌, unsigned_abs, FitsSigned, to_z, of_z, ap, ap₂, arith, ◌∙◌}
use Rattle.std.specs.Int.{w128}
use Rattle.std.proofs.lemmas.Int.{ints, to_z-of_z, unsigned_abs-mul, fits_signed_from_abs}
use Rattle.std.proofs.lemmas.Nat.{mul-le}
use Rattle.pl_spec.specs.Limits.{most_window}
use Rattle.pl_spec.specs.Rounding.{LIMIT}

pub fits : (x : ℤ) → unsigned_abs x ≤ 10 ^ 38 → FitsSigned w128 x
fits x h = fits_signed_from_abs w128 x (omega (arith, h))

pub exact : (x : ℤ) → unsigned_abs x ≤ 10 ^ 38 → to_z w128 (of_z w128 x) ≡ x
exact x h = to_z-of_z w128 x (fits x h)

-- a number that is y, in 128 bits and back
pub same : (x y : ℤ) → x ≡ y → unsigned_abs y ≤ 10 ^ 38 → to_z w128 (of_z w128 x) ≡ y
same x y e h = ap (λ v. to_z w128 (of_z w128 v)) e ∙ exact y h

pub product-within : (m x : ℤ) → unsigned_abs m ≤ LIMIT → unsigned_abs x ≤ 2 * most_window * LIMIT → (unsigned_abs (m *ℤ x) ≤ LIMIT * unsigned_abs x) × (unsigned_abs (m *ℤ x) ≤ 10 ^ 38)
product-within m x h k =
    let p = mul-le (unsigned_abs m) (unsigned_abs x) LIMIT (unsigned_abs x) h (omega arith) in
    let small : unsigned_abs (m *ℤ x) ≤ LIMIT * unsigned_abs x = rw (unsigned_abs-mul m x) p in
    (small, omega (arith, small))

-- how far the mean times the count is from the sum
pub apart-within : (m k s : ℤ) → unsigned_abs m ≤ LIMIT → unsigned_abs k ≤ most_window → unsigned_abs s ≤ most_window * LIMIT → unsigned_abs ((m *ℤ k) -ℤ s) ≤ 2 * most_window * LIMIT
apart-within m k s h l t =
    let p = mul-le (unsigned_abs m) (unsigned_abs k) LIMIT most_window h l in
    let small : unsigned_abs (m *ℤ k) ≤ LIMIT * most_window = rw (unsigned_abs-mul m k) p in
    omega (arith, ints, small)

pub about-within : (m q s d : ℤ) → unsigned_abs m ≤ LIMIT → unsigned_abs q ≤ most_window * (LIMIT * LIMIT) → unsigned_abs s ≤ most_window * LIMIT → unsigned_abs d ≤ 2 * most_window * LIMIT
    → (unsigned_abs (q -ℤ (m *ℤ s)) ≤ 10 ^ 38) × (unsigned_abs (q -ℤ (m *ℤ s) +ℤ (m *ℤ d)) ≤ 10 ^ 38)
about-within m q s d h k l n =
    let a = (product-within m s h (omega arith)).0 in
    let b = (product-within m d h n).0 in
    let first : unsigned_abs (q -ℤ (m *ℤ s)) ≤ 2 * most_window * (LIMIT * LIMIT) = omega (arith, ints, a) in
    (omega (arith, first), omega (arith, ints, first, b))

-- a product of two numbers of 128 bits, computed in as many
pub product-is : (m x r : ℤ) → FitsSigned w128 m → FitsSigned w128 x → FitsSigned w128 r → r ≡ to_z w128 (of_z w128 m) *ℤ to_z w128 (of_z w128 x) → to_z w128 (of_z w128 r) ≡ m *ℤ x
product-is m x r fm fx fr e = to_z-of_z w128 r fr ∙ e ∙ ap₂ (λ a b. a *ℤ b) (to_z-of_z w128 m fm) (to_z-of_z w128 x fx)

-- how far such a product is from a number
pub apart-is : (m k s r : ℤ) → unsigned_abs m ≤ LIMIT → unsigned_abs k ≤ most_window → unsigned_abs s ≤ most_window * LIMIT → to_z w128 (of_z w128 r) ≡ m *ℤ k → FitsSigned w128 s
    → to_z w128 (of_z w128 (to_z w128 (of_z w128 r) -ℤ to_z w128 (of_z w128 s))) ≡ (m *ℤ k) -ℤ s
apart-is m k s r h l t e fs =
    same _ _ (ap₂ (λ a b. a -ℤ b) e (to_z-of_z w128 s fs)) (omega (arith, apart-within m k s h l t))
