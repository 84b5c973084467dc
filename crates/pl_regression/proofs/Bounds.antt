-- How large what is computed of the sums of pairs can be.
use Rattle.std.proofs.Common.{◌≡◌, ℕ, ◌+◌, ◌*◌, ◌^◌, ◌<◌, ◌≤◌, ℤ, pos, ◌-ℤ◌, ◌*ℤ◌, unsigned_abs, arith}
use Rattle.std.proofs.lemmas.Nat.{mul-le, mul-lt, pow-add}
use Rattle.std.proofs.lemmas.Int.{ints, unsigned_abs-mul}
use Rattle.pl_spec.specs.Rounding.{LIMIT}
use Rattle.pl_spec.specs.Limits.{most_window}

pub bounded : (a b r : ℤ) (m n : ℕ) → r ≡ a *ℤ b → unsigned_abs a ≤ m → unsigned_abs b ≤ n → unsigned_abs r ≤ m * n
bounded a b r m n e f g = rw (e, unsigned_abs-mul a b) (mul-le (unsigned_abs a) (unsigned_abs b) m n f g)

pub apart : (a b r : ℤ) (m n : ℕ) → r ≡ a -ℤ b → unsigned_abs a ≤ m → unsigned_abs b ≤ n → unsigned_abs r ≤ m + n
apart a b r m n e f g = omega (arith, ints, e)

pub spread_small : (n : ℕ) (p x y a b r : ℤ) → a ≡ pos n *ℤ p → b ≡ x *ℤ y → r ≡ a -ℤ b → n ≤ most_window → unsigned_abs p ≤ most_window * (LIMIT * LIMIT)
    → unsigned_abs x ≤ most_window * LIMIT → unsigned_abs y ≤ most_window * LIMIT → (unsigned_abs a + unsigned_abs b < 2 ^ 448) × (unsigned_abs r < 2 ^ 135)
spread_small n p x y a b r e f g few sum first second =
    let left = bounded (pos n) p a most_window (most_window * (LIMIT * LIMIT)) e few sum in
    let right = bounded x y b (most_window * LIMIT) (most_window * LIMIT) f first second in
    let both = apart a b r (most_window * (most_window * (LIMIT * LIMIT))) (most_window * LIMIT * (most_window * LIMIT)) g left right in
    (omega (arith, left, right), omega (arith, both))

-- products of numbers of so many bits
pub product_bits : (a b r : ℤ) (m n : ℕ) → r ≡ a *ℤ b → unsigned_abs a < 2 ^ m → unsigned_abs b < 2 ^ n → unsigned_abs r < 2 ^ (m + n)
product_bits a b r m n e f g =
    let p : 2 ^ (m + n) ≡ 2 ^ m * 2 ^ n = pow-add 2 m n in
    rw (e, unsigned_abs-mul a b, p) (mul-lt (unsigned_abs a) (unsigned_abs b) (2 ^ m) (2 ^ n) f g)

-- products of naturals of so many bits
pub size_bits : (a b r m n : ℕ) → r ≡ a * b → a < 2 ^ m → b < 2 ^ n → r < 2 ^ (m + n)
size_bits a b r m n e f g =
    let p : 2 ^ (m + n) ≡ 2 ^ m * 2 ^ n = pow-add 2 m n in
    rw (e, p) (mul-lt a b (2 ^ m) (2 ^ n) f g)
