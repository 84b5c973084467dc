-- How large moments are, and their sums in the order of the code.
use Rattle.std.proofs.Common.{◌≡◌, ℕ, true, false, pos, ap, ap₂, ◌+◌, ◌*◌, ◌^◌, ◌<◌, ◌≤◌, ℤ, ◌+ℤ◌, ◌-ℤ◌, ◌*ℤ◌, unsigned_abs, FitsSigned, to_z, of_z, arith, ◌∙◌}
use Rattle.std.specs.Int.{w128}
use Rattle.std.specs.Int.RustNames.{int_lt}
use Rattle.std.proofs.lemmas.Nat.{mul-le}
use Rattle.std.proofs.lemmas.Int.{ints, to_z-of_z, unsigned_abs-mul}
use Rattle.pl_spec.specs.Rounding.{neg}
use Rattle.pl_pipeline.specs.Formula.{PowerSums, root_quot, second_moment, third_moment, skewness}

pub limited : (a b r : ℤ) (m n : ℕ) → r ≡ a *ℤ b → unsigned_abs a ≤ m → unsigned_abs b ≤ n → unsigned_abs r ≤ m * n
limited a b r m n e f g = rw (e, unsigned_abs-mul a b) (mul-le (unsigned_abs a) (unsigned_abs b) m n f g)

pub apart : (a b r : ℤ) (m n : ℕ) → r ≡ a -ℤ b → unsigned_abs a ≤ m → unsigned_abs b ≤ n → unsigned_abs r ≤ m + n
apart a b r m n e f g = omega (arith, ints, e)

-- a product that has room
pub room : (a b : ℤ) (m n : ℕ) → unsigned_abs a ≤ m → unsigned_abs b ≤ n → m * n < 2 ^ 448 → unsigned_abs a * unsigned_abs b < 2 ^ 448
room a b m n f g h = let p = mul-le (unsigned_abs a) (unsigned_abs b) m n f g in omega (arith, p, h)

pub wide_is : (x r : ℤ) → FitsSigned w128 x → r ≡ to_z w128 (of_z w128 x) → r ≡ x
wide_is x r fits e = e ∙ to_z-of_z w128 x fits

pub less_less : (a b c : ℤ) → a -ℤ (b -ℤ c) ≡ a -ℤ b +ℤ c
less_less a b c = omega (arith, ints)

pub less_apart : (a b c d : ℤ) → (a -ℤ b) -ℤ (d -ℤ c) ≡ a -ℤ b +ℤ c -ℤ d
less_apart a b c d = omega (arith, ints)

pub size_limited : (a b r m n : ℕ) → r ≡ a * b → a ≤ m → b ≤ n → r ≤ m * n
size_limited a b r m n e f g = rw e (mul-le a b m n f g)

pub same_powers : (s t : PowerSums) → s.number ≡ t.number → s.first ≡ t.first → s.second ≡ t.second → s.third ≡ t.third → s.fourth ≡ t.fourth → s ≡ t
same_powers s t a b c d e = λ i. record { number = a i; first = b i; second = c i; third = d i; fourth = e i }

-- what the code computes of the sums: the root of one number over another
pub record IsSkewed (s : PowerSums) (size : ℤ) (square divisor : ℕ) : Type 0 where
  pub root : size ≡ root_quot square divisor
  pub square_is : square ≡ unsigned_abs (third_moment s) * unsigned_abs (third_moment s) * 10 ^ 12
  pub divisor_is : divisor ≡ unsigned_abs (second_moment s) * unsigned_abs (second_moment s) * unsigned_abs (second_moment s)

size_is : (s : PowerSums) (size : ℤ) (square divisor : ℕ) → IsSkewed s size square divisor
    → size ≡ root_quot (unsigned_abs (third_moment s) * unsigned_abs (third_moment s) * 10 ^ 12) (unsigned_abs (second_moment s) * unsigned_abs (second_moment s) * unsigned_abs (second_moment s))
size_is s size square divisor h = h.root ∙ ap₂ root_quot h.square_is h.divisor_is

pub skewed_below : (s : PowerSums) (size : ℤ) (square divisor : ℕ) → IsSkewed s size square divisor → int_lt (third_moment s) (pos 0) ≡ true → neg size ≡ skewness s
unfolding skewness
skewed_below s size square divisor h e = rw e (ap neg (size_is s size square divisor h))

pub skewed_above : (s : PowerSums) (size : ℤ) (square divisor : ℕ) → IsSkewed s size square divisor → int_lt (third_moment s) (pos 0) ≡ false → size ≡ skewness s
unfolding skewness
skewed_above s size square divisor h e = rw e (size_is s size square divisor h)
