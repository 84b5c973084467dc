-- The order of whole numbers, and its tests.
use Rattle.std.proofs.Common.{◌≡◌, ◌⊎◌, inl, inr, zero, suc, true, false, ℤ, pos, negsuc, neg_ℤ, unsigned_abs, ◌≤ℤ◌, ◌<ℤ◌, refl, arith, ◌+ℤ◌, ◌^◌, ◌-◌, ◌<◌, FitsSigned, w32}
use Rattle.std.specs.Int.{int_min}
use Rattle.std.specs.Int.RustNames.{int_le, int_lt}
use Rattle.std.specs.Ordering.{int_eq}
use Rattle.std.proofs.lemmas.Int.{ints, by_lt_z, int_min_is}

pub int_eq-true : (x y : ℤ) → int_eq x y ≡ true → x ≡ y
int_eq-true x y e = grind (arith, ints)

pub eq-int_eq : (x y : ℤ) → x ≡ y → int_eq x y ≡ true
eq-int_eq x y h = grind (arith, ints)

pub int_eq-itself : (x : ℤ) → int_eq x x ≡ true
int_eq-itself x = eq-int_eq x x refl

pub int_le-true : (x y : ℤ) → int_le x y ≡ true → x ≤ℤ y
int_le-true x y e = grind (arith, ints)

pub int_le-false : (x y : ℤ) → int_le x y ≡ false → y <ℤ x
int_le-false x y e = grind (arith, ints)

pub le-int_le : (x y : ℤ) → x ≤ℤ y → int_le x y ≡ true
le-int_le x y h = grind (arith, ints)

pub lt-int_le : (x y : ℤ) → y <ℤ x → int_le x y ≡ false
lt-int_le x y h = grind (arith, ints)

pub lt-int_lt : (x y : ℤ) → x <ℤ y → int_lt x y ≡ true
lt-int_lt x y h = grind (arith, ints)

-- ---- the order

pub lt-is-le : (x y : ℤ) → x <ℤ y → x ≤ℤ y
lt-is-le x y h = omega (arith, ints)

pub le-lt : (x y z : ℤ) → x ≤ℤ y → y <ℤ z → x <ℤ z
le-lt x y z h k = omega (arith, ints)

pub lt-le : (x y z : ℤ) → x <ℤ y → y ≤ℤ z → x <ℤ z
lt-le x y z h k = omega (arith, ints)

pub eq-le : (x y z : ℤ) → x ≡ y → y ≤ℤ z → x ≤ℤ z
eq-le x y z e h = omega (arith, ints)

pub le-eq : (x y z : ℤ) → x ≤ℤ y → y ≡ z → x ≤ℤ z
le-eq x y z h e = omega (arith, ints)

pub le-both : (x y : ℤ) → x ≤ℤ y → y ≤ℤ x → x ≡ y
le-both x y h k = omega (arith, ints)

pub min-rises : (a b x y : ℤ) → a ≤ℤ b → x ≤ℤ y → int_min a x ≤ℤ int_min b y
min-rises a b x y h l = grind (arith, ints)

pub min-either : (x y : ℤ) → (int_min x y ≡ x) ⊎ (int_min x y ≡ y)
min-either x y = by_lt_z x y (λ l. inl (omega (arith, ints, int_min_is x y, l))) (λ l. inr (omega (arith, ints, int_min_is x y, l)))

-- ---- distances from 0

pub pos-unsigned_abs : (x : ℤ) → pos 0 ≤ℤ x → pos (unsigned_abs x) ≡ x
pos-unsigned_abs x h = omega (arith, ints)

pub unsigned_abs-neg : (x : ℤ) → unsigned_abs (neg_ℤ x) ≡ unsigned_abs x
unsigned_abs-neg (pos zero) = refl
unsigned_abs-neg (pos (suc n)) = refl
unsigned_abs-neg (negsuc n) = refl

-- ---- numbers of 32 bits, counted from the least

pub from_first : (d : ℤ) → FitsSigned w32 d → pos 0 ≤ℤ (d +ℤ pos (2 ^ 31))
from_first (pos n) h = let small : n < 2 ^ 31 = h.sfits in omega (arith, ints)
from_first (negsuc n) h = let small : n < 2 ^ 31 = h.sfits in omega (arith, ints)

pub to_last : (d : ℤ) → FitsSigned w32 d → (d +ℤ pos (2 ^ 31)) ≤ℤ pos (2 ^ 32 - 1)
to_last (pos n) h = let small : n < 2 ^ 31 = h.sfits in omega (arith, ints)
to_last (negsuc n) h = let small : n < 2 ^ 31 = h.sfits in omega (arith, ints)
