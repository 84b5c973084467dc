-- A cell times a ratio, by its size and its sign.
use Rattle.std.proofs.Common.{◌≡◌, ℕ, zero, suc, ◌+◌, ◌*◌, ◌/◌, ◌<◌, ◌≤◌, false, ℤ, pos, negsuc, ◌*ℤ◌, unsigned_abs, inr, refl, ap, ◌∙◌, sym, arith}
use Rattle.std.proofs.Math.IntN.{pos-*ℤ-pos, negsuc-*ℤ-pos}
use Rattle.pl_spec.specs.Rounding.{Fraction, IsCell, LIMIT, div_round, is_missing, scaled, to_cell}
use Rattle.pl_spec.proofs.Within.{to_cell-within}
use Rattle.pl_fixed.specs.Ratios.{signed}
use Rattle.pl_fixed.specs.Ready.{IsReadyRatio}
use Rattle.pl_fixed.specs.declared.ready.ReadyRatio.TheInside.{Inside}
use Rattle.std.proofs.lemmas.Nat.{mul-le}
use Rattle.pl_fixed.proofs.RoundingLemmas.{div_round-neg}

-- the size of a product, over the double of what divides it
abbrev pub rounded_size : ℕ → ℕ → ℕ → ℕ
rounded_size size num den = (2 * (size * num) + den) / (2 * den)

by_sign : (x : ℤ) (num den : ℕ) → 0 < den → div_round (x *ℤ pos num) den ≡ signed x (rounded_size (unsigned_abs x) num den)
unfolding div_round
by_sign (pos n) num den p = ap (λ x. div_round x den) (pos-*ℤ-pos n num)
by_sign (negsuc n) num den p = ap (λ x. div_round x den) (negsuc-*ℤ-pos n num) ∙ div_round-neg (suc n * num) den p

signed_size : (x : ℤ) (n : ℕ) → unsigned_abs (signed x n) ≡ n
signed_size (pos m) n = refl
signed_size (negsuc m) zero = refl
signed_size (negsuc m) (suc n) = refl

there : (x : ℤ) → unsigned_abs x ≤ 9000000000000000000 → is_missing x ≡ false
there (pos n) h = refl
there (negsuc n) h = grind arith

-- a product that is not too large
pub scaled_by_size : (f : Fraction) (x : ℤ) (n : ℕ) → 0 < f.den → unsigned_abs x ≤ 9000000000000000000
    → n ≡ rounded_size (unsigned_abs x) f.num f.den → n ≤ LIMIT → signed x n ≡ scaled f x
unfolding scaled
scaled_by_size f x n p h e few =
    rw (there x h) (sym (ap to_cell (by_sign x f.num f.den p ∙ ap (signed x) (sym e)) ∙ to_cell-within (signed x n) (rw (signed_size x n) few)))

pub signed_cell : (x : ℤ) (n : ℕ) → n ≤ LIMIT → IsCell (signed x n)
signed_cell x n few = inr (rw (signed_size x n) few)

-- a product that a ready ratio forms in 64 bits
pub ready-product : (f : Inside) → IsReadyRatio f → (size : ℕ) → size ≤ f.most → 2 * (size * f.num) + f.den ≤ 18000000001000000000
ready-product f h size few = omega (arith, mul-le size f.num f.most f.num few (omega arith), h.most, h.den, h.ratio)
