-- Signed numbers that are cast and negated on the way to a cell.
use Rattle.std.proofs.Common.{◌≡◌, ℤ, pos, negsuc, neg_ℤ, ◌*ℤ◌, ◌<ℤ◌, unsigned_abs, refl, arith, ◌^◌, of_z, w64, FitsSigned, false}
use Rattle.std.specs.Int.{w128}
use Rattle.std.specs.Int.Signed.{nat_abs-le}
use Rattle.std.proofs.lemmas.Int.{ints, fits_signed_mul}
use Rattle.pl_spec.specs.Rounding.{Fraction, scaled, div_round, to_cell, quot, of_both, is_missing}

-- a divisor below 0: both signs turn
pub quot-below : (a b : ℤ) → b <ℤ pos 0 → quot a b ≡ to_cell (div_round (neg_ℤ a) (unsigned_abs (neg_ℤ b)))
unfolding quot
quot-below a (pos n) h = absurd (omega (arith, ints))
quot-below a (negsuc n) h = refl

pub is_missing-not : (a : ℤ) → FitsSigned w64 a → (of_z w64 a ≡ 2 ^ 63 → ⊥) → is_missing a ≡ false
is_missing-not a f h = grind (arith, ints)

-- neither is missing, as the code tests it
pub of_both-present : (a b v : ℤ) → FitsSigned w64 a → FitsSigned w64 b
    → (of_z w64 a ≡ 2 ^ 63 → ⊥) × (of_z w64 b ≡ 2 ^ 63 → ⊥) → of_both a b v ≡ v
of_both-present a b v fa fb h = rw (is_missing-not a fa h.0, is_missing-not b fb h.1)

-- a ratio of a cell that is there
pub scaled-present : (f : Fraction) (cell : ℤ) → FitsSigned w64 cell → (of_z w64 cell ≡ 2 ^ 63 → ⊥)
    → to_cell (div_round (cell *ℤ pos f.num) f.den) ≡ scaled f cell
unfolding scaled
scaled-present f cell fits present = rw (is_missing-not cell fits present)

-- a number that is cast to 128 bits
pub wide : (a : ℤ) → FitsSigned w64 a → FitsSigned w128 a
wide a f = record { sfits = omega (arith, f.sfits) }

-- the millionths of a cell
pub millionths-fits : (a : ℤ) → FitsSigned w64 a → FitsSigned w128 (a *ℤ pos 1000000)
millionths-fits a f = fits_signed_mul w128 a (pos 1000000) (2 ^ 63) 1000000 (nat_abs-le a f.sfits) (omega arith) (omega arith)
