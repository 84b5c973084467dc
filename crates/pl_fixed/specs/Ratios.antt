-- Which fractions a ratio holds, and a cell's sign.
use Rattle.std.specs.Prelude.{ℕ, ℤ, pos, negsuc, neg_ℤ}
use Rattle.std.specs.Int.{IsInRange}
use Rattle.pl_spec.specs.Rounding.{Fraction}

-- the numerator and the denominator are from 1 to 10^9
abbrev pub IsRatio : Fraction → Type 0
IsRatio f = IsInRange 1 1_000_000_000 f.num × IsInRange 1 1_000_000_000 f.den

-- a size with the sign of x
abbrev pub signed : ℤ → ℕ → ℤ
signed (pos n) size = pos size
signed (negsuc n) size = neg_ℤ (pos size)
