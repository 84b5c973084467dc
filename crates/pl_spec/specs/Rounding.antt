-- Cells are whole numbers of millionths: how a quotient is rounded, which numbers are cells, and the sums,
-- products and quotients of cells.
use Rattle.std.specs.Prelude.{◌≡◌, ℕ, zero, suc, ◌+◌, ◌*◌, ◌/◌, ◌<◌, ◌≤◌, Bool, ◌||◌, not, if◌then◌else◌, nat_le, ◌⊎◌, ℤ, pos, negsuc, ◌+ℤ◌, ◌-ℤ◌, ◌*ℤ◌, neg_ℤ}
use Rattle.std.specs.Int.RustNames.{unsigned_abs}
use Rattle.std.specs.Ordering.{int_eq}

-- q is a whole number nearest to a / b, and of two such the one farther from 0
pub record IsNearest (a : ℤ) (b : ℕ) (q : ℤ) : Type 0 where
  pub near : 2 * unsigned_abs (a -ℤ q *ℤ pos b) ≤ b
  pub tie : 2 * unsigned_abs (a -ℤ q *ℤ pos b) ≡ b → unsigned_abs a < unsigned_abs q * b

-- that number, where b is above 0: half a unit more, rounded toward 0
unfoldable pub div_round : ℤ → ℕ → ℤ
div_round (pos a) b = pos ((2 * a + b) / (2 * b))
div_round (negsuc a) b = neg_ℤ (pos ((2 * suc a + b) / (2 * b)))

-- the cell that stands for no value: the least number of 64 bits
abbrev pub MISSING : ℤ
MISSING = negsuc 9223372036854775807

-- the greatest magnitude of a cell
abbrev pub LIMIT : ℕ
LIMIT = 100000000000000000

-- the millionths of a unit
abbrev pub MILLION : ℕ
MILLION = 1000000

abbrev pub is_missing : ℤ → Bool
is_missing x = int_eq x MISSING

abbrev pub is_present : ℤ → Bool
is_present x = not (is_missing x)

-- a cell is MISSING or at most the limit in magnitude
abbrev pub IsCell : ℤ → Type 0
IsCell v = (v ≡ MISSING) ⊎ (unsigned_abs v ≤ LIMIT)

-- v as a cell: MISSING where it is too large
unfoldable pub to_cell : ℤ → ℤ
to_cell v = if nat_le (unsigned_abs v) LIMIT then v else MISSING

-- the cell of a / b, rounded once; MISSING where b is 0
unfoldable pub quot : ℤ → ℤ → ℤ
quot a (pos zero) = MISSING
quot a (pos (suc b)) = to_cell (div_round a (suc b))
quot a (negsuc b) = to_cell (div_round (neg_ℤ a) (suc b))

-- v, unless x or y is missing
abbrev pub of_both : ℤ → ℤ → ℤ → ℤ
of_both x y v = if is_missing x || is_missing y then MISSING else v

unfoldable pub add : ℤ → ℤ → ℤ
add x y = of_both x y (to_cell (x +ℤ y))

unfoldable pub sub : ℤ → ℤ → ℤ
sub x y = of_both x y (to_cell (x -ℤ y))

unfoldable pub mul : ℤ → ℤ → ℤ
mul x y = of_both x y (to_cell (div_round (x *ℤ y) MILLION))

unfoldable pub div : ℤ → ℤ → ℤ
div x y = of_both x y (quot (x *ℤ pos MILLION) y)

unfoldable pub neg : ℤ → ℤ
neg x = if is_missing x then MISSING else neg_ℤ x

-- a ratio of two whole numbers
pub record Fraction : Type 0 where
  pub num : ℕ
  pub den : ℕ

abbrev pub inverse : Fraction → Fraction
inverse f = record { num = f.den; den = f.num }

-- the cell times the ratio, rounded once
unfoldable pub scaled : Fraction → ℤ → ℤ
scaled f x = if is_missing x then MISSING else to_cell (div_round (x *ℤ pos f.num) f.den)

-- r is the greatest number whose square is at most v
pub record IsRoot (v r : ℕ) : Type 0 where
  pub within : r * r ≤ v
  pub greatest : v < suc r * suc r

-- that number, computed from the root of a quarter of v; the first number bounds how often a quarter is taken
unfoldable pub root_by : ℕ → ℕ → ℕ
root_by zero v = 0
root_by (suc n) zero = 0
root_by (suc n) (suc v) =
    let r = 2 * root_by n (suc v / 4) in
    if nat_le (suc r * suc r) (suc v) then suc r else r

unfoldable pub isqrt : ℕ → ℕ
isqrt v = root_by v v
