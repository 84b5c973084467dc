-- The logarithm, the exponential, the root and the sign of a cell, the greater and the lesser of two cells.
-- Each result is rounded once, to the nearest millionth.
use Rattle.std.specs.Prelude.{ℕ, zero, suc, ◌+◌, ◌-◌, ◌*◌, ◌/◌, ◌^◌, nat_lt, ◌||◌, if◌then◌else◌, ℤ, pos, ◌-ℤ◌, ◌*ℤ◌, neg_ℤ}
use Rattle.std.specs.Int.RustNames.{unsigned_abs, int_lt, int_le}
use Rattle.std.specs.Int.{int_max, int_min}
use Rattle.pl_spec.specs.Rounding.{MISSING, MILLION, is_missing, div_round, quot, isqrt, of_both}

-- ---- the logarithm

-- the logarithm of 2, in parts of 10^18
abbrev pub LN2 : ℕ
LN2 = 693147180559945309

-- the greatest n with 2 ^ n at most v; the first number bounds it
unfoldable pub size_by : ℕ → ℕ → ℕ
size_by zero v = 0
size_by (suc n) v = if nat_lt v 2 then 0 else suc (size_by n (v / 2))

-- Half the binary logarithm of s / 2 ^ 62, a number from 1 to below 4: its first n bits after the point, each
-- found by squaring. The bit says whether the number is 2 or more, and the next one is of its square, or of the
-- square of its half.
unfoldable pub log_bits : ℕ → ℕ → ℕ
log_bits zero s = 0
log_bits (suc n) zero = 0
log_bits (suc n) (suc s) =
    let y = suc s in
    if nat_lt y (2 ^ 63) then log_bits n (y * y / 2 ^ 62) else 2 ^ n + log_bits n (y / 2 * (y / 2) / 2 ^ 62)

-- the binary logarithm of y / 2 ^ 62, a number from 1 to below 2, in parts of 2 ^ 60
abbrev pub part_log : ℕ → ℕ
part_log y = log_bits 60 (y * y / 2 ^ 62)

-- that of v, a number from 1 to the limit of cells
abbrev pub binary_log : ℕ → ℕ
binary_log v = let n = size_by 57 v in n * 2 ^ 60 + part_log (v * 2 ^ (62 - n))

-- the natural logarithm: MISSING unless x is above 0
unfoldable pub log : ℤ → ℤ
log x =
    let v = unsigned_abs x in
    if is_missing x || int_le x (pos 0) then MISSING
    else div_round ((pos (binary_log v) -ℤ pos (binary_log MILLION)) *ℤ pos LN2) (2 ^ 60 * 10 ^ 12)

-- ---- the exponential

-- how finely a millionth is divided in the series
abbrev pub GRAIN : ℕ
GRAIN = 2 ^ 45

-- n terms of the series of e ^ (v / MILLION), from the k-th on, which is t; each is rounded down
unfoldable pub series : ℕ → ℕ → ℕ → ℕ → ℕ
series zero k t v = 0
series (suc n) k t v = t + series n (suc k) (t * v / (MILLION * k)) v

-- e ^ x: MISSING where it is past the limit of cells, as it is for all above 26
unfoldable pub exp : ℤ → ℤ
exp x =
    let s = series 110 1 (MILLION * GRAIN) (unsigned_abs x) in
    if is_missing x || int_lt (pos 26000000) x then MISSING
    else if int_lt x (neg_ℤ (pos 26000000)) then pos 0
    else if int_lt x (pos 0) then quot (pos (MILLION * MILLION * GRAIN)) (pos s) else quot (pos s) (pos GRAIN)

-- ---- the root, the sign, the greater and the lesser

-- the whole number nearest to half the root of v
abbrev pub near_root : ℕ → ℕ
near_root v = (isqrt v + 1) / 2

-- MISSING below 0
unfoldable pub sqrt : ℤ → ℤ
sqrt x = if is_missing x || int_lt x (pos 0) then MISSING else pos (near_root (4 * unsigned_abs x * MILLION))

-- -1, 0 or 1, in millionths
unfoldable pub sign : ℤ → ℤ
sign x =
    if is_missing x then MISSING
    else if int_lt x (pos 0) then neg_ℤ (pos MILLION)
    else if int_lt (pos 0) x then pos MILLION else pos 0

-- MISSING where one of the two is
unfoldable pub maximum : ℤ → ℤ → ℤ
maximum x y = of_both x y (int_max x y)

unfoldable pub minimum : ℤ → ℤ → ℤ
minimum x y = of_both x y (int_min x y)
