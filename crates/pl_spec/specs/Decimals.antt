-- Numbers as texts: decimals and the cells that they are read as, the text of a cell, and sids.
use Rattle.std.specs.Prelude.{◌≡◌, ℕ, ◌*◌, ◌/◌, ◌%◌, ◌^◌, ◌<◌, ◌≤◌, nat_lt, Bool, true, false, ◌&&◌, if◌then◌else◌, ℤ, pos, neg_ℤ, List, [], ◌∷◌, ◌++◌, length, Option, Some, None, bytes_eq}
use Rattle.std.specs.Fmt.{decimal, sign_text}
use Rattle.std.specs.Str.Parse.{IsNumeral, AllDigits, digits_value}
use Rattle.std.specs.Int.RustNames.{unsigned_abs, int_lt}
use Rattle.pl_spec.specs.Rounding.{LIMIT, MILLION, is_missing, div_round}
use Rattle.pl_spec.specs.Dates.{digits}

-- the parts of a decimal text; without a point there are no digits after it
pub record Decimal : Type 0 where
  pub negative : Bool
  pub whole : List ℕ
  pub fraction : List ℕ

-- a point and the digits after it
abbrev pub point_text : List ℕ → List ℕ
point_text [] = []
point_text (d ∷ ds) = 46 ∷ d ∷ ds

-- The bytes are the text of d: an optional minus, one digit or more, and optionally a point and one digit or
-- more.
pub record IsDecimal (d : Decimal) (bytes : List ℕ) : Type 0 where
  pub whole : IsNumeral 10 d.whole
  pub fraction : AllDigits 10 d.fraction
  pub spelled : bytes ≡ sign_text d.negative ++ (d.whole ++ point_text d.fraction)

abbrev pub signed : Bool → ℕ → ℤ
signed true n = neg_ℤ (pos n)
signed false n = pos n

-- the number in millionths, rounded once
abbrev pub millionths : Decimal → ℤ
millionths d = div_round (signed d.negative (digits_value 10 (d.whole ++ d.fraction) * MILLION)) (10 ^ length d.fraction)

-- more digits after the point than are read
abbrev pub IsTooLong : Decimal → Type 0
IsTooLong d = 18 < length d.fraction

-- a number that no cell holds
abbrev pub IsTooLarge : Decimal → Type 0
IsTooLarge d = (length d.fraction ≤ 18) × (LIMIT < unsigned_abs (millionths d))

-- a number that is the cell v
abbrev pub IsReadAs : Decimal → ℤ → Type 0
IsReadAs d v = (length d.fraction ≤ 18) × (unsigned_abs v ≤ LIMIT) × (v ≡ millionths d)

-- n millionths, with exactly six digits after the point and no zeros in front
abbrev pub units_text : ℕ → List ℕ
units_text n = decimal (n / MILLION) ++ 46 ∷ digits 6 (n % MILLION)

-- the text of a cell, empty where it is missing
unfoldable pub cell_text : ℤ → List ℕ
cell_text x = if is_missing x then [] else sign_text (int_lt x (pos 0)) ++ units_text (unsigned_abs x)

-- the sid that a text writes, without sign and leading zeros: the number in it is a sid, and that number's
-- text is it
unfoldable pub sid_in : List ℕ → Option ℕ
sid_in text = let n = digits_value 10 text in if nat_lt n (2 ^ 32) && bytes_eq text (decimal n) then Some n else None
