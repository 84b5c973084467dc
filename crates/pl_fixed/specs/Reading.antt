-- What reading a decimal text answers, from left to right.
use Rattle.std.specs.Prelude.{ℕ, Bool, true, false, ◌&&◌, ◌==◌, nat_lt, List, [], ◌∷◌, length, take_while, drop, ℤ, if◌then◌else◌, Result, Ok, Err}
use Rattle.std.specs.List.{list_all}
use Rattle.std.specs.Char.{is_ascii_digit}
use Rattle.std.specs.Int.RustNames.{unsigned_abs}
use Rattle.pl_spec.specs.Rounding.{LIMIT}
use Rattle.pl_spec.specs.Decimals.{Decimal, millionths}
use Rattle.pl_fixed.specs.declared.decimal.DecimalFault.{DecimalFault}
use Rattle.pl_fixed.specs.declared.decimal.DecimalFault.TheVariants.{Empty, Shape, TooManyDigits, TooLarge}

-- one digit or more, and nothing else
abbrev pub is_numeral : List ℕ → Bool
is_numeral bytes = nat_lt 0 (length bytes) && list_all is_ascii_digit bytes

-- the digits in front
abbrev pub front_digits : List ℕ → List ℕ
front_digits bytes = take_while is_ascii_digit bytes

-- the cell of so many millionths, if there is one
unfoldable pub in_range : ℤ → Result ℤ DecimalFault
in_range v = if nat_lt LIMIT (unsigned_abs v) then Err TooLarge else Ok v

-- the cell of a decimal, or why there is none
unfoldable pub judged : Decimal → Result ℤ DecimalFault
judged d = if nat_lt 18 (length d.fraction) then Err TooManyDigits else in_range (millionths d)

-- what follows the digits in front: nothing, or a point and digits
unfoldable pub fraction_read : Bool → List ℕ → List ℕ → Result ℤ DecimalFault
fraction_read negative whole [] = judged (record { negative = negative; whole = whole; fraction = [] })
fraction_read negative whole (c ∷ ds) =
    if (c == 46) && is_numeral ds then judged (record { negative = negative; whole = whole; fraction = ds }) else Err Shape

-- what follows the sign
unfoldable pub unsigned_read : Bool → List ℕ → Result ℤ DecimalFault
unsigned_read negative bytes =
    if length (front_digits bytes) == 0 then Err Shape
    else fraction_read negative (front_digits bytes) (drop (length (front_digits bytes)) bytes)

-- the cell that the bytes write, or the first fault
unfoldable pub read : List ℕ → Result ℤ DecimalFault
read [] = Err Empty
read (c ∷ cs) = if c == 45 then unsigned_read true cs else unsigned_read false (c ∷ cs)
