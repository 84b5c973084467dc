-- How a number is written: whole where it is whole, else with its decimals and without zeros at their end.
use Rattle.std.specs.Prelude.{ℕ, ◌-◌, ◌/◌, ◌%◌, Bool, ◌==◌, ℤ, List, ◌++◌, length, take, reverse}
use Rattle.std.specs.List.{take_while}
use Rattle.std.specs.Fmt.{decimal}
use Rattle.std.specs.Int.RustNames.{unsigned_abs}
use Rattle.pl_spec.specs.Rounding.{MILLION}
use Rattle.pl_spec.specs.Dates.{digits}
use Rattle.pl_spec.specs.Decimals.{point_text}

abbrev pub is_zero : ℕ → Bool
is_zero d = d == 48

-- digits without the zeros at their end
abbrev pub trimmed : List ℕ → List ℕ
trimmed ds = take (length ds - length (take_while is_zero (reverse ds))) ds

-- the digits after the point of a number of millionths
unfoldable pub fraction_of : ℤ → List ℕ
fraction_of v = trimmed (digits 6 (unsigned_abs v % MILLION))

-- a number of millionths that isn't below 0
unfoldable pub number_text : ℤ → List ℕ
number_text v = decimal (unsigned_abs v / MILLION) ++ point_text (fraction_of v)
