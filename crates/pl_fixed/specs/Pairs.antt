-- Numbers of two digits.
use Rattle.std.specs.Prelude.{◌≡◌, ℕ, ◌+◌, ◌/◌, ◌%◌, ◌<◌, List, slice_index}

-- the digits at the place and after it write n
pub record IsPairAt (bytes : List ℕ) (place n : ℕ) : Type 0 where
  pub below : n < 100
  pub tens : slice_index bytes place ≡ 48 + n / 10
  pub ones : slice_index bytes (place + 1) ≡ 48 + n % 10
