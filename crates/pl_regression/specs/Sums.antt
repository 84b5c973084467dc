-- Sums of pairs of cells, pair by pair.
use Rattle.std.specs.Prelude.{ℕ, pos, ◌^◌, ◌<◌, ◌+◌, ◌-◌, ◌*◌, ◌≤◌, ◌||◌, if◌then◌else◌, ℤ, ◌+ℤ◌, ◌-ℤ◌, ◌*ℤ◌}
use Rattle.std.specs.Int.RustNames.{unsigned_abs}
use Rattle.pl_spec.specs.Limits.{most_window}
use Rattle.pl_spec.specs.Rounding.{LIMIT, is_missing}
use Rattle.pl_pipeline.specs.Formula.{PairSums}

-- the sums of so many pairs are at most so large
pub record AreWithin (n : ℕ) (s : PairSums) : Type 0 where
  pub number : s.number ≤ n
  pub x : unsigned_abs s.x ≤ n * LIMIT
  pub y : unsigned_abs s.y ≤ n * LIMIT
  pub xx : unsigned_abs s.xx ≤ n * (LIMIT * LIMIT)
  pub yy : unsigned_abs s.yy ≤ n * (LIMIT * LIMIT)
  pub xy : unsigned_abs s.xy ≤ n * (LIMIT * LIMIT)

-- those of no more pairs than a window has
abbrev pub AreSums : PairSums → Type 0
AreSums s = AreWithin most_window s

-- sums whose spreads fit 128 bits
pub record AreShort (s : PairSums) : Type 0 where
  pub x : unsigned_abs s.x < 2 ^ 62
  pub y : unsigned_abs s.y < 2 ^ 62
  pub xx : unsigned_abs s.xx < 2 ^ 113
  pub xy : unsigned_abs s.xy < 2 ^ 113

-- the sums with one pair more
abbrev pub with_pair : PairSums → ℤ → ℤ → PairSums
with_pair s x y = record {
  number = s.number + 1;
  x = s.x +ℤ x;
  y = s.y +ℤ y;
  xx = s.xx +ℤ (x *ℤ x);
  yy = s.yy +ℤ (y *ℤ y);
  xy = s.xy +ℤ (x *ℤ y);
}

-- and with one less
abbrev pub without_pair : PairSums → ℤ → ℤ → PairSums
without_pair s x y = record {
  number = s.number - 1;
  x = s.x -ℤ x;
  y = s.y -ℤ y;
  xx = s.xx -ℤ (x *ℤ x);
  yy = s.yy -ℤ (y *ℤ y);
  xy = s.xy -ℤ (x *ℤ y);
}

-- the same of two cells, which are no pair where one is missing
unfoldable pub added : PairSums → ℤ → ℤ → PairSums
added s x y = if is_missing x || is_missing y then s else with_pair s x y

unfoldable pub removed : PairSums → ℤ → ℤ → PairSums
removed s x y = if is_missing x || is_missing y then s else without_pair s x y

-- the sums of the pairs whose first values are less by one
unfoldable pub lowered : PairSums → PairSums
lowered s = record {
  number = s.number;
  x = s.x -ℤ pos s.number;
  y = s.y;
  xx = ((s.xx -ℤ s.x) -ℤ s.x) +ℤ pos s.number;
  yy = s.yy;
  xy = s.xy -ℤ s.y;
}
