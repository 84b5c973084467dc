-- The sum of the cells of rows.
use Rattle.std.specs.Prelude.{ℕ, ◌*◌, ◌≤◌, ℤ, pos, ◌+ℤ◌, List, fold, unsigned_abs}
use Rattle.pl_spec.specs.Limits.{most_columns}
use Rattle.pl_spec.specs.Rounding.{LIMIT}
use Rattle.pl_pipeline.specs.Value.{Value}
use Rattle.pl_pipeline.specs.Table.{Row, summand}

-- of some values, and of the values of all rows; missing ones count 0
abbrev pub values_sum : List (List ℕ) → List Value → ℤ
values_sum texts values = fold (λ m v. m +ℤ summand texts v) (pos 0) values

abbrev pub rows_sum : List (List ℕ) → List Row → ℤ
rows_sum texts rows = fold (λ n r. n +ℤ values_sum texts r.values) (pos 0) rows

-- so many rows of at most 64 cells
abbrev pub IsSumOf : ℕ → ℤ → Type 0
IsSumOf rows sum = unsigned_abs sum ≤ rows * (most_columns * LIMIT)
