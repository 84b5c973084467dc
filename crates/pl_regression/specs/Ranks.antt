-- Twice the rank of a value, cell by cell.
use Rattle.std.specs.Prelude.{ℕ, ℤ, pos, List, if◌then◌else◌, map}
use Rattle.std.specs.Int.RustNames.{int_lt}
use Rattle.std.specs.Ordering.{int_eq}
use Rattle.pl_spec.specs.Rounding.{is_missing}
use Rattle.pl_pipeline.specs.Order.{twice_rank}

-- what a cell adds to it: 2 where it is less, 1 where it is the same
unfoldable pub share : ℤ → ℤ → ℕ
share x y = if is_missing y then 0 else if int_lt y x then 2 else if int_eq x y then 1 else 0

-- twice the ranks of the values of a list
unfoldable pub twice_ranks : List ℤ → List ℤ
twice_ranks vs = map (λ v. pos (twice_rank v vs)) vs

abbrev pub firsts : List (ℤ × ℤ) → List ℤ
firsts ps = map (λ p. p.0) ps

abbrev pub seconds : List (ℤ × ℤ) → List ℤ
seconds ps = map (λ p. p.1) ps
