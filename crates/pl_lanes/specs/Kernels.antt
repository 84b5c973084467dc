-- What the kernels over two lists take, and what they give at each place.
use Rattle.std.specs.Prelude.{ℕ, ℤ, pos, List, length, get_or, if◌then◌else◌, ◌≡◌, ◌+◌, ◌<◌}
use Rattle.std.specs.Int.{cast_signed, w64}
use Rattle.std.specs.List.{All}
use Rattle.pl_spec.specs.Rounding.{IsCell}
use Rattle.pl_spec.specs.Cells.{comparison, truth, is_true}
use Rattle.pl_lanes.specs.declared.kernels.Kernel.{Kernel}
use Rattle.pl_lanes.specs.declared.kernels.Kernel.TheVariants.{Compares, Joins, Chooses}
use Rattle.pl_lanes.specs.Flags.{IsFlag, joined}

-- the lists of n places
abbrev pub AreTaken : Kernel → ℕ → List ℤ → List ℤ → Type 0
AreTaken (Compares op) n a b = All IsCell a × All IsCell b
AreTaken (Joins both) n a b = All IsFlag a × All IsFlag b
AreTaken (Chooses f) n a b = All IsFlag f.now × (length f.now ≡ n) × All IsCell a × All IsCell b

abbrev pub given_at : Kernel → List ℤ → List ℤ → ℕ → ℤ
given_at (Compares op) a b k = comparison op (get_or a k (pos 0)) (get_or b k (pos 0))
given_at (Joins both) a b k =
    truth (joined both (is_true (get_or a k (pos 0))) (is_true (get_or b k (pos 0))))
given_at (Chooses f) a b k =
    if is_true (get_or f.now k (pos 0)) then get_or a k (pos 0) else get_or b k (pos 0)

-- the bits of the eight values from a place on
pub record AreLanes (at : ℕ) (lanes : List ℕ) (value : ℕ → ℤ) : Type 0 where
  pub eight : length lanes ≡ 8
  pub each : (j : ℕ) → j < 8 → cast_signed w64 (get_or lanes j 0) ≡ value (at + j)
