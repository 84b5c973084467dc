-- The steps that a window of bars takes.
use Rattle.std.specs.Prelude.{ℕ, suc, ℤ, sum_by}
use Rattle.pl_spec.specs.declared.Column.{Column}
use Rattle.pl_spec.specs.World.{World}
use Rattle.pl_spec.specs.Window.{before, downward, effects, step_count}

-- how many pairs there are of one of the size sessions before d and a ratio that acts on the cell of its
-- bar, as it is seen on v
abbrev pub window_steps : World → Column → ℕ → ℕ → ℤ → ℤ → ℕ
window_steps w c size a d v = sum_by (λ n. step_count (effects w a c (before d (suc n)) v)) (downward size)
