-- The deepest of the first falls of a window.
use Rattle.std.specs.Prelude.{◌≡◌, ◌≢◌, ℕ, ◌*◌, ◌<◌, ℤ, pos, ◌≤ℤ◌, List, take, true, false, ◌⊎◌}
use Rattle.pl_spec.specs.Rounding.{MISSING, LIMIT, is_missing}
use Rattle.pl_spec.specs.Cells.{greatest}
use Rattle.pl_pipeline.specs.Formula.{fall}
use Rattle.pl_factors.specs.declared.order.Falls.{Falls}

-- the greatest of the first cells, the deepest of their falls, and where it is first
pub record AreFalls (a : List ℤ) (n : ℕ) (f : Falls) : Type 0 where
  pub peak : f.peak ≡ greatest (take n a)
  pub above : (j : ℕ) → j < n → (is_missing (fall a j) ≡ true) ⊎ (fall a j ≤ℤ f.deepest)
  pub within : is_missing f.deepest ≡ false → f.place < n
  pub there : is_missing f.deepest ≡ false → fall a f.place ≡ f.deepest
  pub first : is_missing f.deepest ≡ false → (j : ℕ) → j < f.place → fall a j ≢ f.deepest
  pub known : is_missing f.peak ≡ false → is_missing f.deepest ≡ false
  pub small : (f.deepest ≡ MISSING) ⊎ ((pos 0 ≤ℤ f.deepest) × (f.deepest ≤ℤ pos (2 * LIMIT)))
