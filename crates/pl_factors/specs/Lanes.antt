-- Windows of one size that follow on each other in a list, each a cell later than the one before.
use Rattle.std.specs.Prelude.{◌≡◌, ℕ, ◌+◌, ◌<◌, ◌≤◌, ℤ, pos, List, length, take, drop, get_or}
use Rattle.std.specs.List.{All}
use Rattle.pl_spec.specs.Rounding.{IsCell}
use Rattle.pl_spec.specs.Cells.{present_values}
use Rattle.pl_pipeline.specs.Formula.{if_any}
use Rattle.pl_pipeline.specs.Order.{percentile}
use Rattle.pl_pipeline.specs.Kind.{Kind}
use Rattle.pl_factors.specs.Kinds.{formula_of}
use Rattle.pl_factors.specs.Terms.{mean_by, deviation_by}
use Rattle.pl_factors.specs.Spans.{TakesWindows}

-- the window that begins with cell k
abbrev pub window_at : ℕ → ℕ → List ℤ → List ℤ
window_at size k xs = take size (drop k xs)

-- a list has n such windows, or no cell at all, where the formula does not use it
abbrev pub HasWindows : ℕ → ℕ → List ℤ → Type 0
HasWindows size n xs = 0 < length xs → size + n ≤ length xs + 1

-- the lists of a formula's inputs have n windows each, of which the formula takes those of one place together
pub record TakesLanes (k : Kind) (size n : ℕ) (a b c : List ℤ) : Type 0 where
  pub first : All IsCell a
  pub second : All IsCell b
  pub third : All IsCell c
  pub first_long : HasWindows size n a
  pub second_long : HasWindows size n b
  pub third_long : HasWindows size n c
  pub windows : (j : ℕ) → j < n → TakesWindows k (window_at size j a) (window_at size j b) (window_at size j c)

-- what the formula gives over the windows of place j
abbrev pub formula_at : Kind → ℕ → List ℤ → List ℤ → List ℤ → ℕ → ℤ
formula_at k size a b c j = formula_of k (window_at size j a) (window_at size j b) (window_at size j c)

-- the first cells are what f gives for their places
pub record AreGiven (f : ℕ → ℤ) (done : ℕ) (out : List ℤ) : Type 0 where
  pub each : (j : ℕ) → j < done → get_or out j (pos 0) ≡ f j
  pub cell : (j : ℕ) → j < done → IsCell (get_or out j (pos 0))

-- they are what the formula gives over the windows of their places
abbrev pub AreValues : Kind → ℕ → List ℤ → List ℤ → List ℤ → ℕ → List ℤ → Type 0
AreValues k size a b c done out = AreGiven (formula_at k size a b c) done out

-- the mean of the window of place j with these weights
abbrev pub weighted_at : List ℤ → List ℤ → ℕ → ℤ
weighted_at weights a j = mean_by weights (window_at (length weights) j a)

-- and the deviation
abbrev pub deviated_at : List ℤ → List ℤ → ℕ → ℤ
deviated_at weights a j = deviation_by weights (window_at (length weights) j a)

-- the point percent hundredths of a percent of the way through the present values of the window of place j
unfoldable pub percentile_at : ℕ → ℕ → List ℤ → ℕ → ℤ
percentile_at percent size a j = if_any (window_at size j a) (percentile percent (present_values (window_at size j a)))
