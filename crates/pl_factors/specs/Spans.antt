-- Two windows, the second a place after the first, as one list: all but its last cell, and all but its first.
use Rattle.std.specs.Prelude.{◌≡◌, ℕ, ◌+◌, ◌-◌, ◌≤◌, ℤ, pos, List, length, take, drop, get_or, if◌then◌else◌, IsTrue, ◌⊎◌, Bool, true, false}
use Rattle.std.specs.List.{All}
use Rattle.pl_spec.specs.Limits.{most_window}
use Rattle.pl_spec.specs.Rounding.{IsCell, is_missing}
use Rattle.pl_pipeline.specs.Kind.{Kind}
use Rattle.pl_pipeline.specs.Kind.Kind.{Window}
use Rattle.pl_pipeline.specs.declared.WindowKind.TheVariants.{FastStochasticOscillator}
use Rattle.pl_factors.specs.Kinds.{IsWindowFactor, takes_pairs}
use Rattle.pl_factors.specs.Filters.{IsWindowFilter, AreValues}

abbrev pub before : List ℤ → List ℤ
before xs = take (length xs - 1) xs

abbrev pub after : List ℤ → List ℤ
after xs = drop 1 xs

-- the cell that only the first window has, and the one that only the second has
abbrev pub first : List ℤ → ℤ
first xs = get_or xs 0 (pos 0)

abbrev pub last : List ℤ → ℤ
last xs = get_or xs (length xs - 1) (pos 0)

-- what a cell adds to a sum
unfoldable pub part : ℤ → ℤ
part x = if is_missing x then pos 0 else x

-- and to a count
unfoldable pub presence : ℤ → ℕ
presence x = if is_missing x then 0 else 1

-- A factor or a filter over a window, with its parameter in its range. The windows are at most 1,260 cells
-- long, those of a filter are flags, and they are of one length where their cells are taken in pairs.
pub record TakesWindows (k : Kind) (a b c : List ℤ) : Type 0 where
  pub kind : IsWindowFactor k ⊎ (IsWindowFilter k × AreValues k a)
  pub first : All IsCell a
  pub second : All IsCell b
  pub third : All IsCell c
  pub few : length a ≤ most_window
  pub paired : IsTrue (takes_pairs k) → length b ≡ length a

-- does the formula take a range between two windows of their own?
abbrev pub takes_range : Kind → Bool
takes_range (Window FastStochasticOscillator) = true
takes_range k = false

-- the same of two windows a place apart
pub record TakesSpans (k : Kind) (a b c : List ℤ) : Type 0 where
  pub first : All IsCell a
  pub second : All IsCell b
  pub third : All IsCell c
  pub some : 2 ≤ length a
  pub few : length a ≤ most_window + 1
  pub paired : IsTrue (takes_pairs k) → length b ≡ length a
  pub range : IsTrue (takes_range k) → (2 ≤ length b) × (2 ≤ length c)
