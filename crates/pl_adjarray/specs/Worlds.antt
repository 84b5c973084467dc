-- A buffer in the world of the parts that it is of.
use Rattle.std.specs.Prelude.{◌≡◌, ℕ, ◌+◌, ◌<◌, ℤ, pos, List, length, map, sum_by, All}
use Rattle.std.specs.List.{range_with_len}
use Rattle.pl_spec.specs.declared.AssetRow.{AssetRow}
use Rattle.pl_spec.specs.declared.Column.{Column}
use Rattle.pl_spec.specs.World.{World}
use Rattle.pl_spec.specs.Parts as parts
use Rattle.pl_spec.specs.Parts.{AreFor, ColumnLabel, ColumnNumber, sid_at}
use Rattle.pl_spec.specs.Window.{applied_steps, bar_window, effects, step_count}
use Rattle.pl_adjarray.specs.Buffered.{Buffered, applied_at, col_at}

-- the world of the buffer's parts with some assets, labels and numbers
abbrev pub world_with : Buffered → List AssetRow → List ColumnLabel → List (List ℕ) → List ColumnNumber
    → World
world_with b assets labels texts numbers =
    parts.world_of b.days assets labels texts b.bars b.adjustments numbers

-- whatever assets, labels and numbers the parts were made for: the list is the asset's window on session d
abbrev pub IsWindow : Buffered → ℕ → ℕ → ℕ → List ℤ → Type 0
IsWindow b size i d cells =
    (assets : List AssetRow) (labels : List ColumnLabel) (texts : List (List ℕ)) (numbers : List ColumnNumber)
    → AreFor b.days assets labels b.bars b.adjustments numbers → col_at b i < length assets
    → cells ≡ bar_window (world_with b assets labels texts numbers) b.column size
    (sid_at assets (col_at b i)) (pos d)

-- how many pairs there are of one of the rows and a ratio that changed its cell by session d
abbrev pub applied_in : World → Column → ℕ → ℕ → List ℕ → ℕ → ℕ
applied_in w c first rows sids d = sum_by (λ a. sum_by (λ s. step_count (effects w a c (pos s) (pos d))) (range_with_len first rows)) sids

-- whatever assets, labels and numbers the parts were made for: the counted steps are those of the definitions
abbrev pub CountsAreOfTheWorld : Type 0
CountsAreOfTheWorld =
    (b : Buffered) (assets : List AssetRow) (labels : List ColumnLabel) (texts : List (List ℕ))
    (numbers : List ColumnNumber)
    → AreFor b.days assets labels b.bars b.adjustments numbers → All (λ col. col < length assets) b.cols
    → (d : ℕ) → applied_at b d
    ≡ applied_in (world_with b assets labels texts numbers) b.column b.first b.rows
    (map (sid_at assets) b.cols) d

-- and those of a whole traversal are all that the definitions count for its rows
abbrev pub WholeCountsAreOfTheWorld : Type 0
WholeCountsAreOfTheWorld =
    (b : Buffered) (assets : List AssetRow) (labels : List ColumnLabel) (texts : List (List ℕ))
    (numbers : List ColumnNumber)
    → AreFor b.days assets labels b.bars b.adjustments numbers → All (λ col. col < length assets) b.cols
    → applied_at b (b.first + b.rows)
    ≡ applied_steps (world_with b assets labels texts numbers) b.column b.first b.rows
    (map (sid_at assets) b.cols)
