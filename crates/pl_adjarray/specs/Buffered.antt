-- A buffer of bars: what it is of, and what its rows hold at a session.
use Rattle.std.specs.Prelude.{◌≡◌, ℕ, ◌+◌, ◌*◌, ◌<◌, ℤ, pos, List, [], map, length, get_or, sum_by, slice_index_or}
use Rattle.std.specs.List.{range_with_len}
use Rattle.pl_spec.specs.declared.BarRow.{BarRow}
use Rattle.pl_spec.specs.declared.Column.{Column}
use Rattle.pl_spec.specs.Rounding.{IsCell}
use Rattle.pl_spec.specs.World.{World, Bar, Adjustment, events_of}
use Rattle.pl_spec.specs.Window.{seen_cell, effects, effects_in, step_count}
use Rattle.pl_spec.specs.Parts.{ColumnAdjustment}

-- the rows from session first on, of the assets cols, asset by asset
pub record Buffered : Type 0 where
  pub days : List ℤ
  pub bars : List BarRow
  pub adjustments : List ColumnAdjustment
  pub column : Column
  pub first : ℕ
  pub rows : ℕ
  pub cols : List ℕ

-- ---- the world of columns: an asset's sid is its column

abbrev pub column_bar : BarRow → Bar
column_bar b =
    record {
      sid = b.col;
      session = b.session;
      open_price = slice_index_or b.cells 0 (pos 0);
      high = slice_index_or b.cells 1 (pos 0);
      low = slice_index_or b.cells 2 (pos 0);
      close = slice_index_or b.cells 3 (pos 0);
      volume = slice_index_or b.cells 4 (pos 0);
    }

abbrev pub column_adjustment : ColumnAdjustment → Adjustment
column_adjustment x = record { sid = x.col; event = x.event }

abbrev pub column_world : List ℤ → List BarRow → List ColumnAdjustment → World
column_world days bars adjustments =
    record {
      days = days;
      assets = [];
      labels = [];
      texts = [];
      bars = map column_bar bars;
      adjustments = map column_adjustment adjustments;
      numbers = [];
    }

abbrev pub world_of : Buffered → World
world_of b = column_world b.days b.bars b.adjustments

-- ---- the cells of a buffer

abbrev pub cell_at : List ℤ → ℕ → ℤ
cell_at cells k = get_or cells k (pos 0)

-- the column of the i-th asset
abbrev pub col_at : Buffered → ℕ → ℕ
col_at b i = get_or b.cols i 0

-- every buffered row, shown or not yet shown, is as it is seen on session d
abbrev pub AreSeen : Buffered → List ℤ → ℕ → Type 0
AreSeen b cells d =
    (i j : ℕ) → i < length b.cols → j < b.rows
    → cell_at cells (i * b.rows + j) ≡ seen_cell (world_of b) (col_at b i) b.column (pos (b.first + j)) (pos d)

abbrev pub HasCells : Buffered → List ℤ → Type 0
HasCells b cells = (i j : ℕ) → i < length b.cols → j < b.rows → IsCell (cell_at cells (i * b.rows + j))

-- ---- steps

-- how many pairs there are of a buffered row of asset a and a ratio that changed it by session d
abbrev pub row_count : Buffered → ℕ → ℕ → ℕ
row_count b d a = sum_by (λ s. step_count (effects (world_of b) a b.column (pos s) (pos d))) (range_with_len b.first b.rows)

-- the same of all assets
abbrev pub applied_at : Buffered → ℕ → ℕ
applied_at b d = sum_by (row_count b d) b.cols

-- how many ratios of asset a act later than one day and by another, on a bar of any day
abbrev pub ratio_count : Buffered → ℤ → ℤ → ℤ → ℕ → ℕ
ratio_count b bar from to a = step_count (effects_in b.column bar from to (events_of (world_of b) a))
