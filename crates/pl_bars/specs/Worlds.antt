-- The cells of a table of bars are those of the world that is made of it.
use Rattle.std.specs.Prelude.{◌≡◌, ℕ, ◌<◌, ℤ, pos, List, length, All, AllPairs}
use Rattle.pl_spec.specs.World.{bar_cell}
use Rattle.pl_spec.specs.Parts.{ColumnLabel, ColumnAdjustment, ColumnNumber, sid_at, world_of}
use Rattle.pl_spec.specs.declared.AssetRow.{AssetRow}
use Rattle.pl_spec.specs.declared.BarRow.{BarRow}
use Rattle.pl_spec.specs.declared.Column.{Column}
use Rattle.pl_bars.specs.Bars.{cell_at}

-- where the sids ascend and the bars are in columns of assets
abbrev pub CellsAreRaw : Type 0
CellsAreRaw = (days : List ℤ) (assets : List AssetRow) (labels : List ColumnLabel) (texts : List (List ℕ))
    (bars : List BarRow) (adjustments : List ColumnAdjustment) (numbers : List ColumnNumber)
    → AllPairs (λ a b. a.sid < b.sid) assets → All (λ b. b.col < length assets) bars
    → (col : ℕ) (column : Column) (session : ℕ) → col < length assets
    → cell_at bars col column session
    ≡ bar_cell (world_of days assets labels texts bars adjustments numbers) (sid_at assets col) column
    (pos session)
