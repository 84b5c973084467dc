-- The labels of a table are those of the world that is made of it.
use Rattle.std.specs.Prelude.{◌≡◌, ℕ, ◌<◌, ℤ, List, length, All, AllPairs, option_and_then}
use Rattle.pl_spec.specs.World.{day_of, label_at}
use Rattle.pl_spec.specs.Parts.{ColumnLabel, ColumnAdjustment, ColumnNumber, sid_at, world_of}
use Rattle.pl_spec.specs.declared.AssetRow.{AssetRow}
use Rattle.pl_spec.specs.declared.BarRow.{BarRow}
use Rattle.pl_assets.specs.Labels.{label_on}

-- where the sids ascend and the rows are in columns of assets
abbrev pub LabelsAreThose : Type 0
LabelsAreThose = (days : List ℤ) (assets : List AssetRow) (rows : List ColumnLabel) (texts : List (List ℕ))
    (bars : List BarRow) (adjustments : List ColumnAdjustment) (numbers : List ColumnNumber)
    → AllPairs (λ a b. a.sid < b.sid) assets → All (λ r. r.col < length assets) rows
    → (name : List ℕ) (col : ℕ) (d : ℤ) → col < length assets
    → label_at (world_of days assets rows texts bars adjustments numbers) name (sid_at assets col) d
    ≡ option_and_then (label_on rows name col)
    (day_of (world_of days assets rows texts bars adjustments numbers) d)
