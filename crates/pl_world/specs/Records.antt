-- The files of a world, and files whose records stand in another order.
use Rattle.std.specs.Prelude.{◌≡◌, ℕ, ◌<◌, ℤ, List, [], ◌∷◌, length, All, IsPermutation, Ok}
use Rattle.pl_records.specs.Reading.{Record}
use Rattle.pl_spec.specs.declared.AssetRow.{AssetRow}
use Rattle.pl_spec.specs.declared.BarRow.{BarRow}
use Rattle.pl_spec.specs.declared.Format.{Format}
use Rattle.pl_spec.specs.Parts as parts
use Rattle.pl_spec.specs.Parts.{ColumnAdjustment, ColumnNumber}
use Rattle.pl_pipeline.specs.Table.{Pipeline, table}
use Rattle.pl_pipeline.specs.Text.{text}
use Rattle.pl_spec.specs.World.{World}
use Rattle.pl_calendar.specs.Days.{sessions_of}
use Rattle.pl_lifetimes.specs.Assets.{assets_of}
use Rattle.pl_assets.specs.Labels.{LabelTable, labels_of}
use Rattle.pl_bars.specs.Bars.{bars_of}
use Rattle.pl_numbers.specs.Numbers.{NumberTable, numbers_of}
use Rattle.pl_adjust.specs.Columns.{AreByDay}
use Rattle.pl_adjust.specs.Revised.{revised_in}
use Rattle.pl_world.specs.Laws.{ShowAlike}

-- the records of four files
pub record DataFiles : Type 0 where
  pub sessions : List Record
  pub assets : List Record
  pub labels : List Record
  pub bars : List Record

-- each is read without a fault, as this part
pub record AreReadAs (files : DataFiles) (days : List ℤ) (assets : List AssetRow) (labels : LabelTable)
    (bars : List BarRow) : Type 0 where
  pub days_read : sessions_of files.sessions ≡ Ok days
  pub assets_read : assets_of files.assets ≡ Ok assets
  pub labels_read : labels_of assets files.labels ≡ Ok labels
  pub bars_read : bars_of days assets files.bars ≡ Ok bars

-- the records after the first, the header, are in some order those of the other file
abbrev pub AreMoved : List Record → List Record → Type 0
AreMoved [] others = others ≡ []
AreMoved (r ∷ rs) [] = ⊥
AreMoved (r ∷ rs) (q ∷ qs) = (r ≡ q) × IsPermutation rs qs

pub record FilesAreMoved (files others : DataFiles) : Type 0 where
  pub sessions : files.sessions ≡ others.sessions
  pub assets : AreMoved files.assets others.assets
  pub labels : AreMoved files.labels others.labels
  pub bars : AreMoved files.bars others.bars

-- The others are read too, as the same sessions, assets and bars and as the same label rows in some order.
-- With any adjustments of these assets and any numbers the two worlds show the same.
abbrev pub RecordsInAnyOrder : Type 0
RecordsInAnyOrder = (files others : DataFiles) → FilesAreMoved files others
    → (days : List ℤ) (assets : List AssetRow) (labels : LabelTable) (bars : List BarRow)
    → AreReadAs files days assets labels bars
    → (other : LabelTable) × AreReadAs others days assets other bars × IsPermutation labels.rows other.rows
    × ((adjustments : List ColumnAdjustment)
    → All (λ x. x.col < length assets) adjustments → AreByDay adjustments → (numbers : List ColumnNumber)
    → ShowAlike (parts.world_of days assets labels.rows labels.texts bars adjustments numbers)
    (parts.world_of days assets other.rows other.texts bars adjustments numbers))

-- Beside the parts of the four files and any adjustments of these assets the records of numbers may stand in
-- any order too: the others are read, as the same rows in some order, and the two worlds show the same.
abbrev pub NumbersInAnyOrder : Type 0
NumbersInAnyOrder = (files : DataFiles) (days : List ℤ) (assets : List AssetRow) (labels : LabelTable)
    (bars : List BarRow) → AreReadAs files days assets labels bars
    → (records others : List Record) → AreMoved records others
    → (numbers : NumberTable) → numbers_of assets records ≡ Ok numbers
    → (other : NumberTable) × (numbers_of assets others ≡ Ok other) × IsPermutation numbers.rows other.rows
    × ((adjustments : List ColumnAdjustment)
    → All (λ x. x.col < length assets) adjustments → AreByDay adjustments
    → ShowAlike (parts.world_of days assets labels.rows labels.texts bars adjustments numbers.rows)
    (parts.world_of days assets labels.rows labels.texts bars adjustments other.rows))

-- the rows of each pipeline are the same, and they are written alike
pub record HaveSameTables (w v : World) : Type 0 where
  pub rows : (p : Pipeline) (from to : ℕ) → table w p from to ≡ table v p from to
  pub texts : (p : Pipeline) (format : Format) (from to : ℕ)
      → text w p format (table w p from to) ≡ text v p format (table v p from to)

-- Beside adjustments of these assets revisions may stand in any order too: the others are read, and with any
-- numbers the two worlds have the same tables.
abbrev pub RevisionsInAnyOrder : Type 0
RevisionsInAnyOrder = (files : DataFiles) (days : List ℤ) (assets : List AssetRow) (labels : LabelTable)
    (bars : List BarRow) → AreReadAs files days assets labels bars
    → (revisions others : List Record) → AreMoved revisions others
    → (adjustments revised : List ColumnAdjustment) → All (λ x. x.col < length assets) adjustments
    → revised_in days assets adjustments revisions ≡ Ok revised
    → (other : List ColumnAdjustment) × (revised_in days assets adjustments others ≡ Ok other)
    × ((numbers : List ColumnNumber)
    → HaveSameTables (parts.world_of days assets labels.rows labels.texts bars revised numbers)
    (parts.world_of days assets labels.rows labels.texts bars other numbers))
