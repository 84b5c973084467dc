-- Files whose records stand in another order show the same.
use Rattle.std.proofs.Common.{◌≡◌, ℤ, List, [], ◌∷◌, IsPermutation, Result, Ok, Err, refl}
use Rattle.std.proofs.lemmas.List.Sorted.{IsPermutation-map}
use Rattle.pl_records.specs.Reading.{Record, Fault, ◌>>=◌}
use Rattle.pl_spec.specs.declared.AssetRow.{AssetRow}
use Rattle.pl_spec.specs.declared.BarRow.{BarRow}
use Rattle.pl_spec.specs.Parts as parts
use Rattle.pl_spec.specs.Parts.{ColumnLabel, label_of}
use Rattle.pl_spec.specs.Permuted.{AgreeInAll}
use Rattle.pl_spec.specs.World.{World, IsWorld}
use Rattle.pl_calendar.specs.Days.{AreDays}
use Rattle.pl_calendar.proofs.DaysRead.{AreDays-read}
use Rattle.pl_lifetimes.specs.Assets.{assets_of}
use Rattle.pl_lifetimes.proofs.AssetsMoved.{assets-moved}
use Rattle.pl_lifetimes.proofs.AssetsRead.{AreAssets-read}
use Rattle.pl_assets.specs.Labels.{DataFault, LabelTable, label_rows_in, labels_of, table_of}
use Rattle.pl_assets.proofs.LabelsMoved.{labels-moved}
use Rattle.pl_assets.proofs.LabelsRead.{AreRead, AreRead-read}
use Rattle.pl_bars.specs.Bars.{bars_of}
use Rattle.pl_bars.proofs.BarsMoved.{bars-moved}
use Rattle.pl_bars.proofs.BarsRead.{AreBars-read, AreInside-read}
use Rattle.pl_laws.proofs.Alike.{alike}
use Rattle.pl_laws.proofs.Permuted.{order-changes-nothing}
use Rattle.pl_world.specs.Laws.{ShowAlike}
use Rattle.pl_world.specs.Records.{DataFiles, AreReadAs, AreMoved, RecordsInAnyOrder}
use Rattle.pl_world.proofs.Made.{AreParts, is_world, labels_once}

pub show-alike : (w v : World) → IsWorld w → IsWorld v → AgreeInAll w v → ShowAlike w v
show-alike w v ok ok' agree = record { agree = agree; rows = alike.rows w v ok ok' agree; texts = alike.texts w v ok ok' agree }

-- the rows of a table that was read
pub AreRead-labels : (assets : List AssetRow) (records : List Record) (table : LabelTable) → labels_of assets records ≡ Ok table → AreRead assets table.rows
unfolding labels_of
AreRead-labels assets records table e = here (label_rows_in assets records) refl e
  where
    here : (x : Result (List ColumnLabel) (Fault DataFault)) → label_rows_in assets records ≡ x → (x >>= λ rows. Ok (table_of rows)) ≡ Ok table → AreRead assets table.rows
    here (Ok rows) was f = let same : table_of rows ≡ table = cc in rw (← same) (AreRead-read assets records rows was)
    here (Err fault) was f = absurd (cc)

assets-read : (records others : List Record) → AreMoved records others → (assets : List AssetRow) → assets_of records ≡ Ok assets → assets_of others ≡ Ok assets
assets-read [] others m assets e = rw m e
assets-read (r ∷ rs) [] m assets e = absurd m
assets-read (r ∷ rs) (q ∷ qs) m assets e = rw m.0 at (assets-moved r rs qs m.1 assets e)

bars-read : (days : List ℤ) (assets : List AssetRow) → AreDays days → (records others : List Record) → AreMoved records others → (bars : List BarRow)
    → bars_of days assets records ≡ Ok bars → bars_of days assets others ≡ Ok bars
bars-read days assets are [] others m bars e = rw m e
bars-read days assets are (r ∷ rs) [] m bars e = absurd m
bars-read days assets are (r ∷ rs) (q ∷ qs) m bars e = rw m.0 at (bars-moved days assets are.few r rs qs m.1 bars e)

labels-read : (assets : List AssetRow) (records others : List Record) → AreMoved records others → (table : LabelTable) → labels_of assets records ≡ Ok table
    → (other : LabelTable) × (labels_of assets others ≡ Ok other) × IsPermutation table.rows other.rows
labels-read assets [] others m table e = (table, rw m e, record { moves = []; below = tt; is = refl })
labels-read assets (r ∷ rs) [] m table e = absurd m
labels-read assets (r ∷ rs) (q ∷ qs) m table e = rw m.0 at (labels-moved assets r rs qs m.1 table e)

-- the parts of files that were read
pub AreParts-read : (files : DataFiles) (days : List ℤ) (assets : List AssetRow) (labels : LabelTable) (bars : List BarRow) → AreReadAs files days assets labels bars
    → AreParts days assets labels.rows bars
AreParts-read files days assets labels bars are =
    let days_are = AreDays-read files.sessions days are.days_read in
    let labels_are = AreRead-labels assets files.labels labels are.labels_read in
    record {
      days_up = days_are.ascend;
      sids_up = (AreAssets-read files.assets assets are.assets_read).ascend;
      labels_in = labels_are.cols;
      starts_own = labels_are.once;
      bars_in = (AreInside-read days assets files.bars bars are.bars_read).cols;
      bars_up = (AreBars-read days assets files.bars bars days_are.few are.bars_read).ascend;
    }

pub records-in-any-order : RecordsInAnyOrder
records-in-any-order files others m days assets labels bars are =
    let found = labels-read assets files.labels others.labels m.labels labels are.labels_read in
    let others_are : AreReadAs others days assets found.0 bars = record {
      days_read = rw (← m.sessions) are.days_read;
      assets_read = assets-read files.assets others.assets m.assets assets are.assets_read;
      labels_read = found.1;
      bars_read = bars-read days assets (AreDays-read files.sessions days are.days_read) files.bars others.bars m.bars bars are.bars_read;
    } in
    let first = AreParts-read files days assets labels bars are in
    let second = AreParts-read others days assets found.0 bars others_are in (
      found.0,
      others_are,
      found.2,
      λ adjustments adjustments_in in_order numbers.
          let w : World = parts.world_of days assets labels.rows labels.texts bars adjustments numbers in
          let v : World = parts.world_of days assets found.0.rows found.0.texts bars adjustments numbers in
          show-alike w v (is_world days assets labels.rows labels.texts bars first adjustments adjustments_in in_order numbers)
          (is_world days assets found.0.rows found.0.texts bars second adjustments adjustments_in in_order numbers) (record {
            days = refl;
            bars = λ a c s. refl;
            adjustments = λ a. refl;
            lifetimes = λ a s. refl;
            labels = order-changes-nothing.labels w v (labels_once days assets labels.rows labels.texts bars first adjustments adjustments_in in_order numbers) refl
                (IsPermutation-map (label_of assets) labels.rows found.0.rows found.2);
            numbers = λ f name a day. refl;
          }),
    )
