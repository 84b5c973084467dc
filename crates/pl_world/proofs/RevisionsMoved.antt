-- Revisions whose records stand in another order show the same tables.
use Rattle.std.proofs.Common.{◌≡◌, ◌<◌, ◌==◌, ℤ, List, [], ◌∷◌, length, All, Ok, refl, sym, ◌∙◌, ap}
use Rattle.pl_records.specs.Reading.{Record}
use Rattle.pl_spec.specs.declared.AssetRow.{AssetRow}
use Rattle.pl_spec.specs.declared.BarRow.{BarRow}
use Rattle.pl_spec.specs.Parts as parts
use Rattle.pl_spec.specs.Parts.{ColumnAdjustment, ColumnNumber, sid_at}
use Rattle.pl_spec.specs.Window.{effects_in}
use Rattle.pl_spec.specs.World.{World, IsWorld}
use Rattle.pl_calendar.specs.Days.{AreDays}
use Rattle.pl_calendar.proofs.DaysRead.{AreDays-read}
use Rattle.pl_lifetimes.specs.Assets.{AreAssets}
use Rattle.pl_lifetimes.proofs.AssetsRead.{AreAssets-read}
use Rattle.pl_assets.specs.Labels.{LabelTable}
use Rattle.pl_adjust.specs.Columns.{AreByDay}
use Rattle.pl_adjust.specs.Revised.{revised_in}
use Rattle.pl_adjust.proofs.RevisionsMoved.{PickedAlike, kept-revised, picked-alike}
use Rattle.pl_adjust.proofs.Sids.{parts_events}
use Rattle.pl_laws.proofs.Alike.{SeenInAll, table_same, text_same}
use Rattle.pl_world.specs.Records.{AreMoved, HaveSameTables, RevisionsInAnyOrder}
use Rattle.pl_world.proofs.Made.{AreParts, is_world}
use Rattle.pl_world.proofs.Moved.{AreParts-read}

-- the others are read too
others-read : (days : List ℤ) (assets : List AssetRow) → AreDays days → AreAssets assets → (records others : List Record) → AreMoved records others → (old xs : List ColumnAdjustment)
    → revised_in days assets old records ≡ Ok xs → (ys : List ColumnAdjustment) × (revised_in days assets old others ≡ Ok ys) × PickedAlike xs ys
others-read days assets ud ua [] others m old xs e = (xs, rw m e, λ at c bar low high. refl)
others-read days assets ud ua (r ∷ rs) [] m old xs e = absurd m
others-read days assets ud ua (r ∷ rs) (q ∷ qs) m old xs e = rw m.0 at (picked-alike days assets ud ua r rs qs m.1 old xs e)

module _ (days : List ℤ) (assets : List AssetRow) (labels : LabelTable) (bars : List BarRow) (are : AreParts days assets labels.rows bars) (numbers : List ColumnNumber) where
  abbrev whole : List ColumnAdjustment → World
  whole xs = parts.world_of days assets labels.rows labels.texts bars xs numbers

  made : (xs : List ColumnAdjustment) → All (λ x. x.col < length assets) xs × AreByDay xs → IsWorld (whole xs)
  made xs kept = is_world days assets labels.rows labels.texts bars are xs kept.0 kept.1 numbers

  seen : (xs ys : List ColumnAdjustment) → PickedAlike xs ys → SeenInAll (whole xs) (whole ys)
  seen xs ys alike =
      record {
        days = refl;
        bars = λ a c s. refl;
        changes = λ a c bar low high.
            ap (effects_in c bar low high) (parts_events days assets labels.rows labels.texts bars xs numbers are.sids_up a)
            ∙ alike (λ n. sid_at assets n == a) c bar low high
            ∙ sym (ap (effects_in c bar low high) (parts_events days assets labels.rows labels.texts bars ys numbers are.sids_up a));
        lifetimes = λ a s. refl;
        labels = λ name a s. refl;
        numbers = λ f name a day. refl;
      }

  same : (xs ys : List ColumnAdjustment) → IsWorld (whole xs) → IsWorld (whole ys) → PickedAlike xs ys → HaveSameTables (whole xs) (whole ys)
  same xs ys ok ok' alike =
      record {
        rows = table_same (whole xs) (whole ys) ok ok' (seen xs ys alike);
        texts = text_same (whole xs) (whole ys) ok ok' (seen xs ys alike);
      }

pub revisions-in-any-order : RevisionsInAnyOrder
revisions-in-any-order files days assets labels bars are records others m old xs cols e =
    let days_are = AreDays-read files.sessions days are.days_read in
    let assets_are = AreAssets-read files.assets assets are.assets_read in
    let parts_are = AreParts-read files days assets labels bars are in
    let it = others-read days assets days_are assets_are records others m old xs e in
    let first = kept-revised days assets days_are assets_are records old xs cols e in
    let second = kept-revised days assets days_are assets_are others old it.0 cols it.1 in (
      it.0,
      it.1,
      λ numbers.
          let is = made days assets labels bars parts_are numbers in
          same days assets labels bars parts_are numbers xs it.0 (is xs first) (is it.0 second) it.2,
    )
