-- The world of contents that were read: its rows are there once each, and what its adjustments do.
use Rattle.std.proofs.Common.{◌≡◌, ℕ, ◌<◌, ◌==◌, false, ℤ, List, [], ◌∷◌, ◌++◌, map, filter, length, All, AllPairs, Option, Some, None, Ok, refl, sym, ◌∙◌, ap, arith}
use Rattle.std.specs.Option.{ForSome}
use Rattle.std.proofs.lemmas.List.Elements.{All-append}
use Rattle.pl_spec.specs.declared.AssetRow.{AssetRow}
use Rattle.pl_spec.specs.declared.RawAdjust.{RawAdjust}
use Rattle.pl_spec.specs.Numbers.{NumbersOnce}
use Rattle.pl_spec.specs.Order.{by_day}
use Rattle.pl_spec.specs.Parts.{ColumnLabel, ColumnNumber, number_of, world_of}
use Rattle.pl_spec.specs.World.{World, Adjustment, events_of}
use Rattle.pl_calendar.specs.Days.{AreDays}
use Rattle.pl_calendar.proofs.DaysRead.{AreDays-read}
use Rattle.pl_lifetimes.specs.Assets.{AreAssets}
use Rattle.pl_lifetimes.proofs.AssetsRead.{AreAssets-read}
use Rattle.pl_assets.specs.Labels.{LabelTable, is_from, labels_of}
use Rattle.pl_bars.proofs.BarsRead.{AreBars-read, AreInside-read}
use Rattle.pl_numbers.specs.Numbers.{NumberTable, numbers_of}
use Rattle.pl_numbers.specs.Beside.{numbers_beside}
use Rattle.pl_numbers.proofs.NumbersBeside.{AreKept, beside-kept, none-kept, table-kept}
use Rattle.pl_numbers.proofs.NumbersRead as figures
use Rattle.pl_adjust.specs.Columns.{by_place}
use Rattle.pl_adjust.specs.Revised.{AreKnown, revised}
use Rattle.pl_adjust.specs.Revisions.{revisions_of}
use Rattle.pl_adjust.proofs.FirstFaults.{made_is}
use Rattle.pl_adjust.proofs.RevisedColumns.{known_from, revised_known}
use Rattle.pl_adjust.proofs.RevisionsMoved.{Apart, rows-apart}
use Rattle.pl_adjust.proofs.RevisionsRead.{AreRevisions-read}
use Rattle.pl_adjust.proofs.Sids.{Known, tables_known}
use Rattle.pl_outside.specs.declared.keeper.Table.{Table}
use Rattle.pl_outside.specs.declared.keeper.Table.TheVariants.{Splits, Mergers, Dividends}
use Rattle.pl_words.specs.declared.request.InputFile.TheVariants.{Sessions, Assets, Labels, Numbers, Results, Bars, Revisions}
use Rattle.pl_words.specs.Request.{WorldNames}
use Rattle.pl_world.proofs.Made.{AreParts, bars_once, is_world, labels_once, numbers-once}
use Rattle.pl_world.proofs.Moved.{AreRead-labels}
use Rattle.pl_load.specs.Contents.{Contents}
use Rattle.pl_load.specs.Held.{adjustments_asked, adjustments_from, adjustments_held, adjustments_of_rows, assets_held, bars_held, days_held, labels_asked, labels_in, numbers_asked, numbers_held, numbers_in, results_asked, results_in, revised_asked, revisions_in, world_held}
use Rattle.pl_lookahead.specs.Agreement.{of_table_asked, revisions_asked, revisions_held}
use Rattle.pl_lookahead.proofs.Adjusted.{placed, placed-by_day, placed-events, placed-in, placed-revised}
use Rattle.pl_lookahead.proofs.Known.{HasEachOnce}
use Rattle.pl_lookahead.proofs.Readable.{AreRead, records_in}

-- ---- numbers

pub numbers-kept : (assets : List AssetRow) (name file : Option (List ℕ))
    → ForSome name (λ n. numbers_of assets (records_in file) ≡ Ok (numbers_in assets file)) → AreKept assets (numbers_asked assets name file)
numbers-kept assets None file h = none-kept assets
numbers-kept assets (Some n) file h = table-kept assets (records_in file) (numbers_in assets file) (h n refl)

pub figures-kept : (assets : List AssetRow) (first : NumberTable) → AreKept assets first → (name file : Option (List ℕ))
    → ForSome name (λ n. numbers_beside first assets (records_in file) ≡ Ok (results_in first assets file)) → figures.AreRead assets (results_asked assets first name file).rows
figures-kept assets first kept None file h = kept.read
figures-kept assets first kept (Some n) file h = (beside-kept assets first (records_in file) (results_in first assets file) kept (h n refl)).read

numbers-held : (assets : List AssetRow) → AllPairs (λ a b. a.sid < b.sid) assets → (rows : List ColumnNumber) → figures.AreRead assets rows → NumbersOnce (map (number_of assets) rows)
numbers-held assets up rows read = numbers-once assets rows up read.cols read.once

-- ---- labels

record AreLabelRows (assets : List AssetRow) (rows : List ColumnLabel) : Type 0 where
  pub cols : All (λ r. r.col < length assets) rows
  pub once : AllPairs (λ r q. is_from r.name r.col r.start q ≡ false) rows

labels-held : (assets : List AssetRow) (name file : Option (List ℕ))
    → ForSome name (λ n. labels_of assets (records_in file) ≡ Ok (labels_in assets file)) → AreLabelRows assets (labels_asked assets name file).rows
labels-held assets None file h = record { cols = λ k d l. absurd (omega arith); once = λ i j d l m. absurd (omega arith) }
labels-held assets (Some n) file h =
    let read = AreRead-labels assets (records_in file) (labels_in assets file) (h n refl) in
    record { cols = read.cols; once = read.once }

-- ---- adjustments

append-none : {A : Type 0} (xs : List A) → xs ++ [] ≡ xs
append-none [] = refl
append-none (x ∷ xs) = ap (λ l. x ∷ l) (append-none xs)

module _ (assets : List AssetRow) where
  abbrev pub of_tables : Option (List ℕ) → (Table → List RawAdjust) → List Adjustment
  of_tables name rows = of_table_asked assets name rows Splits ++ of_table_asked assets name rows Mergers ++ of_table_asked assets name rows Dividends

  tables-placed : (name : Option (List ℕ)) (rows : Table → List RawAdjust) → ForSome name (λ n. adjustments_of_rows assets rows ≡ Ok (adjustments_from assets rows))
      → adjustments_asked assets name rows ≡ placed assets (of_tables name rows)
  unfolding by_place
  tables-placed None rows h = refl
  tables-placed (Some n) rows h = made_is assets (rows Splits) (rows Mergers) (rows Dividends) (adjustments_from assets rows) (h n refl)

  tables-known : (name : Option (List ℕ)) (rows : Table → List RawAdjust) → All (Known assets) (of_tables name rows)
  tables-known None rows = λ k d l. absurd (omega arith)
  tables-known (Some n) rows = tables_known assets (rows Splits) (rows Mergers) (rows Dividends)

  module _ (days : List ℤ) where
    revised-is : (ts : List Adjustment) (name file : Option (List ℕ))
        → revised_asked days assets (placed assets ts) name file ≡ placed assets (ts ++ map revised (revisions_asked days assets name file))
    revised-is ts None file = ap (placed assets) (sym (append-none ts))
    revised-is ts (Some n) file = placed-revised assets ts (revisions_in days assets file)

    module _ (ud : AreDays days) (ua : AreAssets assets) (name file : Option (List ℕ))
        (h : ForSome name (λ n. revisions_of days assets (records_in file) ≡ Ok (revisions_in days assets file))) where
      revisions-apart : Apart days assets (revisions_asked days assets name file)
      revisions-apart = of_name name h
        where
          of_name : (o : Option (List ℕ)) → ForSome o (λ n. revisions_of days assets (records_in file) ≡ Ok (revisions_in days assets file)) → Apart days assets (revisions_asked days assets o file)
          of_name None h = λ i j d l m. absurd (omega arith)
          of_name (Some n) h = rows-apart days assets (records_in file) (revisions_in days assets file) (h n refl)

      revisions-known : AreKnown assets (revisions_asked days assets name file)
      revisions-known = of_name name h
        where
          of_name : (o : Option (List ℕ)) → ForSome o (λ n. revisions_of days assets (records_in file) ≡ Ok (revisions_in days assets file)) → AreKnown assets (revisions_asked days assets o file)
          of_name None h = λ k d l. absurd (omega arith)
          of_name (Some n) h =
              known_from assets (revisions_in days assets file) days (AreRevisions-read days assets ud ua (records_in file) (revisions_in days assets file) (h n refl))

-- ---- the world

module _ (held : Contents) (q : WorldNames) (read : AreRead held q) where
  abbrev days : List ℤ
  days = days_held held

  abbrev assets : List AssetRow
  assets = assets_held held

  abbrev labels : LabelTable
  labels = labels_asked assets q.labels (held.file Labels)

  abbrev numbers : List ColumnNumber
  numbers = (numbers_held held q).rows

  -- the adjustments of the tables, and then the revisions
  abbrev pub told_tables : List Adjustment
  told_tables = of_tables assets q.adjustments held.rows

  abbrev pub told : List Adjustment
  told = told_tables ++ map revised (revisions_held held q)

  pub days-are : AreDays days
  days-are = AreDays-read (records_in (held.file Sessions)) days read.days

  pub assets-are : AreAssets assets
  assets-are = AreAssets-read (records_in (held.file Assets)) assets read.assets

  parts-are : AreParts days assets labels.rows (bars_held held)
  parts-are =
      let rows = labels-held assets q.labels (held.file Labels) read.labels in
      record {
        days_up = days-are.ascend;
        sids_up = assets-are.ascend;
        labels_in = rows.cols;
        starts_own = rows.once;
        bars_in = (AreInside-read days assets (records_in (held.file Bars)) (bars_held held) read.bars).cols;
        bars_up = (AreBars-read days assets (records_in (held.file Bars)) (bars_held held) days-are.few read.bars).ascend;
      }

  pub apart : Apart days assets (revisions_held held q)
  apart = revisions-apart assets days days-are assets-are q.revisions (held.file Revisions) read.revisions

  pub told-known : All (Known assets) told
  told-known =
      All-append (Known assets) told_tables (map revised (revisions_held held q)) (tables-known assets q.adjustments held.rows)
      (revised_known assets (revisions_held held q) (revisions-known assets days days-are assets-are q.revisions (held.file Revisions) read.revisions))

  pub is-placed : adjustments_held held q ≡ placed assets told
  is-placed =
      ap (λ xs. revised_asked days assets xs q.revisions (held.file Revisions)) (tables-placed assets q.adjustments held.rows read.tables)
      ∙ revised-is assets days told_tables q.revisions (held.file Revisions)

  abbrev of_placed : World
  of_placed = world_of days assets labels.rows labels.texts (bars_held held) (placed assets told) numbers

  is-world_held : world_held held q ≡ of_placed
  is-world_held = ap (λ xs. world_of days assets labels.rows labels.texts (bars_held held) xs numbers) is-placed

  each-once : HasEachOnce of_placed
  each-once =
      let inside = placed-in assets told told-known in
      let ordered = placed-by_day assets told in
      record {
        world = is_world days assets labels.rows labels.texts (bars_held held) parts-are (placed assets told) inside ordered numbers;
        bars = bars_once days assets labels.rows labels.texts (bars_held held) parts-are (placed assets told) inside ordered numbers;
        labels = labels_once days assets labels.rows labels.texts (bars_held held) parts-are (placed assets told) inside ordered numbers;
        numbers = numbers-held assets assets-are.ascend numbers (figures-kept assets _ (numbers-kept assets q.numbers (held.file Numbers) read.numbers) q.results (held.file Results) read.results);
      }

  pub held-once : HasEachOnce (world_held held q)
  held-once = rw is-world_held each-once

  pub held-events : (sid : ℕ) → events_of (world_held held q) sid ≡ map (λ x. x.event) (filter (λ x. x.sid == sid) (by_day (told_tables ++ map revised (revisions_held held q))))
  held-events sid =
      ap (λ (w : World). events_of w sid) is-world_held
      ∙ placed-events assets assets-are.ascend told told-known days labels.rows labels.texts (bars_held held) numbers sid
