-- The world of contents that were read: files can hold it.
use Rattle.std.proofs.Common.{◌≡◌, ◌≢◌, ℕ, ◌+◌, ◌<◌, ◌≤◌, ◌==◌, false, IsTrue, ℤ, List, [], ◌++◌, map, filter, length, All, Option, Some, None, Ok, refl, ◌∙◌, ap, arith, inl, inr, length-append}
use Rattle.std.specs.Option.{ForSome}
use Rattle.std.proofs.lemmas.List.{length-map}
use Rattle.std.proofs.lemmas.List.Elements.{All-append, All-filter, All-map}
use Rattle.std.proofs.lemmas.List.Sorted.{All-permutation, length_permutation}
use Rattle.pl_spec.specs.Limits.{most_adjustments, most_revisions}
use Rattle.pl_spec.specs.Dates.{IsDay}
use Rattle.pl_spec.specs.Names.{is_name}
use Rattle.pl_spec.specs.Order.{by_day}
use Rattle.pl_spec.specs.Parts.{ColumnAdjustment, ColumnLabel, ColumnNumber, adjustment_of}
use Rattle.pl_spec.specs.World.{World, Adjustment, Event, events_of}
use Rattle.pl_spec.specs.declared.AdjustmentKind.{AdjustmentKind}
use Rattle.pl_spec.specs.declared.AdjustmentKind.TheVariants.{Split, Merger, Dividend, Revision}
use Rattle.pl_spec.specs.declared.AssetRow.{AssetRow}
use Rattle.pl_spec.specs.declared.RawAdjust.{RawAdjust}
use Rattle.pl_spec.proofs.Columns.{sid-found}
use Rattle.pl_records.specs.Reading.{Record}
use Rattle.pl_records.proofs.Readings.{made-of}
use Rattle.pl_records.proofs.Sorts.{sorted-permutes}
use Rattle.pl_calendar.specs.Days.{AreDays}
use Rattle.pl_lifetimes.specs.Assets.{AreAssets}
use Rattle.pl_assets.specs.Labels.{labels_of}
use Rattle.pl_assets.proofs.LabelsRead as labels_read
use Rattle.pl_bars.proofs.BarsRead.{AreBars-read, AreInside-read}
use Rattle.pl_numbers.specs.Numbers.{NumberTable, key_in, names_of, number_rows_in, numbers_of, table_of}
use Rattle.pl_numbers.specs.Beside.{numbers_beside}
use Rattle.pl_numbers.proofs.NumbersBeside.{AreKept, beside-kept}
use Rattle.pl_adjust.specs.Columns.{by_place, in_column}
use Rattle.pl_adjust.specs.Revised.{revised}
use Rattle.pl_adjust.specs.Revisions.{AreRevisions, revisions_of}
use Rattle.pl_adjust.proofs.ByPlace.{by_place-permutes}
use Rattle.pl_adjust.proofs.RevisionsRead.{AreRevisions-read}
use Rattle.pl_adjust.proofs.Sids.{All-by_day}
use Rattle.pl_outside.specs.declared.keeper.Table.{Table}
use Rattle.pl_outside.specs.declared.keeper.Table.TheVariants.{Splits, Mergers, Dividends}
use Rattle.pl_words.specs.declared.request.InputFile.TheVariants.{Assets, Labels, Numbers, Results, Bars, Revisions}
use Rattle.pl_words.specs.Request.{WorldNames}
use Rattle.pl_world.proofs.Moved.{AreRead-labels}
use Rattle.pl_load.specs.Contents.{Contents}
use Rattle.pl_load.specs.Held.{adjustments_from, adjustments_held, adjustments_of_rows, assets_held, bars_held, days_held, labels_asked, labels_in, numbers_asked, numbers_held, numbers_in, results_asked, results_in, revisions_in, world_held}
use Rattle.pl_lookahead.specs.Agreement.{of_table_asked, revisions_asked, revisions_held}
use Rattle.pl_lookahead.proofs.Adjusted.{placed-in}
use Rattle.pl_lookahead.proofs.Held.{assets-are, days-are, figures-kept, held-events, is-placed, numbers-kept, told-known}
use Rattle.pl_lookahead.proofs.Readable.{AreRead, records_in}
use Rattle.pl_parts.specs.Texts.{is_kind}
use Rattle.pl_pieces.specs.Held.{IsSidOf}
use Rattle.pl_pieces.specs.Readable.{FilesCanHold}
use Rattle.pl_pieces.specs.Tables.{AreAdjustmentsOf, IsEventIn}
use Rattle.pl_pieces.proofs.OfParts.{bars-hold, has-col, labels-hold, numbers-hold}
use Rattle.pl_pieces.proofs.Told.{kinds-in-order, revised-kinds, revisions-told, table-kinds, tables-few, tables-told}
use Rattle.pl_pieces.proofs.WasRead.{lifetimes-read, names-read, starts-read}

-- ---- rows that may not be asked for

record AreLabelRows (assets : List AssetRow) (rows : List ColumnLabel) : Type 0 where
  pub read : labels_read.AreRead assets rows
  pub starts : All (λ r. IsDay r.start) rows

labels-said : (assets : List AssetRow) (name file : Option (List ℕ))
    → ForSome name (λ n. labels_of assets (records_in file) ≡ Ok (labels_in assets file)) → AreLabelRows assets (labels_asked assets name file).rows
labels-said assets None file h = record {
  read = record { right = λ k d l. absurd (omega arith); once = λ i j d l m. absurd (omega arith); few = omega arith; cols = λ k d l. absurd (omega arith) };
  starts = λ k d l. absurd (omega arith);
}
labels-said assets (Some n) file h = record {
  read = AreRead-labels assets (records_in file) (labels_in assets file) (h n refl);
  starts = starts-read assets (records_in file) (labels_in assets file) (h n refl);
}

-- the names of a table that was read are names of the language, and so are those of two
abbrev AreRight : List ColumnNumber → Type 0
AreRight rows = All (λ r. IsTrue (is_name r.name)) rows

table-right : (assets : List AssetRow) (records : List Record) (table : NumberTable) → numbers_of assets records ≡ Ok table → AreRight table.rows
unfolding numbers_of
table-right assets records table e =
    let it = made-of table_of (number_rows_in assets records) table e in
    rw (← it.2) (All-permutation (λ (r : ColumnNumber). IsTrue (is_name r.name)) it.0 (table_of it.0).rows (sorted-permutes (key_in (names_of it.0)) it.0) (names-read assets records it.0 it.1))

numbers-right : (assets : List AssetRow) (name file : Option (List ℕ)) → ForSome name (λ n. numbers_of assets (records_in file) ≡ Ok (numbers_in assets file))
    → AreRight (numbers_asked assets name file).rows
numbers-right assets None file h = λ k d l. absurd (omega arith)
numbers-right assets (Some n) file h = table-right assets (records_in file) (numbers_in assets file) (h n refl)

figures-right : (assets : List AssetRow) (first : NumberTable) → AreKept assets first → AreRight first.rows → (name file : Option (List ℕ))
    → ForSome name (λ n. numbers_beside first assets (records_in file) ≡ Ok (results_in first assets file)) → AreRight (results_asked assets first name file).rows
figures-right assets first kept right None file h = right
figures-right assets first kept right (Some n) file h =
    let it = beside-kept assets first (records_in file) (results_in first assets file) kept (h n refl) in
    rw (← it.is) (All-append (λ (r : ColumnNumber). IsTrue (is_name r.name)) first.rows it.other.rows right (table-right assets (records_in file) it.other it.own))

module _ (days : List ℤ) (assets : List AssetRow) where
  abbrev IsTold : Adjustment → Type 0
  IsTold x = IsEventIn days x.event

  -- the rows of the tables and what they tell
  record AreTables (s m d : List Adjustment) : Type 0 where
    pub told : All IsTold (s ++ m ++ d)
    pub few : length (s ++ m ++ d) ≤ most_adjustments
    pub splits : All (λ x. x.event.kind ≡ Split) s
    pub mergers : All (λ x. x.event.kind ≡ Merger) m
    pub dividends : All (λ x. x.event.kind ≡ Dividend) d

  tables-said : (name : Option (List ℕ)) (rows : Table → List RawAdjust) → ForSome name (λ n. adjustments_of_rows assets rows ≡ Ok (adjustments_from assets rows))
      → AreTables (of_table_asked assets name rows Splits) (of_table_asked assets name rows Mergers) (of_table_asked assets name rows Dividends)
  tables-said None rows h = record {
    told = λ k d l. absurd (omega arith);
    few = omega arith;
    splits = λ k d l. absurd (omega arith);
    mergers = λ k d l. absurd (omega arith);
    dividends = λ k d l. absurd (omega arith);
  }
  tables-said (Some n) rows h = record {
    told = tables-told days assets (rows Splits) (rows Mergers) (rows Dividends) (adjustments_from assets rows) (h n refl);
    few = tables-few days assets (rows Splits) (rows Mergers) (rows Dividends) (adjustments_from assets rows) (h n refl);
    splits = table-kinds assets Split (rows Splits);
    mergers = table-kinds assets Merger (rows Mergers);
    dividends = table-kinds assets Dividend (rows Dividends);
  }

  revisions-said : AreDays days → AreAssets assets → (name file : Option (List ℕ))
      → ForSome name (λ n. revisions_of days assets (records_in file) ≡ Ok (revisions_in days assets file)) → AreRevisions days assets (revisions_asked days assets name file)
  revisions-said ud ua None file h = record { few = omega arith; each = λ k d l. absurd (omega arith) }
  revisions-said ud ua (Some n) file h = AreRevisions-read days assets ud ua (records_in file) (revisions_in days assets file) (h n refl)

-- ---- the world

module _ (held : Contents) (q : WorldNames) (read : AreRead held q) where
  abbrev days : List ℤ
  days = days_held held

  abbrev assets : List AssetRow
  assets = assets_held held

  abbrev w : World
  w = world_held held q

  ud : AreDays days
  ud = days-are held q read

  ua : AreAssets assets
  ua = assets-are held q read

  abbrev of_table_named : Table → List Adjustment
  of_table_named table = of_table_asked assets q.adjustments held.rows table

  abbrev tables : List Adjustment
  tables = of_table_named Splits ++ of_table_named Mergers ++ of_table_named Dividends

  abbrev revisions : List Adjustment
  revisions = map revised (revisions_held held q)

  tables-are : AreTables days assets (of_table_named Splits) (of_table_named Mergers) (of_table_named Dividends)
  tables-are = tables-said days assets q.adjustments held.rows read.tables

  revisions-are : AreRevisions days assets (revisions_held held q)
  revisions-are = revisions-said days assets ud ua q.revisions (held.file Revisions) read.revisions

  -- what holds of all rows holds of the events of each asset
  pub events-said : (P : Event → Type 0) → All (λ x. P x.event) (tables ++ revisions) → (a : ℕ) → All P (events_of w a)
  events-said P h a =
      rw (held-events held q read a)
      (All-map P (λ (x : Adjustment). x.event) (filter (λ x. x.sid == a) (by_day (tables ++ revisions)))
      (All-filter (λ x. x.sid == a) (λ (x : Adjustment). P x.event) (by_day (tables ++ revisions)) (All-by_day (λ (x : Adjustment). P x.event) (tables ++ revisions) h)))

  cols-in : All (λ x. x.col < length assets) (adjustments_held held q)
  cols-in = rw (is-placed held q read) (placed-in assets (tables ++ revisions) (told-known held q read))

  known : (a : ℕ) → events_of w a ≢ [] → IsSidOf assets a
  known a some = elim (sid-found assets (adjustments_held held q) a cols-in) [
    | inl none ↦ absurd (some none)
    | inr it ↦ (let at = has-col days assets ua.ascend it.0 it.1 in (at.0, at.1 ∙ ap Some it.2))
  ]

  few : length w.adjustments ≤ most_adjustments + most_revisions
  few =
      let told : List Adjustment = tables ++ revisions in
      let columns : List ColumnAdjustment = map (in_column assets) told in
      let one : length w.adjustments ≡ length (adjustments_held held q) = length-map (adjustments_held held q) (adjustment_of assets) in
      let two : length (adjustments_held held q) ≡ length (by_place columns) = ap length (is-placed held q read) in
      let three : length (by_place columns) ≡ length columns = length_permutation columns (by_place columns) (by_place-permutes columns) in
      let four : length columns ≡ length told = length-map told (in_column assets) in
      omega (arith, length-append tables revisions, length-map (revisions_held held q) revised, tables-are.few, revisions-are.few)

  adjustments-hold : AreAdjustmentsOf w
  adjustments-hold = record {
    known = known;
    each = events-said (IsEventIn days) (All-append (λ x. IsEventIn days x.event) tables revisions tables-are.told (revisions-told days assets (revisions_held held q) revisions-are));
    order = λ a.
        rw (held-events held q read a)
        (kinds-in-order (of_table_named Splits) (of_table_named Mergers) (of_table_named Dividends) revisions tables-are.splits tables-are.mergers tables-are.dividends
        (revised-kinds (revisions_held held q)) (λ x. x.sid == a));
    few = few;
  }

  pub files-can-hold : FilesCanHold w
  files-can-hold =
      let rows = labels-said assets q.labels (held.file Labels) read.labels in
      let first = numbers_asked assets q.numbers (held.file Numbers) in
      let kept = numbers-kept assets q.numbers (held.file Numbers) read.numbers in
      record {
        days = ud;
        assets = ua;
        lifetimes = lifetimes-read (records_in (held.file Assets)) assets read.assets;
        bars = bars-hold days assets ua.ascend (bars_held held) (AreInside-read days assets (records_in (held.file Bars)) (bars_held held) read.bars)
            (AreBars-read days assets (records_in (held.file Bars)) (bars_held held) ud.few read.bars) w refl refl refl;
        labels = labels-hold days assets ua.ascend (labels_asked assets q.labels (held.file Labels)).rows rows.read rows.starts w refl refl;
        numbers = numbers-hold days assets ua.ascend (numbers_held held q).rows (figures-kept assets first kept q.results (held.file Results) read.results)
            (figures-right assets first kept (numbers-right assets q.numbers (held.file Numbers) read.numbers) q.results (held.file Results) read.results) w refl refl;
        adjustments = adjustments-hold;
      }

  -- ---- what is not asked for is not there

  no-table : (name : Option (List ℕ)) (table : Table) → name ≡ None → of_table_asked assets name held.rows table ≡ []
  no-table name table e = rw e refl

  no-revisions : (name file : Option (List ℕ)) → name ≡ None → revisions_asked days assets name file ≡ []
  no-revisions name file e = rw e refl

  pub without-tables : q.adjustments ≡ None → (kind : AdjustmentKind) → is_kind kind Revision ≡ false → (a : ℕ) → All (λ e. is_kind kind e.kind ≡ false) (events_of w a)
  without-tables none kind other a =
      events-said (λ e. is_kind kind e.kind ≡ false)
      (rw (no-table q.adjustments Splits none, no-table q.adjustments Mergers none, no-table q.adjustments Dividends none)
      (λ k d l. ap (is_kind kind) (revised-kinds (revisions_held held q) k d l) ∙ other)) a

  pub without-revisions : q.revisions ≡ None → (a : ℕ) → All (λ e. is_kind Revision e.kind ≡ false) (events_of w a)
  without-revisions none a =
      let P : Adjustment → Type 0 = λ x. is_kind Revision x.event.kind ≡ false in
      let of_kind : (kind : AdjustmentKind) (xs : List Adjustment) → is_kind Revision kind ≡ false → All (λ (x : Adjustment). x.event.kind ≡ kind) xs → All P xs =
      (λ kind xs other h k d l. ap (is_kind Revision) (h k d l) ∙ other) in
      let s = of_table_named Splits in let m = of_table_named Mergers in let d = of_table_named Dividends in
      events-said (λ e. is_kind Revision e.kind ≡ false)
      (All-append P tables revisions
      (All-append P (s ++ m) d (All-append P s m (of_kind Split s refl tables-are.splits) (of_kind Merger m refl tables-are.mergers)) (of_kind Dividend d refl tables-are.dividends))
      (rw (no-revisions q.revisions (held.file Revisions) none) (λ k x l. absurd (omega arith)))) a
