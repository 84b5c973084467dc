-- Adjustments with revisions after them.
use Rattle.std.proofs.Common.{◌≡◌, ℕ, ◌+◌, ◌<◌, ◌==◌, true, ℤ, pos, List, ◌++◌, map, filter, length, get_or, All, AllPairs, Option, Some, None, IfSome, Ok, Err, refl, sym, ◌∙◌, ap, arith}
use Rattle.std.specs.Ordering.{int_eq}
use Rattle.std.proofs.lemmas.Int.{ints}
use Rattle.std.proofs.lemmas.List.{map-append}
use Rattle.std.proofs.lemmas.List.Elements.{All-append, All-map}
use Rattle.std.proofs.lemmas.List.Folds.{list_any_at}
use Rattle.std.proofs.lemmas.List.Sorted.{All-permutation}
use Rattle.std.proofs.lemmas.Option.{slice_get_within, get_or_from_slice_get}
use Rattle.pl_spec.specs.declared.AdjustmentKind.TheVariants.{Split, Merger, Dividend}
use Rattle.pl_spec.specs.declared.AssetRow.{AssetRow}
use Rattle.pl_spec.specs.declared.BarRow.{BarRow}
use Rattle.pl_spec.specs.declared.RawAdjust.{RawAdjust}
use Rattle.pl_spec.specs.Order.{adjustments_of, of_table, with_revisions}
use Rattle.pl_spec.proofs.ByDay.{by_day-kept}
use Rattle.pl_spec.specs.Parts.{ColumnAdjustment, ColumnLabel, ColumnNumber, sid_at, world_of}
use Rattle.pl_spec.specs.World.{Adjustment, events_of}
use Rattle.pl_records.specs.Reading.{Record, Fault}
use Rattle.pl_lifetimes.specs.Assets.{sid_of}
use Rattle.pl_lifetimes.proofs.SidColumns.{asset_of}
use Rattle.pl_bars.proofs.BarSearch.{IsCell-bar_cell}
use Rattle.pl_adjust.specs.declared.revisions.Revision.{Revision}
use Rattle.pl_adjust.specs.Revisions.{AreRevisions, DataFault, revisions_of}
use Rattle.pl_adjust.specs.Columns.{AreByDay, by_place, in_column}
use Rattle.pl_adjust.specs.Events.{PutsCell}
use Rattle.pl_adjust.specs.Revised.{AreKnown, IsKnown, revised, revised_by, revised_columns, revised_in}
use Rattle.pl_adjust.specs.Tables.{adjustments_in}
use Rattle.pl_adjust.proofs.ByPlace.{by_place-kept, by_place-permutes, sorted-by_place}
use Rattle.pl_adjust.proofs.FirstFaults.{made_is}
use Rattle.pl_adjust.proofs.Known.{has_sid}
use Rattle.pl_adjust.proofs.Made.{Puts, by_day_each, place_known}
use Rattle.pl_adjust.proofs.Sids.{Known, by_sid, parts_events, tables_known}

-- ---- what is kept of revisions

pub known_has : (assets : List AssetRow) (sid : ℕ) → IsKnown assets sid → has_sid (pos sid) assets ≡ true
known_has assets sid h =
    let it = asset_of assets h.0 sid h.1 in
    let there : get_or assets h.0 it.0 ≡ it.0 = get_or_from_slice_get assets h.0 it.0 it.0 it.1 in
    list_any_at (λ x. int_eq (pos x.sid) (pos sid)) assets h.0 it.0 (slice_get_within assets h.0 it.0 it.1) (test _ (ap sid_of there ∙ it.2))
  where
    test : (n : ℕ) → n ≡ sid → int_eq (pos n) (pos sid) ≡ true
    test n e = grind (arith, ints)

module _ (assets : List AssetRow) (rows : List Revision) where
  pub revised_known : AreKnown assets rows → All (Known assets) (map revised rows)
  revised_known all = All-map (Known assets) revised rows (λ k d h. known_has assets (get_or rows k d).sid (all k d h))

  pub revised_cols : AreKnown assets rows → All (λ x. x.col < length assets) (revised_columns assets rows)
  revised_cols all =
      All-map (λ (x : ColumnAdjustment). x.col < length assets) (in_column assets) (map revised rows)
      (λ k d h. place_known (pos (get_or (map revised rows) k d).sid) assets (revised_known all k d h))

  pub known_from : (days : List ℤ) → AreRevisions days assets rows → AreKnown assets rows
  known_from days h k d l = (h.each k d l).asset

  pub revised_puts : (days : List ℤ) → AreRevisions days assets rows → All Puts (revised_columns assets rows)
  revised_puts days h =
      All-map Puts (in_column assets) (map revised rows)
      (All-map (λ (z : Adjustment). PutsCell z.event) revised rows (λ k d l. IsCell-bar_cell (get_or rows k d).value (h.each k d l).cell))

pub cols_with : (assets : List AssetRow) (old rows : List ColumnAdjustment) → All (λ x. x.col < length assets) rows
    → All (λ x. x.col < length assets) old → All (λ x. x.col < length assets) (by_place (old ++ rows))
cols_with assets old rows more all =
    All-permutation (λ (x : ColumnAdjustment). x.col < length assets) (old ++ rows) (by_place (old ++ rows)) (by_place-permutes (old ++ rows))
    (All-append (λ (x : ColumnAdjustment). x.col < length assets) old rows all more)

pub days_with : (xs : List ColumnAdjustment) → AreByDay (by_place xs)
days_with xs = by_day_each (by_place xs) (sorted-by_place xs)

-- ---- the order in which they act

pub revised_events : (days : List ℤ) (assets : List AssetRow) (labels : List ColumnLabel) (texts : List (List ℕ)) (bars : List BarRow) (splits mergers dividends : List RawAdjust) (xs : List ColumnAdjustment)
    (revisions : List Revision) (numbers : List ColumnNumber)
    → AllPairs (λ a b. a.sid < b.sid) assets → adjustments_in assets splits mergers dividends ≡ Ok xs → AreKnown assets revisions → (sid : ℕ)
    → events_of (world_of days assets labels texts bars (revised_by assets xs revisions) numbers) sid
    ≡ map (λ x. x.event) (filter (λ x. x.sid == sid) (with_revisions (adjustments_of assets splits mergers dividends) (map revised revisions)))
revised_events days assets labels texts bars splits mergers dividends xs revisions numbers up e known sid =
    let first = of_table assets Split splits ++ of_table assets Merger mergers ++ of_table assets Dividend dividends in
    let more = map revised revisions in
    let is : revised_by assets xs revisions ≡ by_place (map (in_column assets) (first ++ more)) =
    ap (λ l. revised_by assets l revisions) (made_is assets splits mergers dividends xs e)
    ∙ by_place-kept (map (in_column assets) first) (map (in_column assets) more)
    ∙ ap by_place (sym (map-append (in_column assets) first more)) in
    parts_events days assets labels texts bars (revised_by assets xs revisions) numbers up sid
    ∙ ap (λ l. map (λ (x : ColumnAdjustment). x.event) (filter (λ x. sid_at assets x.col == sid) l)) is
    ∙ by_sid assets up (first ++ more) (All-append (Known assets) first more (tables_known assets splits mergers dividends) (revised_known assets revisions known)) sid
    ∙ ap (λ l. map (λ (x : Adjustment). x.event) (filter (λ x. x.sid == sid) l)) (sym (by_day-kept first more))

-- ---- the call

pub added : (days : List ℤ) (assets : List AssetRow) (old new : List ColumnAdjustment) (records : List Record) (rows : List Revision) → revisions_of days assets records ≡ Ok rows
    → new ≡ revised_by assets old rows → revised_in days assets old records ≡ Ok new
unfolding revised_in
added days assets old new records rows e f = rw (e, f) refl

pub refused_by : (days : List ℤ) (assets : List AssetRow) (old : List ColumnAdjustment) (records : List Record) (o : Option (Fault DataFault)) → IfSome o (λ f. revisions_of days assets records ≡ Err f)
    → IfSome o (λ f. revised_in days assets old records ≡ Err f)
unfolding revised_in
refused_by days assets old records None h = tt
refused_by days assets old records (Some f) h = rw h refl
