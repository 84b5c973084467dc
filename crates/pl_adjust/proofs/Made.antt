-- The adjustments that three tables make.
use Rattle.std.proofs.Common.{◌≡◌, ℕ, suc, ◌+◌, ◌<◌, ◌==◌, ◌||◌, Bool, true, false, cond, not, ℤ, pos, ◌≤ℤ◌, List, [], ◌∷◌, ◌++◌, map, filter, length, get_or, All, AllPairs, Option, Some, None, IfSome, Ok, Err, refl, sym, ◌∙◌, ap, arith, unsigned_abs}
use Rattle.std.specs.List.{list_any, position_or_len}
use Rattle.std.specs.List.Sorted.{IsSorted}
use Rattle.std.specs.Ordering.{int_eq}
use Rattle.std.proofs.lemmas.Bool.Decides.{nat_tests}
use Rattle.std.proofs.lemmas.Int.{ints}
use Rattle.std.proofs.lemmas.List.{length-map}
use Rattle.std.proofs.lemmas.List.Elements.{All-append, All-map, filter_passes}
use Rattle.std.proofs.lemmas.List.Kept.{AllPairs-filter}
use Rattle.std.proofs.lemmas.List.Sorted.{All-permutation, sorted_far}
use Rattle.std.proofs.lemmas.Simd.{zip2_of_maps}
use Rattle.pl_spec.specs.declared.AdjustmentKind.{AdjustmentKind}
use Rattle.pl_spec.specs.declared.AdjustmentKind.TheVariants.{Split, Merger, Dividend}
use Rattle.pl_spec.specs.declared.AssetRow.{AssetRow}
use Rattle.pl_spec.specs.declared.RawAdjust.{RawAdjust}
use Rattle.pl_spec.specs.Order.{adjustment_in, is_of, of_table}
use Rattle.pl_spec.specs.Parts.{ColumnAdjustment}
use Rattle.pl_spec.specs.World.{Adjustment}
use Rattle.pl_adjust.specs.declared.adjust.Adjust.{Adjust}
use Rattle.pl_adjust.specs.declared.columns.Row.{Row}
use Rattle.pl_adjust.specs.Events.{PutsCell, event_of}
use Rattle.pl_adjust.specs.Columns.{AreKept, IsByPlace, AreByDay, by_place, in_column, in_columns, place_cmp}
use Rattle.pl_adjust.specs.Rows.{row_of}
use Rattle.pl_adjust.specs.Tables.{adjustments_in, of_walk, ok_unless}
use Rattle.pl_adjust.specs.Walk.{Fault, first_fault, walk}
use Rattle.pl_adjust.proofs.Kept.{in_front, front_order, not_in_front}
use Rattle.pl_adjust.proofs.ByPlace.{by_place_is}

-- ---- what is kept of rows

pub view_is : (rows : List Row) (cols : List ℕ) (adjusts : List Adjust) → cols ≡ map (λ r. r.col) rows → adjusts ≡ map (λ r. r.adjust) rows → in_columns cols adjusts ≡ map row_of rows
view_is rows cols adjusts e f = zip2_of_maps (λ col x. record { col = col; event = event_of x }) (λ (r : Row). r.col) (λ (r : Row). r.adjust) rows e f

abbrev pub Puts : ColumnAdjustment → Type 0
Puts x = PutsCell x.event

pub kept_from : (rows : List Row) (cols : List ℕ) (adjusts : List Adjust)
    → IsSorted place_cmp (map row_of rows) → All Puts (map row_of rows)
    → cols ≡ map (λ r. r.col) rows → adjusts ≡ map (λ r. r.adjust) rows → AreKept cols adjusts
kept_from rows cols adjusts sorted puts e f = record {
  as_many = ap length f ∙ length-map rows (λ (r : Row). r.adjust) ∙ sym (length-map rows (λ (r : Row). r.col)) ∙ ap length (sym e);
  sorted = rw (view_is rows cols adjusts e f) sorted;
  puts = rw (view_is rows cols adjusts e f) puts;
}

-- ---- those of a column stand by day

abbrev InTurn : ColumnAdjustment → ColumnAdjustment → Type 0
InTurn x y = x.col ≡ y.col → x.event.day ≤ℤ y.event.day

in_turn : (ys : List ColumnAdjustment) → IsSorted place_cmp ys → AllPairs InTurn ys
in_turn ys up i j d h l = (not_in_front _ _ _ _ (sorted_far in_front front_order ys up i j d (omega arith) l)).1

turns_each : (ys : List ColumnAdjustment) → AllPairs InTurn ys → AreByDay ys
turns_each ys turns col i j d h l =
    let all = filter_passes (λ (x : ColumnAdjustment). x.col == col) ys in
    AllPairs-filter InTurn (λ x. x.col == col) ys turns i j d h l (one _ _ (all i d (omega arith)) (all j d l))
  where
    one : (a b : ℕ) → (a == col) ≡ true → (b == col) ≡ true → a ≡ b
    one a b t u = grind (arith, nat_tests)

pub by_day_each : (ys : List ColumnAdjustment) → IsSorted place_cmp ys → AreByDay ys
by_day_each ys up = turns_each ys (in_turn ys up)

-- ---- each column is one of an asset

pub place_known : (z : ℤ) (assets : List AssetRow) → list_any (λ a. int_eq (pos a.sid) z) assets ≡ true → position_or_len (λ a. a.sid == unsigned_abs z) assets < length assets
place_known z [] e = absurd (cc)
place_known z (a ∷ assets) e = here (a.sid == unsigned_abs z) (int_eq (pos a.sid) z) refl refl e (place_known z assets)
  where
    same : (n : ℕ) → int_eq (pos n) z ≡ true → n ≡ unsigned_abs z
    same n t = let it : pos n ≡ z = grind (arith, ints) in ap unsigned_abs it

    here : (b c : Bool) → (a.sid == unsigned_abs z) ≡ b → int_eq (pos a.sid) z ≡ c → (c || list_any (λ (x : AssetRow). int_eq (pos x.sid) z) assets) ≡ true
        → (list_any (λ (x : AssetRow). int_eq (pos x.sid) z) assets ≡ true → position_or_len (λ (x : AssetRow). x.sid == unsigned_abs z) assets < length assets)
        → cond (not b) (1 + position_or_len (λ (x : AssetRow). x.sid == unsigned_abs z) assets) 0 < suc (length assets)
    here true c t u e more = omega arith
    here false true t u e more = let it : a.sid ≡ unsigned_abs z = same a.sid u in absurd (grind (arith, nat_tests))
    here false false t u e more = let rest = more e in omega arith

module _ (assets : List AssetRow) where
  walked : (P : ColumnAdjustment → Type 0) → ((kind : AdjustmentKind) (raw : List RawAdjust) → All (λ x. P (in_column assets x)) (of_table assets kind raw))
      → (splits mergers dividends : List RawAdjust) → All P (of_walk assets splits mergers dividends)
  walked P each splits mergers dividends =
      All-map P (in_column assets) (of_table assets Split splits ++ of_table assets Merger mergers ++ of_table assets Dividend dividends)
      (All-append (λ x. P (in_column assets x)) _ _ (All-append (λ x. P (in_column assets x)) _ _ (each Split splits) (each Merger mergers)) (each Dividend dividends))

  abbrev HasAsset : ColumnAdjustment → Type 0
  HasAsset x = x.col < length assets

  table_in : (kind : AdjustmentKind) (raw : List RawAdjust) → All (λ x. HasAsset (in_column assets x)) (of_table assets kind raw)
  table_in kind raw =
      All-map (λ (x : Adjustment). HasAsset (in_column assets x)) (adjustment_in kind) (filter (is_of assets) raw)
      (λ k d h. place_known (get_or (filter (is_of assets) raw) k d).sid assets (filter_passes (is_of assets) raw k d h))

  -- ratios overwrite no cell
  table_puts : (kind : AdjustmentKind) (raw : List RawAdjust) → All (λ x. Puts (in_column assets x)) (of_table assets kind raw)
  table_puts kind raw = All-map (λ (x : Adjustment). Puts (in_column assets x)) (adjustment_in kind) (filter (is_of assets) raw) (λ k d h. tt)

  pub tables_put : (splits mergers dividends : List RawAdjust) (before : List ColumnAdjustment)
      → before ≡ of_walk assets splits mergers dividends → All Puts before
  tables_put splits mergers dividends before e = rw e (walked Puts table_puts splits mergers dividends)

  pub cols_known : (splits mergers dividends : List RawAdjust) (before ys : List ColumnAdjustment)
      → before ≡ of_walk assets splits mergers dividends → IsByPlace before ys → All HasAsset ys
  cols_known splits mergers dividends before ys e h = All-permutation HasAsset before ys h.same (rw e (walked HasAsset table_in splits mergers dividends))

  pub made : (splits mergers dividends : List RawAdjust) (before ys : List ColumnAdjustment) → first_fault 0 (walk splits mergers dividends) ≡ None
      → before ≡ of_walk assets splits mergers dividends → IsByPlace before ys
      → adjustments_in assets splits mergers dividends ≡ Ok ys
  unfolding adjustments_in
  made splits mergers dividends before ys none e h =
      ap (λ o. ok_unless o (by_place (of_walk assets splits mergers dividends))) none ∙ ap Ok (sym (by_place_is (of_walk assets splits mergers dividends) ys (rw e at h)))

  pub refused : (splits mergers dividends : List RawAdjust) (told : Option Fault) → IfSome told (λ f. first_fault 0 (walk splits mergers dividends) ≡ Some f)
      → IfSome told (λ f. adjustments_in assets splits mergers dividends ≡ Err f)
  unfolding adjustments_in
  refused splits mergers dividends None h = tt
  refused splits mergers dividends (Some f) h = rw h refl
