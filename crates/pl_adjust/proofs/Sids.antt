-- Adjustments by column are those by sid.
use Rattle.std.proofs.Common.{◌≡◌, ℕ, suc, ◌+◌, ◌<◌, ◌==◌, ◌&&◌, not, nat_lt, Bool, true, false, cond, ℤ, pos, negsuc, List, [], ◌∷◌, ◌++◌, map, filter, length, get_or, All, AllPairs, slice_get, Some, option_map, unwrap_or, Ok, refl, sym, ◌∙◌, ap, arith, unsigned_abs}
use Rattle.std.specs.Int.RustNames.{int_le}
use Rattle.std.specs.Ordering.{int_eq}
use Rattle.std.proofs.lemmas.Bool.{and_parts}
use Rattle.std.proofs.lemmas.Bool.Decides.{nat_tests}
use Rattle.std.proofs.lemmas.List.Elements.{All-append, All-cons, All-map, filter_passes}
use Rattle.std.proofs.lemmas.List.Folds.{list_any_none}
use Rattle.std.proofs.lemmas.List.Sorted.{All-permutation}
use Rattle.std.proofs.lemmas.Option.{slice_get_within}
use Rattle.pl_spec.specs.declared.AdjustmentKind.{AdjustmentKind}
use Rattle.pl_spec.specs.declared.AdjustmentKind.TheVariants.{Split, Merger, Dividend}
use Rattle.pl_spec.specs.declared.AssetRow.{AssetRow}
use Rattle.pl_spec.specs.declared.BarRow.{BarRow}
use Rattle.pl_spec.specs.declared.RawAdjust.{RawAdjust}
use Rattle.pl_spec.specs.Order.{adjustment_in, adjustments_of, by_day, insert_by_day, is_of, of_table}
use Rattle.pl_spec.specs.Parts.{ColumnAdjustment, ColumnLabel, ColumnNumber, adjustment_of, sid_at, world_of}
use Rattle.pl_spec.specs.World.{Adjustment, events_of}
use Rattle.pl_spec.proofs.Lists.{filter-map, filter-same}
use Rattle.pl_lifetimes.proofs.Columns.{one_col, same_col}
use Rattle.pl_adjust.specs.Columns.{by_place, col_in, events_at, in_column}
use Rattle.pl_adjust.specs.Tables.{adjustments_in}
use Rattle.pl_adjust.proofs.ByPlace.{by_place-column, by_place-permutes}
use Rattle.pl_adjust.proofs.FirstFaults.{made_is}
use Rattle.pl_adjust.proofs.Known.{has_sid, same_sid}
use Rattle.pl_adjust.proofs.Made.{place_known}

-- ---- a world of parts

events-adjustment_of : (assets : List AssetRow) (xs : List ColumnAdjustment) → map (λ (x : Adjustment). x.event) (map (adjustment_of assets) xs) ≡ map (λ (x : ColumnAdjustment). x.event) xs
events-adjustment_of assets [] = refl
events-adjustment_of assets (x ∷ xs) = ap (λ l. x.event ∷ l) (events-adjustment_of assets xs)

module _ (days : List ℤ) (assets : List AssetRow) (labels : List ColumnLabel) (texts : List (List ℕ)) (bars : List BarRow) (xs : List ColumnAdjustment) (numbers : List ColumnNumber) (up : AllPairs (λ a b. a.sid < b.sid) assets) where
  pub parts_events : (sid : ℕ) → events_of (world_of days assets labels texts bars xs numbers) sid ≡ map (λ x. x.event) (filter (λ x. sid_at assets x.col == sid) xs)
  parts_events sid =
      ap (map (λ (x : Adjustment). x.event)) (filter-map (λ (x : Adjustment). x.sid == sid) (adjustment_of assets) xs)
      ∙ events-adjustment_of assets (filter (λ x. sid_at assets x.col == sid) xs)

  pub column_events : All (λ x. x.col < length assets) xs → (col : ℕ) (a : AssetRow) → slice_get assets col ≡ Some a → events_of (world_of days assets labels texts bars xs numbers) a.sid ≡ events_at xs col
  column_events all col a e =
      let col_in : col < length assets = slice_get_within assets col a e in
      let sid : a.sid ≡ sid_at assets col = sym (ap (λ o. unwrap_or (option_map (λ (b : AssetRow). b.sid) o) 0) e) in
      parts_events a.sid
      ∙ ap (map (λ (x : ColumnAdjustment). x.event)) (filter-same (λ x. sid_at assets x.col == a.sid) (λ x. x.col == col) xs
      (λ k d h. rw sid (same_col assets up (get_or xs k d).col col (all k d h) col_in)))

-- ---- the sids of adjustments are those of assets

All-insert_by_day : (P : Adjustment → Type 0) (x : Adjustment) (ys : List Adjustment) → P x → All P ys → All P (insert_by_day x ys)
All-insert_by_day P x [] h all = All-cons P x [] h all
All-insert_by_day P x (y ∷ ys) h all = here (int_le x.event.day y.event.day) (All-insert_by_day P x ys h (λ k d l. all (suc k) d (omega arith)))
  where
    here : (b : Bool) → All P (insert_by_day x ys) → All P (cond b (x ∷ y ∷ ys) (y ∷ insert_by_day x ys))
    here true rest = All-cons P x (y ∷ ys) h all
    here false rest = All-cons P y (insert_by_day x ys) (all 0 y (omega arith)) rest

pub All-by_day : (P : Adjustment → Type 0) (xs : List Adjustment) → All P xs → All P (by_day xs)
All-by_day P [] all = all
All-by_day P (x ∷ xs) all = All-insert_by_day P x (by_day xs) (all 0 x (omega arith)) (All-by_day P xs (λ k d l. all (suc k) d (omega arith)))

has_sid_abs : (assets : List AssetRow) (z : ℤ) → has_sid z assets ≡ true → has_sid (pos (unsigned_abs z)) assets ≡ true
has_sid_abs assets (pos n) e = e
has_sid_abs assets (negsuc n) e =
    let none : has_sid (negsuc n) assets ≡ false = list_any_none (λ a. int_eq (pos a.sid) (negsuc n)) assets (λ k d h. refl) in
    let bad : true ≡ false = sym e ∙ none in absurd (cc)

pub sid_of_col : (assets : List AssetRow) (s : ℕ) → has_sid (pos s) assets ≡ true → sid_at assets (col_in assets s) ≡ s
sid_of_col [] s e = absurd (let bad : false ≡ true = e in cc)
sid_of_col (a ∷ assets) s e = here (a.sid == s) refl (sid_of_col assets s)
  where
    here : (b : Bool) → (a.sid == s) ≡ b → (has_sid (pos s) assets ≡ true → sid_at assets (col_in assets s) ≡ s) → sid_at (a ∷ assets) (cond (not b) (1 + col_in assets s) 0) ≡ s
    here true t more = grind (arith, nat_tests)
    here false t more =
        let other : int_eq (pos a.sid) (pos s) ≡ false = same_sid s a.sid ∙ t in
        let rest : has_sid (pos s) assets ≡ true = rw other at e in
        let next : 1 + col_in assets s ≡ suc (col_in assets s) = omega arith in
        rw next (more rest)

module _ (assets : List AssetRow) where
  abbrev pub Known : Adjustment → Type 0
  Known z = has_sid (pos z.sid) assets ≡ true

  table_known : (kind : AdjustmentKind) (raw : List RawAdjust) → All Known (of_table assets kind raw)
  table_known kind raw =
      All-map Known (adjustment_in kind) (filter (is_of assets) raw)
      (λ k d h. has_sid_abs assets (get_or (filter (is_of assets) raw) k d).sid (filter_passes (is_of assets) raw k d h))

  pub tables_known : (splits mergers dividends : List RawAdjust) → All Known (of_table assets Split splits ++ of_table assets Merger mergers ++ of_table assets Dividend dividends)
  tables_known splits mergers dividends = All-append Known _ _ (All-append Known _ _ (table_known Split splits) (table_known Merger mergers)) (table_known Dividend dividends)

  -- the test of a sid that also asks for a column of an asset
  is_sid : ℕ → ColumnAdjustment → Bool
  is_sid sid x = nat_lt x.col (length assets) && (sid_at assets x.col == sid)

  col_known : (z : Adjustment) → Known z → col_in assets z.sid < length assets
  col_known z e = place_known (pos z.sid) assets e

  sid_test : (sid : ℕ) (z : Adjustment) → Known z → is_sid sid (in_column assets z) ≡ (z.sid == sid)
  unfolding is_sid
  sid_test sid z e =
      let within : col_in assets z.sid < length assets = col_known z e in
      let t : nat_lt (col_in assets z.sid) (length assets) ≡ true = grind (arith, nat_tests) in
      rw (t, sid_of_col assets z.sid e) refl

  in_range : (sid : ℕ) (x : ColumnAdjustment) → x.col < length assets → (sid_at assets x.col == sid) ≡ is_sid sid x
  unfolding is_sid
  in_range sid x h = let t : nat_lt x.col (length assets) ≡ true = grind (arith, nat_tests) in rw t refl

  one_place : AllPairs (λ a b. a.sid < b.sid) assets → (sid : ℕ) (x y : ColumnAdjustment) → is_sid sid x ≡ true → is_sid sid y ≡ true → x.col ≡ y.col
  unfolding is_sid
  one_place up sid x y e f =
      let p = and_parts (nat_lt x.col (length assets)) (sid_at assets x.col == sid) e in
      let q = and_parts (nat_lt y.col (length assets)) (sid_at assets y.col == sid) f in
      one_col assets up x.col y.col (below x.col p.0) (below y.col q.0) (equal (sid_at assets x.col) p.1 ∙ sym (equal (sid_at assets y.col) q.1))
    where
      below : (n : ℕ) → nat_lt n (length assets) ≡ true → n < length assets
      below n t = grind (arith, nat_tests)

      equal : (n : ℕ) → (n == sid) ≡ true → n ≡ sid
      equal n t = grind (arith, nat_tests)

  cols_known : (zs : List Adjustment) → All Known zs → All (λ x. x.col < length assets) (by_place (map (in_column assets) zs))
  cols_known zs all =
      All-permutation (λ (x : ColumnAdjustment). x.col < length assets) (map (in_column assets) zs) (by_place (map (in_column assets) zs)) (by_place-permutes (map (in_column assets) zs))
      (All-map (λ (x : ColumnAdjustment). x.col < length assets) (in_column assets) zs (λ k d h. col_known (get_or zs k d) (all k d h)))

  events-in_column : (zs : List Adjustment) → map (λ (x : ColumnAdjustment). x.event) (map (in_column assets) zs) ≡ map (λ (x : Adjustment). x.event) zs
  events-in_column [] = refl
  events-in_column (z ∷ zs) = ap (λ l. z.event ∷ l) (events-in_column zs)

  pub by_sid : AllPairs (λ a b. a.sid < b.sid) assets → (zs : List Adjustment) → All Known zs → (sid : ℕ)
      → map (λ x. x.event) (filter (λ x. sid_at assets x.col == sid) (by_place (map (in_column assets) zs))) ≡ map (λ x. x.event) (filter (λ x. x.sid == sid) (by_day zs))
  by_sid up zs all sid =
      let columns = map (in_column assets) zs in
      let known : All Known (by_day zs) = All-by_day Known zs all in
      ap (map (λ (x : ColumnAdjustment). x.event))
      (filter-same (λ x. sid_at assets x.col == sid) (is_sid sid) (by_place columns) (λ k d h. in_range sid (get_or (by_place columns) k d) (cols_known zs all k d h))
      ∙ by_place-column assets (is_sid sid) (one_place up sid) zs
      ∙ filter-map (is_sid sid) (in_column assets) (by_day zs)
      ∙ ap (map (in_column assets)) (filter-same (λ z. is_sid sid (in_column assets z)) (λ z. z.sid == sid) (by_day zs) (λ k d h. sid_test sid (get_or (by_day zs) k d) (known k d h))))
      ∙ events-in_column (filter (λ (x : Adjustment). x.sid == sid) (by_day zs))

pub table_events : (days : List ℤ) (assets : List AssetRow) (labels : List ColumnLabel) (texts : List (List ℕ)) (bars : List BarRow) (splits mergers dividends : List RawAdjust) (xs : List ColumnAdjustment)
    (numbers : List ColumnNumber)
    → AllPairs (λ a b. a.sid < b.sid) assets → adjustments_in assets splits mergers dividends ≡ Ok xs → (sid : ℕ)
    → events_of (world_of days assets labels texts bars xs numbers) sid ≡ map (λ x. x.event) (filter (λ x. x.sid == sid) (adjustments_of assets splits mergers dividends))
table_events days assets labels texts bars splits mergers dividends xs numbers up e sid =
    parts_events days assets labels texts bars xs numbers up sid
    ∙ ap (λ l. map (λ (x : ColumnAdjustment). x.event) (filter (λ x. sid_at assets x.col == sid) l)) (made_is assets splits mergers dividends xs e)
    ∙ by_sid assets up (of_table assets Split splits ++ of_table assets Merger mergers ++ of_table assets Dividend dividends) (tables_known assets splits mergers dividends) sid
