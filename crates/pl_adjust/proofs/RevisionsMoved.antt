-- Records of revisions in another order are read as the same revisions in some order, and no cell is changed
-- otherwise.
use Rattle.std.proofs.Common.{◌≡◌, ℕ, ◌<◌, ◌≤◌, ◌==◌, ◌&&◌, Bool, true, false, cond, if◌then◌else◌, ℤ, List, [], ◌∷◌, ◌++◌, map, filter, filter_map, length, All, AllPairs, IsPermutation, Option, Some, None, Ok, refl, sym, ◌∙◌, ap, arith, inl, inr}
use Rattle.std.specs.Cmp.{both_ways}
use Rattle.std.specs.List.Sorted.{ties}
use Rattle.std.specs.Option.{is_some}
use Rattle.std.specs.Ordering.{int_eq}
use Rattle.std.proofs.lemmas.Bool.{and_parts, true≢false}
use Rattle.std.proofs.lemmas.List.{length-map}
use Rattle.std.proofs.lemmas.List.Elements.{All-filter, filter-append, filter_passes}
use Rattle.std.proofs.lemmas.List.Kept.{AllPairs-filter, IsSortedBy-filter}
use Rattle.std.proofs.lemmas.List.Quantifiers.{all_pairs_push}
use Rattle.std.proofs.lemmas.List.Sorted.{IsPermutation-map}
use Rattle.std.proofs.lemmas.Simd.{map-map}
use Rattle.pl_spec.specs.declared.AssetRow.{AssetRow}
use Rattle.pl_spec.specs.declared.Column.{Column}
use Rattle.pl_spec.specs.Limits.{most_revisions}
use Rattle.pl_spec.specs.Parts.{ColumnAdjustment, sid_at}
use Rattle.pl_spec.specs.Window.{effect, effects_in, is_between, same_column}
use Rattle.pl_spec.specs.Window.Effect.{Put}
use Rattle.pl_spec.specs.World.{Event}
use Rattle.pl_spec.proofs.Signed.{int_eq-true}
use Rattle.pl_spec.proofs.Permuted.{filter-permuted, one-permuted}
use Rattle.pl_records.specs.Reading.{Record, ◌>>=◌}
use Rattle.pl_records.proofs.Orders.{Looks, under-permuted}
use Rattle.pl_records.proofs.Readings.{made-of, rows-keep, under_ok}
use Rattle.pl_records.proofs.RuleTables.{told_ok, ok_or-Ok}
use Rattle.pl_records.proofs.Sorts.{none-at}
use Rattle.std.specs.Option.{ok_or}
use Rattle.pl_calendar.specs.Days.{AreDays}
use Rattle.pl_lifetimes.specs.Assets.{AreAssets}
use Rattle.pl_spec.proofs.Lists.{filter-map, filter-swap}
use Rattle.pl_adjust.specs.declared.revisions.Revision.{Revision}
use Rattle.pl_adjust.specs.Columns.{AreByDay, by_place, in_column}
use Rattle.pl_adjust.specs.Revised.{AreKnown, ChangeAlike, IsKnown, revised, revised_by, revised_columns, revised_in}
use Rattle.pl_adjust.specs.Revisions.{DataFault, breaks, revision_in, header, is_same, revision_or_rule, revisions_of}
use Rattle.pl_adjust.specs.Revisions as rules
use Rattle.pl_adjust.proofs.ByPlace.{by_place-ties, sorted-by_place, tied}
use Rattle.pl_adjust.proofs.Kept.{in_front, front_order}
use Rattle.pl_adjust.proofs.OneOrder.{one_order}
use Rattle.pl_adjust.proofs.RevisedColumns.{cols_with, days_with, known_from, known_has, revised_cols}
use Rattle.pl_adjust.proofs.RevisionsRead.{AreRevisions-read, column_is, parts, whole}
use Rattle.pl_adjust.proofs.Sids.{sid_of_col}

-- ---- the rows of records in another order

flips : (x y : Revision) → is_same x y ≡ is_same y x
flips x y = both_ways _ _ (turned x y) (turned y x)
  where
    turned : (a b : Revision) → is_same a b ≡ true → is_same b a ≡ true
    turned a b t =
        let p = parts a b t in
        whole b a (record { sid = sym p.sid; session = sym p.session; column = sym p.column; known = sym p.known })

module _ (days : List ℤ) (assets : List AssetRow) where
  looks : (q : DataFault) → Looks most_revisions is_same revision_in (breaks days assets) q
  looks rules.TooMany = inl (λ before r. refl)
  looks rules.Duplicate = inr (inl (λ before r. refl))
  looks fault = inr (inr (λ before r. refl))

  pub revisions-moved : (first : Record) (records others : List Record) → IsPermutation records others → (rows : List Revision) → revisions_of days assets (first ∷ records) ≡ Ok rows
      → (found : List Revision) × (revisions_of days assets (first ∷ others) ≡ Ok found) × IsPermutation rows found
  unfolding revisions_of revision_or_rule
  revisions-moved first records others m rows e =
      under-permuted most_revisions is_same revision_in (breaks days assets) rules.rules rules.BadField (revision_or_rule days assets) (λ before r. refl) flips looks
      header rules.BadHeader first records others m rows e

  -- no two of them are of one cell and known from one day on
  abbrev pub Apart : List Revision → Type 0
  Apart rows = AllPairs (λ x y. is_same y x ≡ false) rows

  apart-more : (before : List Revision) (r : Record) (x : Revision) → Apart before → revision_or_rule days assets before r ≡ Ok x → Apart (before ++ x ∷ [])
  unfolding revision_or_rule
  apart-more before r x h e =
      let k = told_ok rules.rules (breaks days assets before r) (ok_or (revision_in r) rules.BadField) x e in
      let at : revision_in r ≡ Some x = ok_or-Ok (revision_in r) rules.BadField x k.1 in
      all_pairs_push (λ x y. is_same y x ≡ false) before x h (none-at (is_same x) before (rw at at k.0.1.1.1.1.1.1.0))

  pub rows-apart : (records : List Record) (rows : List Revision) → revisions_of days assets records ≡ Ok rows → Apart rows
  unfolding revisions_of
  rows-apart records rows e =
      rows-keep Apart 2 (revision_or_rule days assets) apart-more _ [] rows (λ i j d h l. absurd (omega arith))
      (under_ok header rules.BadHeader (revision_or_rule days assets) records rows e).1

-- ---- what acts on a cell

-- the events of the columns that pass a test
abbrev pub picked : (ℕ → Bool) → List ColumnAdjustment → List Event
picked at xs = map (λ x. x.event) (filter (λ x. at x.col) xs)

-- they do the same to each cell, whichever columns are picked
abbrev pub PickedAlike : List ColumnAdjustment → List ColumnAdjustment → Type 0
PickedAlike xs ys = (at : ℕ → Bool) (c : Column) (bar low high : ℤ) → effects_in c bar low high (picked at xs) ≡ effects_in c bar low high (picked at ys)

-- what does nothing may be left out
kept : {A B : Type 0} (f : A → Option B) (p : A → Bool) (xs : List A) → filter_map f (filter p xs) ≡ filter_map f (filter p (filter (λ x. is_some (f x)) xs))
kept f p [] = refl
kept {A} {B} f p (x ∷ xs) = here (f x) (p x) refl refl (kept f p xs)
  where
    here : (o : Option B) (b : Bool) → f x ≡ o → p x ≡ b → filter_map f (filter p xs) ≡ filter_map f (filter p (filter (λ x. is_some (f x)) xs))
        → filter_map f (cond b (x ∷ filter p xs) (filter p xs)) ≡ filter_map f (filter p (cond (is_some o) (x ∷ filter (λ x. is_some (f x)) xs) (filter (λ x. is_some (f x)) xs)))
    here (Some y) true e g rest = rw (g, e) (ap (λ l. y ∷ l) rest)
    here (Some y) false e g rest = rw g rest
    here None true e g rest = rw e rest
    here None false e g rest = rest

-- of the columns that pass a test
module _ (assets : List AssetRow) (c : Column) (bar : ℤ) (at : ℕ → Bool) where
  placed : Revision → ColumnAdjustment
  placed x = in_column assets (revised x)

  does : Event → Bool
  does e = is_some (effect c bar e)

  acts : ColumnAdjustment → Bool
  acts x = does x.event

  is_here : ColumnAdjustment → Bool
  is_here x = at x.col

  -- the adjustments of these columns that act on the cell
  abbrev acting : List ColumnAdjustment → List ColumnAdjustment
  acting xs = filter acts (filter is_here xs)

  acting-swap : (t : ColumnAdjustment → Bool) (xs : List ColumnAdjustment) → filter t (acting xs) ≡ acting (filter t xs)
  acting-swap t xs = filter-swap t acts (filter is_here xs) ∙ ap (filter acts) (filter-swap t is_here xs)

  acting-append : (xs ys : List ColumnAdjustment) → acting (xs ++ ys) ≡ acting xs ++ acting ys
  acting-append xs ys = ap (filter acts) (filter-append is_here xs ys) ∙ filter-append acts (filter is_here xs) (filter is_here ys)

  effects-acting : (low high : ℤ) (xs : List ColumnAdjustment)
      → effects_in c bar low high (picked at xs) ≡ filter_map (effect c bar) (filter (is_between low high) (map (λ x. x.event) (acting xs)))
  unfolding does acts is_here
  effects-acting low high xs =
      kept (effect c bar) (is_between low high) (picked at xs)
      ∙ ap (λ es. filter_map (effect c bar) (filter (is_between low high) es)) (filter-map (λ e. is_some (effect c bar e)) (λ (x : ColumnAdjustment). x.event) (filter (λ x. at x.col) xs))

  -- a revision acts on its own cell
  own_cell : (x : Revision) → acts (placed x) ≡ true → (x.bar_day ≡ bar) × (x.column ≡ c)
  unfolding placed does acts
  own_cell x d = here (int_eq x.bar_day bar && same_column x.column c) refl d
    where
      here : (b : Bool) → (int_eq x.bar_day bar && same_column x.column c) ≡ b → is_some (if b then Some (Put x.value) else None) ≡ true → (x.bar_day ≡ bar) × (x.column ≡ c)
      here true e d = let p = and_parts (int_eq x.bar_day bar) (same_column x.column c) e in (int_eq-true x.bar_day bar p.0, column_is x.column c p.1)
      here false e d = absurd (let bad : false ≡ true = d in cc)

  module _ (z : ColumnAdjustment) where
    tie : Revision → Bool
    tie x = ties in_front z (placed x)

    one_of : (x y : Revision) → IsKnown assets x.sid → IsKnown assets y.sid → tie x ≡ true → tie y ≡ true → acts (placed x) ≡ true → acts (placed y) ≡ true → is_same y x ≡ true
    unfolding tie placed
    one_of x y kx ky tx ty dx dy =
        let p = tied z (placed x) tx in
        let q = tied z (placed y) ty in
        let sids : x.sid ≡ y.sid = sym (sid_of_col assets x.sid (known_has assets x.sid kx)) ∙ ap (sid_at assets) (sym p.0 ∙ q.0) ∙ sid_of_col assets y.sid (known_has assets y.sid ky) in
        let own_x = own_cell x dx in
        let own_y = own_cell y dy in
        whole y x (record { sid = sids; session = own_x.0 ∙ sym own_y.0; column = own_x.1 ∙ sym own_y.1; known = sym p.1 ∙ q.1 })

    one_left : (xs : List Revision) → AllPairs (λ x y. is_same y x ≡ false) xs → All (λ x. IsKnown assets x.sid) xs → All (λ x. tie x ≡ true) xs → All (λ x. acts (placed x) ≡ true) xs → length xs ≤ 1
    one_left [] apart known on does = omega arith
    one_left (x ∷ []) apart known on does = omega arith
    one_left (x ∷ y ∷ xs) apart known on does =
        absurd (true≢false (sym (one_of x y (known 0 x (omega arith)) (known 1 x (omega arith)) (on 0 x (omega arith)) (on 1 x (omega arith)) (does 0 x (omega arith)) (does 1 x (omega arith))) ∙ apart 0 1 x (omega arith) (omega arith)))

    -- of those that tie at most one is left
    module _ (rows : List Revision) where
      abbrev tying : List Revision
      tying = filter tie rows

      abbrev at_col : List Revision
      at_col = filter (λ x. is_here (placed x)) tying

      abbrev left : List Revision
      left = filter (λ x. acts (placed x)) at_col

      left-is : acting (filter (ties in_front z) (revised_columns assets rows)) ≡ map placed left
      unfolding tie placed
      left-is =
          ap (λ l. acting (filter (ties in_front z) l)) (map-map (in_column assets) revised rows)
          ∙ ap acting (filter-map (ties in_front z) (λ x. in_column assets (revised x)) rows)
          ∙ ap (filter acts) (filter-map is_here (λ x. in_column assets (revised x)) tying)
          ∙ filter-map acts (λ x. in_column assets (revised x)) at_col

      few_left : AllPairs (λ x y. is_same y x ≡ false) rows → AreKnown assets rows → length left ≤ 1
      few_left apart known =
          one_left left
          (AllPairs-filter (λ x y. is_same y x ≡ false) (λ x. acts (placed x)) at_col (AllPairs-filter (λ x y. is_same y x ≡ false) (λ x. is_here (placed x)) tying (AllPairs-filter (λ x y. is_same y x ≡ false) tie rows apart)))
          (All-filter (λ x. acts (placed x)) (λ x. IsKnown assets x.sid) at_col (All-filter (λ x. is_here (placed x)) (λ x. IsKnown assets x.sid) tying (All-filter tie (λ x. IsKnown assets x.sid) rows known)))
          (All-filter (λ x. acts (placed x)) (λ x. tie x ≡ true) at_col (All-filter (λ x. is_here (placed x)) (λ x. tie x ≡ true) tying (filter_passes tie rows)))
          (filter_passes (λ x. acts (placed x)) at_col)

    moved : (rows found : List Revision) → IsPermutation rows found → AllPairs (λ x y. is_same y x ≡ false) rows → AreKnown assets rows
        → acting (filter (ties in_front z) (revised_columns assets rows)) ≡ acting (filter (ties in_front z) (revised_columns assets found))
    moved rows found m apart known =
        let xs = revised_columns assets rows in
        let ys = revised_columns assets found in
        let t = ties in_front z in
        let columns : IsPermutation xs ys = IsPermutation-map (in_column assets) (map revised rows) (map revised found) (IsPermutation-map revised rows found m) in
        let few : length (acting (filter t xs)) ≤ 1 = omega (arith, ap length (left-is rows), length-map (left rows) placed, few_left rows apart known) in
        one-permuted (acting (filter t xs)) (acting (filter t ys)) few
        (filter-permuted acts (filter is_here (filter t xs)) (filter is_here (filter t ys)) (filter-permuted is_here (filter t xs) (filter t ys) (filter-permuted t xs ys columns)))

  acting-moved : (old : List ColumnAdjustment) (rows found : List Revision) → IsPermutation rows found → AllPairs (λ x y. is_same y x ≡ false) rows → AreKnown assets rows
      → acting (revised_by assets old rows) ≡ acting (revised_by assets old found)
  acting-moved old rows found m apart known =
      let xs = revised_columns assets rows in
      let ys = revised_columns assets found in
      one_order in_front front_order (acting (by_place (old ++ xs))) (acting (by_place (old ++ ys)))
      (IsSortedBy-filter in_front front_order acts (filter is_here (by_place (old ++ xs))) (IsSortedBy-filter in_front front_order is_here (by_place (old ++ xs)) (sorted-by_place (old ++ xs))))
      (IsSortedBy-filter in_front front_order acts (filter is_here (by_place (old ++ ys))) (IsSortedBy-filter in_front front_order is_here (by_place (old ++ ys)) (sorted-by_place (old ++ ys))))
      (λ z. by_ties z xs ∙ ap (λ l. acting (filter (ties in_front z) old) ++ l) (moved z rows found m apart known) ∙ sym (by_ties z ys))
    where
      by_ties : (z : ColumnAdjustment) (xs : List ColumnAdjustment)
          → filter (ties in_front z) (acting (by_place (old ++ xs))) ≡ acting (filter (ties in_front z) old) ++ acting (filter (ties in_front z) xs)
      by_ties z xs =
          acting-swap (ties in_front z) (by_place (old ++ xs))
          ∙ ap acting (by_place-ties z (old ++ xs) ∙ filter-append (ties in_front z) old xs)
          ∙ acting-append (filter (ties in_front z) old) (filter (ties in_front z) xs)

-- Revisions that are read in another order do the same to each cell.
pub picked-alike : (days : List ℤ) (assets : List AssetRow) → AreDays days → AreAssets assets → (first : Record) (records others : List Record) → IsPermutation records others
    → (old xs : List ColumnAdjustment) → revised_in days assets old (first ∷ records) ≡ Ok xs
    → (ys : List ColumnAdjustment) × (revised_in days assets old (first ∷ others) ≡ Ok ys) × PickedAlike xs ys
unfolding revised_in
picked-alike days assets ud ua first records others m old xs e =
    let was = made-of (revised_by assets old) (revisions_of days assets (first ∷ records)) xs e in
    let found = revisions-moved days assets first records others m was.0 was.1 in
    let known = known_from assets was.0 days (AreRevisions-read days assets ud ua (first ∷ records) was.0 was.1) in
    let apart = rows-apart days assets (first ∷ records) was.0 was.1 in (
      revised_by assets old found.0,
      ap (λ o. o >>= λ rows. Ok (revised_by assets old rows)) found.1,
      λ at c bar low high.
          ap (λ l. effects_in c bar low high (picked at l)) (sym was.2)
          ∙ effects-acting assets c bar at low high (revised_by assets old was.0)
          ∙ ap (λ l. filter_map (effect c bar) (filter (is_between low high) (map (λ (x : ColumnAdjustment). x.event) l))) (acting-moved assets c bar at old was.0 found.0 found.2 apart known)
          ∙ sym (effects-acting assets c bar at low high (revised_by assets old found.0)),
    )

pub changed-alike : (days : List ℤ) (assets : List AssetRow) → AreDays days → AreAssets assets → (first : Record) (records others : List Record) → IsPermutation records others
    → (old xs : List ColumnAdjustment) → revised_in days assets old (first ∷ records) ≡ Ok xs
    → (ys : List ColumnAdjustment) × (revised_in days assets old (first ∷ others) ≡ Ok ys) × ChangeAlike xs ys
changed-alike days assets ud ua first records others m old xs e =
    let it = picked-alike days assets ud ua first records others m old xs e in
    (it.0, it.1, λ col. it.2 (λ n. n == col))

-- What is revised stands in the columns of assets, and by day.
pub kept-revised : (days : List ℤ) (assets : List AssetRow) → AreDays days → AreAssets assets → (records : List Record) (old xs : List ColumnAdjustment)
    → All (λ x. x.col < length assets) old → revised_in days assets old records ≡ Ok xs → All (λ x. x.col < length assets) xs × AreByDay xs
unfolding revised_in
kept-revised days assets ud ua records old xs cols e =
    let was = made-of (revised_by assets old) (revisions_of days assets records) xs e in
    let known = known_from assets was.0 days (AreRevisions-read days assets ud ua records was.0 was.1) in
    rw (← was.2) (cols_with assets old (revised_columns assets was.0) (revised_cols assets was.0 known) cols, days_with (old ++ revised_columns assets was.0))
