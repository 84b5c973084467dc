-- The rows of labels up to a day, with all texts.
use Rattle.std.proofs.Common.{◌≡◌, ℕ, ◌+◌, ◌<◌, ◌≤◌, Bool, true, false, cond, ℤ, List, [], ◌∷◌, ◌++◌, length, take, map, get_or, AllPairs, Option, Some, None, IfSome, refl, sym, ap, ◌∙◌, arith}
use Rattle.std.specs.List.{list_any}
use Rattle.std.specs.Str.{bytes_eq}
use Rattle.std.specs.Int.RustNames.{int_le}
use Rattle.std.proofs.lemmas.List.{map-append, take_all, take_more}
use Rattle.std.proofs.lemmas.List.Elements.{All-filter, filter-append}
use Rattle.std.proofs.lemmas.List.Folds.{list_any_at}
use Rattle.std.proofs.lemmas.List.Kept.{AllPairs-filter}
use Rattle.std.proofs.lemmas.List.Sums.{length-filter, count_by-le-length}
use Rattle.pl_spec.specs.AsOf.{labels_by}
use Rattle.pl_spec.specs.Parts.{ColumnLabel}
use Rattle.pl_assets.specs.Labels.{AreLabels, IsLabelRow, is_from, is_text, with_label}
use Rattle.pl_assets.specs.LabelPlaces.{AreNumbered, IsPlace, row_at, shown_rows, table_in, text_in}
use Rattle.pl_spec.specs.Limits.{most_labels}
use Rattle.pl_assets.specs.declared.labels.rows.Place.{Place}
use Rattle.pl_assets.specs.declared.labels.rows.LabelRows.{LabelRows}
use Rattle.pl_assets.proofs.FirstSeen.{equal_text}
use Rattle.pl_assets.proofs.LabelTables.{kept_labels}

-- the text of a place is no new one
pub text_known : (names texts : List (List ℕ)) (p : Place) → IsPlace names texts p → with_label texts (text_in texts p.code) ≡ texts
text_known names texts p h = here p.code h.code
  where
    there : (c : ℕ) → c < length texts → list_any (bytes_eq (get_or texts c [])) texts ≡ true
    there c l = list_any_at (bytes_eq (get_or texts c [])) texts c [] l (equal_text (get_or texts c []))

    here : (o : Option ℕ) → IfSome o (λ c. c < length texts) → with_label texts (text_in texts o) ≡ texts
    here None l = refl
    here (Some c) l = rw (there c l) (same (is_text (get_or texts c [])))
      where
        same : (b : Bool) → cond b texts texts ≡ texts
        same true = refl
        same false = refl

-- ---- row by row

-- the next row after those before it
pub row_cut : (day : ℤ) (t : LabelRows) (i : ℕ) (d : Place) (rows new : List ColumnLabel) → i < length t.places.items
    → rows ≡ labels_by day (map (row_at t.names t.texts) (take i t.places.items)) → new ≡ rows ++ labels_by day (row_at t.names t.texts (get_or t.places.items i d) ∷ [])
    → new ≡ labels_by day (map (row_at t.names t.texts) (take (i + 1) t.places.items))
row_cut day t i d rows new inside e n =
    let row = row_at t.names t.texts in
    let front = take i t.places.items in
    let p : Place = get_or t.places.items i d in
    n ∙ ap (λ l. l ++ labels_by day (row p ∷ [])) e
    ∙ sym (
    ap (λ l. labels_by day (map row l)) (take_more t.places.items i d inside)
    ∙ ap (labels_by day) (map-append row front (p ∷ []))
    ∙ filter-append (λ r. int_le r.start day) (map row front) (row p ∷ [])
    )

pub all_cut : (day : ℤ) (t : LabelRows) (i : ℕ) (rows : List ColumnLabel) → length t.places.items ≤ i → rows ≡ labels_by day (map (row_at t.names t.texts) (take i t.places.items)) → rows ≡ labels_by day (shown_rows t)
all_cut day t i rows h e = e ∙ ap (λ l. labels_by day (map (row_at t.names t.texts) l)) (take_all i t.places.items h)

-- ---- the labels

module _ (day : ℤ) (old new : LabelRows) (own : AreLabels (table_in old)) (rows : shown_rows new ≡ labels_by day (shown_rows old)) where
  pub once_cut : AllPairs (λ r q. is_from r.name r.col r.start q ≡ false) (shown_rows new)
  once_cut = rw rows (AllPairs-filter (λ r q. is_from r.name r.col r.start q ≡ false) (λ r. int_le r.start day) (shown_rows old) own.once)

  pub few_cut : length (shown_rows new) ≤ most_labels
  few_cut =
      let few = own.few in
      rw rows (omega (arith, length-filter (λ (r : ColumnLabel). int_le r.start day) (shown_rows old), count_by-le-length (λ (r : ColumnLabel). int_le r.start day) (shown_rows old)))

  pub labels_cut : AreNumbered new → new.texts ≡ old.texts → AreLabels (table_in new)
  labels_cut numbered texts =
      kept_labels new numbered (rw rows (All-filter (λ r. int_le r.start day) IsLabelRow (shown_rows old) own.rows)) once_cut few_cut (rw texts own.right)
