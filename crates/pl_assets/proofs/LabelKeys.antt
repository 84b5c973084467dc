-- The keys of rows of labels tell their names, columns and days.
use Rattle.std.proofs.Common.{◌≡◌, ℕ, ◌<◌, ◌^◌, ◌==◌, true, false, ℤ, List, [], length, map, get_or, Some, None, FitsSigned, w32, sym, ap, ◌∙◌, eq-eqb, eqb-true}
use Rattle.std.specs.List.{list_any, position}
use Rattle.std.specs.Str.{bytes_eq}
use Rattle.std.proofs.lemmas.Bool.{true≢false}
use Rattle.std.proofs.lemmas.List.Folds.{list_any_none}
use Rattle.std.proofs.lemmas.List.Quantifiers.{position-Some}
use Rattle.std.specs.Cmp.{both_ways}
use Rattle.pl_records.proofs.RuleTables.{not_true}
use Rattle.pl_spec.specs.Parts.{ColumnLabel}
use Rattle.pl_spec.specs.World.{LabelRow}
use Rattle.pl_spec.proofs.Places.{nowhere}
use Rattle.pl_assets.specs.Labels.{is_from}
use Rattle.pl_assets.specs.LabelPlaces.{AreNumbered, IsPlace, key, key_of, row_at, shown_rows}
use Rattle.pl_assets.specs.declared.labels.rows.Place.{Place}
use Rattle.pl_assets.specs.declared.labels.rows.LabelRows.{LabelRows}
use Rattle.pl_lifetimes.proofs.Filters.{any-same}
use Rattle.pl_assets.proofs.TextLists.{any-map}
use Rattle.pl_assets.proofs.Dated.{Dated}
use Rattle.pl_assets.proofs.Dated as dated
use Rattle.pl_assets.proofs.FirstSeen.{Once, seen-once, one_place, same_text, equal_text}
use Rattle.pl_assets.proofs.LabelOrder.{same_key}

abbrev pub labels : Dated ColumnLabel
labels = record { name = λ r. r.name; col = λ r. r.col; day = λ r. r.start }

abbrev pub labels_said : Dated LabelRow
labels_said = record { name = λ l. l.name; col = λ l. l.sid; day = λ l. l.start }

pub from_parts : (name : List ℕ) (col : ℕ) (day : ℤ) (r : ColumnLabel) → is_from name col day r ≡ true → (r.name ≡ name) × (r.col ≡ col) × (r.start ≡ day)
from_parts = dated.from_parts labels

pub parts_from : (name : List ℕ) (col : ℕ) (day : ℤ) (r : ColumnLabel) → r.name ≡ name → r.col ≡ col → r.start ≡ day → is_from name col day r ≡ true
parts_from = dated.parts_from labels

pub once_named : (t : LabelRows) → AreNumbered t → Once t.names
once_named t h = rw h.names (seen-once (map (λ (r : ColumnLabel). r.name) (shown_rows t)))

-- the number of a name with the column and the day are those of a row where its key is theirs
pub is_known : (t : LabelRows) (name : List ℕ) (number col : ℕ) (day : ℤ) → AreNumbered t → position (bytes_eq name) t.names ≡ Some number → col < 2 ^ 64 → FitsSigned w32 day
    → list_any (λ p. key_of p == key number col day) t.places.items ≡ list_any (is_from name col day) (shown_rows t)
is_known t name number col day h e small fits =
    any-same (λ p. key_of p == key number col day) (λ p. is_from name col day (row_at t.names t.texts p)) t.places.items (λ k d l. same (get_or t.places.items k d) (h.places k d l))
    ∙ sym (any-map (is_from name col day) (row_at t.names t.texts) t.places.items)
  where
    it : (number < length t.names) × (name ≡ get_or t.names number [])
    it = let at = position-Some (bytes_eq name) t.names number [] e in (at.0, same_text name _ at.1)

    there : (p : Place) → IsPlace t.names t.texts p → (key_of p == key number col day) ≡ true → is_from name col day (row_at t.names t.texts p) ≡ true
    there p q u =
        let parts = same_key p.name p.col p.start number col day q.col small q.day fits (eqb-true _ _ u) in
        parts_from name col day (row_at t.names t.texts p) (ap (λ n. get_or t.names n []) parts.0 ∙ sym it.1) parts.1 parts.2

    back : (p : Place) → IsPlace t.names t.texts p → is_from name col day (row_at t.names t.texts p) ≡ true → (key_of p == key number col day) ≡ true
    back p q u =
        let parts = from_parts name col day (row_at t.names t.texts p) u in
        let n : p.name ≡ number = one_place t.names p.name number (once_named t h) q.name it.0 (parts.0 ∙ it.1) in
        eq-eqb _ _ (ap (λ m. key m p.col p.start) n ∙ ap (λ c. key number c p.start) parts.1 ∙ ap (key number col) parts.2)

    same : (p : Place) → IsPlace t.names t.texts p → (key_of p == key number col day) ≡ is_from name col day (row_at t.names t.texts p)
    same p q = both_ways _ _ (there p q) (back p q)

pub not_named : (t : LabelRows) (name : List ℕ) (col : ℕ) (day : ℤ) → AreNumbered t → position (bytes_eq name) t.names ≡ None → list_any (is_from name col day) (shown_rows t) ≡ false
not_named t name col day h e =
    any-map (is_from name col day) (row_at t.names t.texts) t.places.items
    ∙ list_any_none (λ p. is_from name col day (row_at t.names t.texts p)) t.places.items (λ k d l. not_true _ (other (get_or t.places.items k d) (h.places k d l)))
  where
    other : (p : Place) → IsPlace t.names t.texts p → is_from name col day (row_at t.names t.texts p) ≡ true → ⊥
    other p q u =
        let parts = from_parts name col day (row_at t.names t.texts p) u in
        let none : bytes_eq name (get_or t.names p.name []) ≡ false = nowhere (bytes_eq name) t.names e p.name [] q.name in
        true≢false (sym (ap (bytes_eq name) parts.0 ∙ equal_text name) ∙ none)

pub number_inside : (names : List (List ℕ)) (name : List ℕ) (number : ℕ) → position (bytes_eq name) names ≡ Some number → number < length names
number_inside names name number e = (position-Some (bytes_eq name) names number [] e).0
