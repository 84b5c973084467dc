-- The keys of rows of numbers tell their names, columns and days.
use Rattle.std.proofs.Common.{◌≡◌, ℕ, ◌+◌, ◌<◌, ◌^◌, ◌==◌, nat_lt, true, false, ℤ, List, [], ◌∷◌, ◌++◌, length, get_or, FitsSigned, w32, sym, ap, ◌∙◌, arith, inl, inr, eq-eqb, eqb-true}
use Rattle.std.specs.List.{list_any, position_or_len}
use Rattle.std.specs.Str.{bytes_eq}
use Rattle.std.specs.Cmp.{both_ways}
use Rattle.std.proofs.lemmas.Bool.{cases_lt}
use Rattle.std.proofs.lemmas.Bool.Decides.{nat_tests}
use Rattle.std.proofs.lemmas.List.Folds.{list_any_none}
use Rattle.std.proofs.lemmas.List.Quantifiers.{all_pairs_push}
use Rattle.pl_assets.specs.Labels.{with_text}
use Rattle.pl_assets.specs.LabelPlaces.{key}
use Rattle.pl_assets.proofs.Dated.{Dated}
use Rattle.pl_assets.proofs.Dated as dated
use Rattle.pl_assets.proofs.FirstSeen.{Once, place_of_text, same_text, text_placed, text_stays}
use Rattle.pl_assets.proofs.LabelOrder.{same_key}
use Rattle.pl_assets.proofs.TextLists.{any-map, place_there}
use Rattle.pl_lifetimes.proofs.Filters.{any-same}
use Rattle.std.proofs.lemmas.List.{get_or_default}
use Rattle.pl_spec.specs.Numbers.{NumberRow}
use Rattle.pl_spec.specs.Parts.{ColumnNumber}
use Rattle.pl_numbers.specs.Numbers.{is_from}
use Rattle.pl_numbers.specs.NumberPlaces.{AreNumbered, IsPlace, Rise, key_of, row_at, shown_rows}
use Rattle.pl_numbers.specs.declared.rows.Place.{Place}
use Rattle.pl_numbers.specs.declared.rows.NumberRows.{NumberRows}
use Rattle.pl_numbers.proofs.NumberRowsMade.{once_named}

abbrev pub numbers : Dated ColumnNumber
numbers = record { name = λ r. r.name; col = λ r. r.col; day = λ r. r.known }

abbrev pub numbers_said : Dated NumberRow
numbers_said = record { name = λ n. n.name; col = λ n. n.sid; day = λ n. n.known }

pub from_parts : (name : List ℕ) (col : ℕ) (day : ℤ) (r : ColumnNumber) → is_from name col day r ≡ true → (r.name ≡ name) × (r.col ≡ col) × (r.known ≡ day)
from_parts = dated.from_parts numbers

pub parts_from : (name : List ℕ) (col : ℕ) (day : ℤ) (r : ColumnNumber) → r.name ≡ name → r.col ≡ col → r.known ≡ day → is_from name col day r ≡ true
parts_from = dated.parts_from numbers

-- ---- names and their numbers

-- the text at a place has that place
pub place_of : (names : List (List ℕ)) (i : ℕ) → Once names → i < length names → position_or_len (bytes_eq (get_or names i [])) names ≡ i
place_of names i once h = sym (place_there (bytes_eq (get_or names i [])) names i (place_of_text names i once h))

-- and the text of a place that a text has is that text
pub text_of : (names : List (List ℕ)) (name : List ℕ) (i : ℕ) → i ≡ position_or_len (bytes_eq name) names → i < length names → get_or names i [] ≡ name
text_of names name i e h =
    sym (text_stays names name i h) ∙ ap (λ k. get_or (with_text names name) k []) e ∙ (text_placed names name).1

-- a key is that of a row where its name, column and day are the row's
pub is_known : (t : NumberRows) (name : List ℕ) (number col : ℕ) (day : ℤ) → AreNumbered t → number ≡ position_or_len (bytes_eq name) t.names → col < 2 ^ 64 → FitsSigned w32 day
    → list_any (λ p. key_of p == key number col day) t.places.items ≡ list_any (is_from name col day) (shown_rows t)
is_known t name number col day h e small fits =
    any-same (λ p. key_of p == key number col day) (λ p. is_from name col day (row_at t.names p)) t.places.items (λ k d l. same (get_or t.places.items k d) (h.places k d l))
    ∙ sym (any-map (is_from name col day) (row_at t.names) t.places.items)
  where
    there : (p : Place) → IsPlace t.names p → (key_of p == key number col day) ≡ true → is_from name col day (row_at t.names p) ≡ true
    there p q u =
        let parts = same_key p.name p.col p.known number col day q.col small q.day fits (eqb-true _ _ u) in
        parts_from name col day (row_at t.names p) (text_of t.names name p.name (parts.0 ∙ e) q.name) parts.1 parts.2

    back : (p : Place) → IsPlace t.names p → is_from name col day (row_at t.names p) ≡ true → (key_of p == key number col day) ≡ true
    back p q u =
        let parts = from_parts name col day (row_at t.names p) u in
        let n : p.name ≡ number = sym (place_of t.names p.name (once_named t h) q.name) ∙ ap (λ x. position_or_len (bytes_eq x) t.names) parts.0 ∙ sym e in
        eq-eqb _ _ (ap (λ m. key m p.col p.known) n ∙ ap (λ c. key number c p.known) parts.1 ∙ ap (key number col) parts.2)

    same : (p : Place) → IsPlace t.names p → (key_of p == key number col day) ≡ is_from name col day (row_at t.names p)
    same p q = both_ways _ _ (there p q) (back p q)

-- ---- rows that rise

-- below a key that is greater than the last, all are
pub all_below : (places : List Place) (k : ℕ) → Rise places → (n : ℕ) (d : Place) → n + 1 ≡ length places → nat_lt (key_of (get_or places n d)) k ≡ true → (i : ℕ) (x : Place) → i < length places → key_of (get_or places i x) < k
all_below places k up n d e t i x h =
    let last : key_of (get_or places n d) < k = grind (arith, nat_tests) in
    elim (cases_lt i n) [
      | inl lt ↦ (let it : key_of (get_or places i d) < key_of (get_or places n d) = up i n d lt (omega arith) in
          let own : get_or places i x ≡ get_or places i d = get_or_default places i x d h in
          rw own (omega arith))
      | inr ge ↦ (let same : i ≡ n = omega arith in
          let own : get_or places i x ≡ get_or places n d = ap (λ j. get_or places j x) same ∙ get_or_default places n x d (omega arith) in
          rw own last)
    ]

-- with one more of a greater key they rise
pub rise_more : (places : List Place) (p : Place) (k : ℕ) → key_of p ≡ k → Rise places → ((i : ℕ) (x : Place) → i < length places → key_of (get_or places i x) < k) → Rise (places ++ p ∷ [])
rise_more places p k same up below = all_pairs_push (λ q r. key_of q < key_of r) places p up (λ i d l. rw same (below i d l))

-- none of them has a key that is greater than theirs
pub key_new : (places : List Place) (k : ℕ) → ((i : ℕ) (x : Place) → i < length places → key_of (get_or places i x) < k) → list_any (λ p. key_of p == k) places ≡ false
key_new places k below = list_any_none (λ p. key_of p == k) places (λ i d h. other (key_of (get_or places i d)) (below i d h))
  where
    other : (a : ℕ) → a < k → (a == k) ≡ false
    other a h = grind (arith, nat_tests)

-- a place that has a text has that text's place
pub number_there : (names : List (List ℕ)) (name : List ℕ) (i : ℕ) → Once names → i < length names → bytes_eq (get_or names i []) name ≡ true → i ≡ position_or_len (bytes_eq name) names
number_there names name i once h t = sym (place_of names i once h) ∙ ap (λ x. position_or_len (bytes_eq x) names) (same_text (get_or names i []) name t)
