-- A row of numbers after others.
use Rattle.std.proofs.Common.{◌≡◌, ℕ, suc, ◌<◌, ◌≤◌, ◌^◌, List, [], ◌∷◌, ◌++◌, length, map, get_or, All, FitsSigned, w32, refl, sym, ap, ◌∙◌, arith, true, nat_lt}
use Rattle.std.proofs.lemmas.Bool.Decides.{nat_tests}
use Rattle.std.proofs.lemmas.List.{length-map, map-append}
use Rattle.std.proofs.lemmas.List.Elements.{All-push}
use Rattle.std.specs.List.{position_or_len}
use Rattle.std.specs.Str.{bytes_eq}
use Rattle.pl_assets.specs.Labels.{first_seen, with_text}
use Rattle.pl_assets.proofs.FirstSeen.{Once, names_count, names_more, seen-once, text_stays, more_texts, text_placed}
use Rattle.pl_assets.proofs.TextLists.{not_new}
use Rattle.pl_spec.specs.Parts.{ColumnNumber}
use Rattle.pl_numbers.specs.Numbers.{names_of}
use Rattle.pl_numbers.specs.NumberPlaces.{AreNumbered, IsPlace, shown_rows, row_at}
use Rattle.pl_numbers.specs.declared.rows.Place.{Place}
use Rattle.pl_numbers.specs.declared.rows.NumberRows.{NumberRows}

-- ---- their names

pub once_named : (t : NumberRows) → AreNumbered t → Once t.names
once_named t h = rw h.names (seen-once (map (λ (r : ColumnNumber). r.name) (shown_rows t)))

pub few_names : (t : NumberRows) → AreNumbered t → length t.names ≤ length t.places.items
few_names t h = let same : length t.names ≡ length (names_of (shown_rows t)) = ap length h.names in omega (arith, names_count (λ (r : ColumnNumber). r.name) (shown_rows t), length-map t.places.items (row_at t.names))

-- a name that has a place is not new
pub name_known : (names : List (List ℕ)) (name : List ℕ) → position_or_len (bytes_eq name) names < length names → names ≡ with_text names name
name_known names name h =
    let t : nat_lt (position_or_len (bytes_eq name) names) (length names) ≡ true = grind (arith, nat_tests) in
    not_new names name (position_or_len (bytes_eq name) names) (rw t refl)

-- ---- the rows that are there

module _ (names : List (List ℕ)) (name : List ℕ) where
  place_kept : (p : Place) → IsPlace names p → IsPlace (with_text names name) p
  place_kept p h = record { name = (let small : p.name < length names = h.name in omega (arith, more_texts names name)); col = h.col; day = h.day }

  row_kept : (p : Place) → IsPlace names p → row_at (with_text names name) p ≡ row_at names p
  row_kept p h = ap (λ n. record { name = n; col = p.col; known = p.known; value = p.value }) (text_stays names name p.name h.name)

  rows_kept : (ps : List Place) → All (IsPlace names) ps → map (row_at (with_text names name)) ps ≡ map (row_at names) ps
  rows_kept [] all = refl
  rows_kept (p ∷ ps) all =
      ap (λ r. r ∷ map (row_at (with_text names name)) ps) (row_kept p (all 0 p (omega arith)))
      ∙ ap (λ rs. row_at names p ∷ rs) (rows_kept ps (λ k d h. all (suc k) d (omega arith)))

  places_kept : (ps : List Place) → All (IsPlace names) ps → All (IsPlace (with_text names name)) ps
  places_kept ps all k d h = place_kept (get_or ps k d) (all k d h)

-- ---- with one more

-- the place shows a row with the name
pub record IsNext (names : List (List ℕ)) (name : List ℕ) (p : Place) : Type 0 where
  pub number : p.name ≡ position_or_len (bytes_eq name) names
  pub col : p.col < 2 ^ 32
  pub day : FitsSigned w32 p.known

abbrev pub row_named : List ℕ → Place → ColumnNumber
row_named name p = record { name = name; col = p.col; known = p.known; value = p.value }

next_row : (names : List (List ℕ)) (name : List ℕ) (p : Place) → IsNext names name p → row_at (with_text names name) p ≡ row_named name p
next_row names name p h =
    ap (λ n. record { name = n; col = p.col; known = p.known; value = p.value }) (ap (λ n. get_or (with_text names name) n []) h.number ∙ (text_placed names name).1)

pub rows_more : (old new : NumberRows) (name : List ℕ) (p : Place) → AreNumbered old → new.names ≡ with_text old.names name
    → new.places.items ≡ old.places.items ++ p ∷ [] → IsNext old.names name p → shown_rows new ≡ shown_rows old ++ row_named name p ∷ []
rows_more old new name p h n e next =
    rw (n, e)
    (map-append (row_at (with_text old.names name)) old.places.items (p ∷ [])
    ∙ ap (λ rs. rs ++ row_at (with_text old.names name) p ∷ []) (rows_kept old.names name old.places.items h.places)
    ∙ ap (λ r. shown_rows old ++ r ∷ []) (next_row old.names name p next))

pub numbered_more : (old new : NumberRows) (name : List ℕ) (p : Place) → AreNumbered old → new.names ≡ with_text old.names name
    → new.places.items ≡ old.places.items ++ p ∷ [] → IsNext old.names name p → AreNumbered new
numbered_more old new name p h n e next =
    let rows : shown_rows new ≡ shown_rows old ++ row_named name p ∷ [] = rows_more old new name p h n e next in
    record {
      places = rw (n, e) (All-push (IsPlace (with_text old.names name)) old.places.items p (places_kept old.names name old.places.items h.places) alone);
      names = n ∙ ap (λ l. with_text l name) h.names ∙ sym (ap names_of rows ∙ names_more (λ (r : ColumnNumber). r.name) (shown_rows old) (row_named name p));
    }
  where
    alone : IsPlace (with_text old.names name) p
    alone = record { name = (let small : position_or_len (bytes_eq name) old.names < length (with_text old.names name) = (text_placed old.names name).0 in rw next.number small); col = next.col; day = next.day }

-- ---- no rows

pub no_rows : (t : NumberRows) → t.places.items ≡ [] → shown_rows t ≡ []
no_rows t e = ap (map (row_at t.names)) e

pub no_numbers : (t : NumberRows) → t.names ≡ [] → t.places.items ≡ [] → AreNumbered t
unfolding first_seen
no_numbers t n e = record { places = rw e (λ k d h. absurd (omega arith)); names = n ∙ sym (ap names_of (no_rows t e)) }
