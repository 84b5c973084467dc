-- A row of labels after others.
use Rattle.std.proofs.Common.{true≢false, ◌≡◌, ℕ, suc, ◌<◌, ◌≤◌, ◌^◌, Bool, true, false, if◌then◌else◌, List, [], ◌∷◌, ◌++◌, length, take, map, get_or, All, Option, Some, None, IfSome, Result, Ok, Err, OnErr, FitsSigned, w32, refl, sym, ap, ◌∙◌, arith}
use Rattle.std.proofs.lemmas.List.{length-map, map-append, take_all}
use Rattle.std.proofs.lemmas.List.Elements.{All-push}
use Rattle.std.proofs.lemmas.List.Quantifiers.{all_pairs_push}
use Rattle.std.specs.List.{list_any, position_or_len}
use Rattle.std.specs.Str.{bytes_eq}
use Rattle.pl_records.proofs.RuleTables.{not_true}
use Rattle.pl_records.proofs.Sorts.{none-at}
use Rattle.pl_spec.specs.Parts.{ColumnLabel}
use Rattle.pl_assets.specs.Labels.{AreTexts, first_seen, is_text, names_of, with_text, with_label}
use Rattle.pl_assets.specs.LabelPlaces.{AreNumbered, IsPlace, KeepsFront, shown_rows, row_at, text_in}
use Rattle.pl_assets.specs.declared.labels.rows.Place.{Place}
use Rattle.pl_assets.specs.declared.labels.rows.LabelRows.{LabelRows}
use Rattle.pl_assets.proofs.TextLists.{front-with_text}
use Rattle.pl_assets.proofs.FirstSeen.{names_more, names_count, text_stays, more_texts, text_placed, same_text, equal_text}

-- ---- texts of labels

label_stays : (texts : List (List ℕ)) (text : List ℕ) (k : ℕ) → k < length texts → get_or (with_label texts text) k [] ≡ get_or texts k []
label_stays texts text k h = here (is_text text)
  where
    here : (b : Bool) → get_or (if b then with_text texts text else texts) k [] ≡ get_or texts k []
    here true = text_stays texts text k h
    here false = refl

more_labels : (texts : List (List ℕ)) (text : List ℕ) → length texts ≤ length (with_label texts text)
more_labels texts text = here (is_text text)
  where
    here : (b : Bool) → length texts ≤ length (if b then with_text texts text else texts)
    here true = more_texts texts text
    here false = omega arith

pub front-with_label : (texts : List (List ℕ)) (text : List ℕ) → take (length texts) (with_label texts text) ≡ texts
front-with_label texts text = here (is_text text)
  where
    here : (b : Bool) → take (length texts) (if b then with_text texts text else texts) ≡ texts
    here true = front-with_text texts text
    here false = take_all (length texts) texts (omega arith)

-- texts that have codes, with one more
texts_more_codes : (texts : List (List ℕ)) (text : List ℕ) → AreTexts texts → length (with_label texts text) ≤ 2 ^ 32 → AreTexts (with_label texts text)
texts_more_codes texts text h few = here (is_text text) refl few
  where
    behind : list_any (bytes_eq text) texts ≡ false → All (λ x. bytes_eq x text ≡ false) texts
    behind none k d l =
        not_true _ (λ t. true≢false (sym (ap (bytes_eq text) (same_text (get_or texts k d) text t) ∙ equal_text text) ∙ none-at (bytes_eq text) texts none k d l))

    added : (c : Bool) → list_any (bytes_eq text) texts ≡ c → is_text text ≡ true → length (if c then texts else texts ++ text ∷ []) ≤ 2 ^ 32 → AreTexts (if c then texts else texts ++ text ∷ [])
    added true u t few = h
    added false u t few =
        record {
          once = all_pairs_push (λ x y. bytes_eq x y ≡ false) texts text h.once (behind u);
          full = All-push (λ x. is_text x ≡ true) texts text h.full t;
          few = few;
        }

    here : (b : Bool) → is_text text ≡ b → length (if b then with_text texts text else texts) ≤ 2 ^ 32 → AreTexts (if b then with_text texts text else texts)
    here true t few = added (list_any (bytes_eq text) texts) refl t few
    here false t few = h

-- ---- the rows that are there

module _ (names texts : List (List ℕ)) (name text : List ℕ) where
  place_kept : (p : Place) → IsPlace names texts p → IsPlace (with_text names name) (with_label texts text) p
  place_kept p h =
      record {
        name = (let small : p.name < length names = h.name in omega (arith, more_texts names name));
        code = known p.code h.code;
        col = h.col;
        day = h.day;
      }
    where
      known : (o : Option ℕ) → IfSome o (λ c. c < length texts) → IfSome o (λ c. c < length (with_label texts text))
      known None e = tt
      known (Some c) e = omega (arith, e, more_labels texts text)

  row_kept : (p : Place) → IsPlace names texts p → row_at (with_text names name) (with_label texts text) p ≡ row_at names texts p
  row_kept p h = ap (λ n. record { name = n; col = p.col; start = p.start; text = text_in (with_label texts text) p.code }) (text_stays names name p.name h.name)
      ∙ ap (λ t. record { name = get_or names p.name []; col = p.col; start = p.start; text = t }) (known p.code h.code)
    where
      known : (o : Option ℕ) → IfSome o (λ c. c < length texts) → text_in (with_label texts text) o ≡ text_in texts o
      known None e = refl
      known (Some c) e = label_stays texts text c e

  rows_kept : (ps : List Place) → All (IsPlace names texts) ps → map (row_at (with_text names name) (with_label texts text)) ps ≡ map (row_at names texts) ps
  rows_kept [] all = refl
  rows_kept (p ∷ ps) all =
      ap (λ r. r ∷ map (row_at (with_text names name) (with_label texts text)) ps) (row_kept p (all 0 p (omega arith)))
      ∙ ap (λ rs. row_at names texts p ∷ rs) (rows_kept ps (λ k d h. all (suc k) d (omega arith)))

  places_kept : (ps : List Place) → All (IsPlace names texts) ps → All (IsPlace (with_text names name) (with_label texts text)) ps
  places_kept ps all k d h = place_kept (get_or ps k d) (all k d h)

-- ---- with one more

-- the place shows the row with the name and the text
pub record IsNext (names texts : List (List ℕ)) (name text : List ℕ) (p : Place) : Type 0 where
  pub number : p.name ≡ position_or_len (bytes_eq name) names
  pub code : text_in (with_label texts text) p.code ≡ text
  pub known : IfSome p.code (λ c. c < length (with_label texts text))
  pub col : p.col < 2 ^ 32
  pub day : FitsSigned w32 p.start

abbrev pub row_of : List ℕ → List ℕ → Place → ColumnLabel
row_of name text p = record { name = name; col = p.col; start = p.start; text = text }

next_row : (names texts : List (List ℕ)) (name text : List ℕ) (p : Place) → IsNext names texts name text p → row_at (with_text names name) (with_label texts text) p ≡ row_of name text p
next_row names texts name text p h =
    ap (λ n. record { name = n; col = p.col; start = p.start; text = text_in (with_label texts text) p.code }) (ap (λ n. get_or (with_text names name) n []) h.number ∙ (text_placed names name).1)
    ∙ ap (λ t. record { name = name; col = p.col; start = p.start; text = t }) h.code

pub rows_more : (old new : LabelRows) (name text : List ℕ) (p : Place) → AreNumbered old → new.names ≡ with_text old.names name → new.texts ≡ with_label old.texts text
    → new.places.items ≡ old.places.items ++ p ∷ [] → IsNext old.names old.texts name text p → shown_rows new ≡ shown_rows old ++ row_of name text p ∷ []
rows_more old new name text p h n t e next =
    rw (n, t, e)
    (map-append (row_at (with_text old.names name) (with_label old.texts text)) old.places.items (p ∷ [])
    ∙ ap (λ rs. rs ++ row_at (with_text old.names name) (with_label old.texts text) p ∷ []) (rows_kept old.names old.texts name text old.places.items h.places)
    ∙ ap (λ r. shown_rows old ++ r ∷ []) (next_row old.names old.texts name text p next))

pub numbered_more : (old new : LabelRows) (name text : List ℕ) (p : Place) → AreNumbered old → new.names ≡ with_text old.names name → new.texts ≡ with_label old.texts text
    → new.places.items ≡ old.places.items ++ p ∷ [] → IsNext old.names old.texts name text p → length new.texts ≤ 2 ^ 32 → AreNumbered new
numbered_more old new name text p h n t e next few =
    let rows : shown_rows new ≡ shown_rows old ++ row_of name text p ∷ [] = rows_more old new name text p h n t e next in
    record {
      places = rw (n, t, e) (All-push (IsPlace (with_text old.names name) (with_label old.texts text)) old.places.items p (places_kept old.names old.texts name text old.places.items h.places) alone);
      names = n ∙ ap (λ l. with_text l name) h.names ∙ sym (ap names_of rows ∙ names_more (λ (r : ColumnLabel). r.name) (shown_rows old) (row_of name text p));
      texts = rw t (texts_more_codes old.texts text h.texts (rw t at few));
    }
  where
    alone : IsPlace (with_text old.names name) (with_label old.texts text) p
    alone =
        record { name = (let small : position_or_len (bytes_eq name) old.names < length (with_text old.names name) = (text_placed old.names name).0 in rw next.number small); code = next.known; col = next.col; day = next.day }

-- ---- how many

pub few_names : (t : LabelRows) → AreNumbered t → length t.names ≤ length t.places.items
few_names t h = let same : length t.names ≡ length (names_of (shown_rows t)) = ap length h.names in omega (arith, names_count (λ (r : ColumnLabel). r.name) (shown_rows t), length-map t.places.items (row_at t.names t.texts))

-- ---- where memory ran out

pub front_kept : {X E : Type 0} (r : Result X E) (old new : LabelRows) (name text : List ℕ) → new.names ≡ with_text old.names name → new.texts ≡ with_label old.texts text
    → new.places.items ≡ old.places.items → OnErr r (KeepsFront old new)
front_kept (Ok x) old new name text n t e = tt
front_kept (Err f) old new name text n t e =
    record {
      names = ap (take (length old.names)) n ∙ front-with_text old.names name;
      texts = ap (take (length old.texts)) t ∙ front-with_label old.texts text;
      places = e;
    }

-- ---- no rows

pub no_rows : (t : LabelRows) → t.places.items ≡ [] → shown_rows t ≡ []
no_rows t e = ap (map (row_at t.names t.texts)) e

no_codes : AreTexts []
no_codes = record { once = λ i j d h l. absurd (omega arith); full = λ k d h. absurd (omega arith); few = omega arith }

-- there may be texts already
pub no_places : (t : LabelRows) → t.names ≡ [] → AreTexts t.texts → t.places.items ≡ [] → AreNumbered t
unfolding first_seen
no_places t n x e =
    record {
      places = rw e (λ k d h. absurd (omega arith));
      names = n ∙ sym (ap names_of (no_rows t e));
      texts = x;
    }

pub no_numbers : (t : LabelRows) → t.names ≡ [] → t.texts ≡ [] → t.places.items ≡ [] → AreNumbered t
no_numbers t n x e = no_places t n (rw x no_codes) e
