-- Texts in the order in which they first stand in a list.
use Rattle.std.proofs.Common.{◌≡◌, ℕ, suc, ◌+◌, ◌<◌, ◌≤◌, ◌||◌, not, Bool, true, false, cond, if◌then◌else◌, List, [], ◌∷◌, ◌++◌, length, take, map, filter, get_or, All, AllPairs, Option, Some, None, refl, sym, ap, ◌∙◌, arith, inl, inr, length-append}
use Rattle.std.proofs.lemmas.List.{length-map, length-take, map-append, append-nil, get_or_append_left, get_or_default, get_or-take, take_more}
use Rattle.std.proofs.lemmas.List.Folds.{list_any_none}
use Rattle.std.proofs.Math.Seq.{get_or-append_seam}
use Rattle.std.proofs.lemmas.List.Elements.{filter-append, All-cons, All-filter, All-nil}
use Rattle.std.proofs.lemmas.List.Kept.{AllPairs-cons, AllPairs-filter}
use Rattle.std.proofs.lemmas.List.Sums.{length-filter, count_by-le-length}
use Rattle.std.proofs.lemmas.List.Quantifiers.{position-Some}
use Rattle.std.proofs.lemmas.Slice.Eq.{bytes_eq-Decides}
use Rattle.std.proofs.lemmas.Bool.{cases_lt, true≢false}
use Rattle.std.specs.List.{position, position_or_len, list_any}
use Rattle.std.specs.Str.{bytes_eq}
use Rattle.pl_records.proofs.RuleTables.{not_true}
use Rattle.pl_spec.proofs.Places.{is_at, nowhere, past_all}
use Rattle.pl_spec.specs.Parts.{ColumnLabel}
use Rattle.pl_assets.specs.Labels.{first_seen, is_text, texts_of}
use Rattle.pl_assets.specs.Labels.{with_text, with_label}
use Rattle.pl_assets.proofs.TextLists.{not_new, is_new, place_there}

pub same_text : (x y : List ℕ) → bytes_eq x y ≡ true → x ≡ y
same_text x y e = (bytes_eq-Decides x y).0 e

pub equal_text : (x : List ℕ) → bytes_eq x x ≡ true
equal_text x = (bytes_eq-Decides x x).1 refl

-- ---- a text more at the end

abbrev other : List ℕ → List ℕ → Bool
other x y = not (bytes_eq x y)

-- a text other than x is in a list where it is in the list without x
any-others : (x y : List ℕ) (xs : List (List ℕ)) → bytes_eq y x ≡ false → list_any (bytes_eq y) (filter (other x) xs) ≡ list_any (bytes_eq y) xs
any-others x y [] e = refl
any-others x y (z ∷ zs) e = here (bytes_eq x z) refl (any-others x y zs e)
  where
    here : (b : Bool) → bytes_eq x z ≡ b → list_any (bytes_eq y) (filter (other x) zs) ≡ list_any (bytes_eq y) zs
        → list_any (bytes_eq y) (cond (not (bytes_eq x z)) (z ∷ filter (other x) zs) (filter (other x) zs)) ≡ (bytes_eq y z || list_any (bytes_eq y) zs)
    here true t more = let same : x ≡ z = same_text x z t in rw (t, ap (bytes_eq y) (sym same) ∙ e) more
    here false t more = rw t (ap (λ b. bytes_eq y z || b) more)

filter-one : (p : List ℕ → Bool) (x : List ℕ) (b : Bool) → p x ≡ b → filter p (x ∷ []) ≡ cond b (x ∷ []) []
filter-one p x b e = rw e refl

pub seen-more : (xs : List (List ℕ)) (x : List ℕ) → first_seen (xs ++ x ∷ []) ≡ with_text (first_seen xs) x
unfolding first_seen
seen-more [] x = refl
seen-more (y ∷ ys) x = ap (λ l. y ∷ filter (other y) l) (seen-more ys x) ∙ here (bytes_eq x y) refl (list_any (bytes_eq x) (first_seen ys)) refl
  where
    reversed : (b : Bool) → bytes_eq x y ≡ b → bytes_eq y x ≡ b
    reversed true t = ap (bytes_eq y) (same_text x y t) ∙ equal_text y
    reversed false t = back (bytes_eq y x) refl
      where
        back : (c : Bool) → bytes_eq y x ≡ c → c ≡ false
        back true u = absurd (true≢false (sym (ap (bytes_eq x) (same_text y x u) ∙ equal_text x) ∙ t))
        back false u = refl

    kept : (c : Bool) → list_any (bytes_eq x) (first_seen ys) ≡ c → bytes_eq x y ≡ false → bytes_eq y x ≡ false → y ∷ filter (other y) (with_text (first_seen ys) x) ≡ with_text (y ∷ filter (other y) (first_seen ys)) x
    kept true u t r = rw (u, t, any-others y x (first_seen ys) t, u) refl
    kept false u t r =
        let alone : filter (other y) (x ∷ []) ≡ x ∷ [] = filter-one (other y) x true (ap not r) in
        rw (u, t, any-others y x (first_seen ys) t, u) (ap (λ l. y ∷ l) (filter-append (other y) (first_seen ys) (x ∷ []) ∙ ap (λ l. filter (other y) (first_seen ys) ++ l) alone))

    same : (c : Bool) → list_any (bytes_eq x) (first_seen ys) ≡ c → bytes_eq x y ≡ true → bytes_eq y x ≡ true → y ∷ filter (other y) (with_text (first_seen ys) x) ≡ with_text (y ∷ filter (other y) (first_seen ys)) x
    same true u t r = rw (u, t) refl
    same false u t r =
        let none : filter (other y) (x ∷ []) ≡ [] = filter-one (other y) x false (ap not r) in
        rw (u, t) (ap (λ l. y ∷ l) (filter-append (other y) (first_seen ys) (x ∷ []) ∙ ap (λ l. filter (other y) (first_seen ys) ++ l) none ∙ append-nil (filter (other y) (first_seen ys))))

    here : (b : Bool) → bytes_eq x y ≡ b → (c : Bool) → list_any (bytes_eq x) (first_seen ys) ≡ c → y ∷ filter (other y) (with_text (first_seen ys) x) ≡ with_text (y ∷ filter (other y) (first_seen ys)) x
    here true t c u = same c u t (reversed true t)
    here false t c u = kept c u t (reversed false t)

-- ---- each once

abbrev pub Once : List (List ℕ) → Type 0
Once xs = AllPairs (λ x y. bytes_eq x y ≡ false) xs

others : (x : List ℕ) (xs : List (List ℕ)) → All (λ y. bytes_eq x y ≡ false) (filter (other x) xs)
others x [] = All-nil (λ y. bytes_eq x y ≡ false)
others x (y ∷ ys) = here (bytes_eq x y) refl (others x ys)
  where
    here : (b : Bool) → bytes_eq x y ≡ b → All (λ y. bytes_eq x y ≡ false) (filter (other x) ys) → All (λ y. bytes_eq x y ≡ false) (cond (other x y) (y ∷ filter (other x) ys) (filter (other x) ys))
    here true t more = rw t more
    here false t more = rw t (All-cons (λ y. bytes_eq x y ≡ false) y (filter (λ y. not (bytes_eq x y)) ys) t more)

pub seen-once : (xs : List (List ℕ)) → Once (first_seen xs)
unfolding first_seen
seen-once [] = λ i j d h l. absurd (omega arith)
seen-once (x ∷ xs) =
    AllPairs-cons (λ x y. bytes_eq x y ≡ false) x (filter (other x) (first_seen xs)) (others x (first_seen xs))
    (AllPairs-filter (λ x y. bytes_eq x y ≡ false) (other x) (first_seen xs) (seen-once xs))

pub seen-all : (P : List ℕ → Type 0) (xs : List (List ℕ)) → All P xs → All P (first_seen xs)
unfolding first_seen
seen-all P [] all = all
seen-all P (x ∷ xs) all = All-cons P x _ (all 0 x (omega arith)) (All-filter (λ y. not (bytes_eq x y)) P (first_seen xs) (seen-all P xs (λ k d h. all (suc k) d (omega arith))))

pub seen-count : (xs : List (List ℕ)) → length (first_seen xs) ≤ length xs
unfolding first_seen
seen-count [] = omega arith
seen-count (x ∷ xs) = omega (arith, fewer (λ y. not (bytes_eq x y)) (first_seen xs), seen-count xs)
  where
    fewer : (p : List ℕ → Bool) (ys : List (List ℕ)) → length (filter p ys) ≤ length ys
    fewer p ys = omega (arith, length-filter p ys, count_by-le-length p ys)

-- ---- places among texts that stand once

pub one_place : (xs : List (List ℕ)) (i j : ℕ) → Once xs → i < length xs → j < length xs → get_or xs i [] ≡ get_or xs j [] → i ≡ j
one_place xs i j once h l e = elim (cases_lt i j) [
  | inl p ↦ absurd (differ i j p l e)
  | inr p ↦ elim (cases_lt j i) [ inl q ↦ absurd (differ j i q h (sym e)) | inr q ↦ omega arith ]
]
  where
    differ : (i j : ℕ) → i < j → j < length xs → get_or xs i [] ≡ get_or xs j [] → ⊥
    differ i j p l e = true≢false (sym (ap (bytes_eq (get_or xs i [])) (sym e) ∙ equal_text (get_or xs i [])) ∙ once i j [] p l)

pub place_of_text : (xs : List (List ℕ)) (i : ℕ) → Once xs → i < length xs → position (bytes_eq (get_or xs i [])) xs ≡ Some i
place_of_text xs i once h = is_at (bytes_eq (get_or xs i [])) xs i [] h (equal_text (get_or xs i [])) (λ k l. not_true _ (other_text k l))
  where
    other_text : (k : ℕ) → k < i → bytes_eq (get_or xs i []) (get_or xs k []) ≡ true → ⊥
    other_text k l t = let same : i ≡ k = one_place xs i k once h (omega arith) (same_text _ _ t) in omega arith

-- texts that stand once, one after the other
pub front_more : (xs : List (List ℕ)) (i : ℕ) → Once xs → i < length xs → with_text (take i xs) (get_or xs i []) ≡ take (i + 1) xs
front_more xs i once h = rw none (sym (take_more xs i [] h))
  where
    other_text : (k : ℕ) (d : List ℕ) → k < i → bytes_eq (get_or xs i []) (get_or (take i xs) k d) ≡ true → ⊥
    other_text k d l t =
        let there : get_or (take i xs) k d ≡ get_or xs k [] = get_or-take i xs k d l ∙ get_or_default xs k d [] (omega arith) in
        let same : i ≡ k = one_place xs i k once h (omega arith) (same_text _ _ t ∙ there) in omega arith

    none : list_any (bytes_eq (get_or xs i [])) (take i xs) ≡ false
    none = list_any_none (bytes_eq (get_or xs i [])) (take i xs) (λ k d l. not_true _ (other_text k d (omega (arith, length-take i xs))))

-- ---- a text more among texts

pub text_stays : (xs : List (List ℕ)) (x : List ℕ) (k : ℕ) → k < length xs → get_or (with_text xs x) k [] ≡ get_or xs k []
text_stays xs x k h = here (list_any (bytes_eq x) xs)
  where
    here : (b : Bool) → get_or (if b then xs else xs ++ x ∷ []) k [] ≡ get_or xs k []
    here true = refl
    here false = get_or_append_left xs (x ∷ []) [] k h

pub more_texts : (xs : List (List ℕ)) (x : List ℕ) → length xs ≤ length (with_text xs x)
more_texts xs x = here (list_any (bytes_eq x) xs)
  where
    here : (b : Bool) → length xs ≤ length (if b then xs else xs ++ x ∷ [])
    here true = omega arith
    here false = omega (arith, length-append xs (x ∷ []))

pub text_placed : (xs : List (List ℕ)) (x : List ℕ) → (position_or_len (bytes_eq x) xs < length (with_text xs x)) × (get_or (with_text xs x) (position_or_len (bytes_eq x) xs) [] ≡ x)
text_placed xs x = here (position (bytes_eq x) xs) refl
  where
    here : (o : Option ℕ) → position (bytes_eq x) xs ≡ o → (position_or_len (bytes_eq x) xs < length (with_text xs x)) × (get_or (with_text xs x) (position_or_len (bytes_eq x) xs) [] ≡ x)
    here (Some n) e =
        let it = position-Some (bytes_eq x) xs n [] e in
        let at : n ≡ position_or_len (bytes_eq x) xs = place_there (bytes_eq x) xs n e in
        let same : xs ≡ with_text xs x = not_new xs x n e in
        rw (← same, ← at) (it.0, sym (same_text x (get_or xs n []) it.1))
    here None e =
        let at : position_or_len (bytes_eq x) xs ≡ length xs = past_all (bytes_eq x) xs [] (λ k h. nowhere (bytes_eq x) xs e k [] h) in
        rw (is_new xs x e, at) (omega (arith, length-append xs (x ∷ [])), get_or-append_seam xs x [] [])

-- ---- the names and texts of one row more

pub names_more : {A : Type 0} (name : A → List ℕ) (rows : List A) (r : A) → first_seen (map name (rows ++ r ∷ [])) ≡ with_text (first_seen (map name rows)) (name r)
names_more name rows r = ap first_seen (map-append name rows (r ∷ [])) ∙ seen-more (map name rows) (name r)

pub texts_more : (rows : List ColumnLabel) (r : ColumnLabel) → texts_of (rows ++ r ∷ []) ≡ with_label (texts_of rows) r.text
texts_more rows r =
    ap (λ l. first_seen (filter is_text l)) (map-append (λ (r : ColumnLabel). r.text) rows (r ∷ []))
    ∙ ap first_seen (filter-append is_text texts (r.text ∷ []))
    ∙ here (is_text r.text) refl
  where
    texts : List (List ℕ)
    texts = map (λ (r : ColumnLabel). r.text) rows

    here : (b : Bool) → is_text r.text ≡ b → first_seen (filter is_text texts ++ cond (is_text r.text) (r.text ∷ []) []) ≡ with_label (first_seen (filter is_text texts)) r.text
    here true t = rw t (seen-more (filter is_text texts) r.text)
    here false t = rw t (ap first_seen (append-nil (filter is_text texts)))

pub texts_next : (old new : List (List ℕ)) (rows more : List ColumnLabel) (r : ColumnLabel) → old ≡ texts_of rows → more ≡ rows ++ r ∷ [] → new ≡ with_label old r.text → new ≡ texts_of more
texts_next old new rows more r o m n = n ∙ ap (λ l. with_label l r.text) o ∙ sym (ap texts_of m ∙ texts_more rows r)

pub no_texts : texts_of [] ≡ []
unfolding first_seen
no_texts = refl

pub names_count : {A : Type 0} (name : A → List ℕ) (rows : List A) → length (first_seen (map name rows)) ≤ length rows
names_count name rows = omega (arith, seen-count (map name rows), length-map rows name)

pub place_count : (xs : List (List ℕ)) (x : List ℕ) → position_or_len (bytes_eq x) xs ≤ length xs
place_count [] x = omega arith
place_count (y ∷ ys) x = here (bytes_eq x y) (place_count ys x)
  where
    here : (b : Bool) → position_or_len (bytes_eq x) ys ≤ length ys → cond (not b) (1 + position_or_len (bytes_eq x) ys) 0 ≤ suc (length ys)
    here true more = omega arith
    here false more = omega arith
