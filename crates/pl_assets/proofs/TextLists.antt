-- Lists of distinct texts.
use Rattle.std.proofs.Common.{◌≡◌, ℕ, ◌+◌, ◌<◌, ◌||◌, not, Bool, true, false, cond, if◌then◌else◌, List, [], ◌∷◌, ◌++◌, length, take, map, get_or, Some, None, refl, sym, ap, ◌∙◌, arith}
use Rattle.std.proofs.lemmas.List.{length-map, map-append, take-append-le, take_all, get_or-map}
use Rattle.std.proofs.lemmas.List.Folds.{list_any_at, list_any_none}
use Rattle.std.proofs.lemmas.List.Quantifiers.{position-Some}
use Rattle.std.specs.List.{prefix_len, position, position_or_len, list_any}
use Rattle.std.specs.Str.{bytes_eq}
use Rattle.indexmap.specs.IndexSet.{insert_key}
use Rattle.pl_spec.proofs.Places.{first_at, nowhere}
use Rattle.pl_assets.specs.Labels.{with_text}

-- ---- tests on a list that is read through a function

pub prefix-map : {A B : Type 0} (p : B → Bool) (f : A → B) (xs : List A) → prefix_len p (map f xs) ≡ prefix_len (λ x. p (f x)) xs
prefix-map p f [] = refl
prefix-map p f (x ∷ xs) = ap (λ n. cond (p (f x)) (1 + n) 0) (prefix-map p f xs)

pub position-map : {A B : Type 0} (p : B → Bool) (f : A → B) (xs : List A) → position p (map f xs) ≡ position (λ x. p (f x)) xs
position-map p f xs = rw (prefix-map (λ y. not (p y)) f xs, length-map) refl

pub any-map : {A B : Type 0} (p : B → Bool) (f : A → B) (xs : List A) → list_any p (map f xs) ≡ list_any (λ x. p (f x)) xs
any-map p f [] = refl
any-map p f (x ∷ xs) = ap (λ b. p (f x) || b) (any-map p f xs)

-- ---- one text more

joined : {A : Type 0} (f : A → List ℕ) (ks : List A) (k : A) (b : Bool) → map f (cond b ks (ks ++ k ∷ [])) ≡ cond b (map f ks) (map f ks ++ f k ∷ [])
joined f ks k true = refl
joined f ks k false = map-append f ks (k ∷ [])

pub inserted : {A : Type 0} (f : A → List ℕ) (ks : List A) (k : A) → map f (insert_key (λ x y. bytes_eq (f x) (f y)) ks k) ≡ with_text (map f ks) (f k)
inserted f ks k = rw (any-map (bytes_eq (f k)) f ks) (joined f ks k _)

pub any_there : {A : Type 0} (p : A → Bool) (xs : List A) (n : ℕ) → position p xs ≡ Some n → list_any p xs ≡ true
any_there p [] n e = absurd (let bad : None ≡ Some n = e in cc)
any_there p (x ∷ xs) n e = let it = position-Some p (x ∷ xs) n x e in list_any_at p (x ∷ xs) n x it.0 it.1

pub none_there : {A : Type 0} (p : A → Bool) (xs : List A) → position p xs ≡ None → list_any p xs ≡ false
none_there p xs e = list_any_none p xs (λ k d h. nowhere p xs e k d h)

pub place_there : {A : Type 0} (p : A → Bool) (xs : List A) (n : ℕ) → position p xs ≡ Some n → n ≡ position_or_len p xs
place_there p [] n e = absurd (let bad : None ≡ Some n = e in cc)
place_there p (x ∷ xs) n e = let it = position-Some p (x ∷ xs) n x e in sym (first_at p (x ∷ xs) n x it.0 it.1 it.2)

-- a text that has a place is not new
pub not_new : (texts : List (List ℕ)) (text : List ℕ) (n : ℕ) → position (bytes_eq text) texts ≡ Some n → texts ≡ with_text texts text
not_new texts text n e = rw (any_there (bytes_eq text) texts n e) refl

pub is_new : (texts : List (List ℕ)) (text : List ℕ) → position (bytes_eq text) texts ≡ None → with_text texts text ≡ texts ++ text ∷ []
is_new texts text e = rw (none_there (bytes_eq text) texts e) refl

pub front-with_text : (texts : List (List ℕ)) (text : List ℕ) → take (length texts) (with_text texts text) ≡ texts
front-with_text texts text = here (list_any (bytes_eq text) texts)
  where
    all : take (length texts) texts ≡ texts
    all = take_all (length texts) texts (omega arith)

    here : (b : Bool) → take (length texts) (if b then texts else texts ++ text ∷ []) ≡ texts
    here true = all
    here false = take-append-le (length texts) texts (text ∷ []) (omega arith) ∙ all

-- ---- the fields of texts

pub field_behind : {A : Type 0} (f : A → List ℕ) (g : List ℕ → List ℕ) (fields more : List A) (texts new : List (List ℕ)) (field : A) (text : List ℕ) → map f fields ≡ map g texts
    → more ≡ fields ++ field ∷ [] → f field ≡ g text → new ≡ with_text texts text → position (bytes_eq text) texts ≡ None → map f more ≡ map g new
field_behind f g fields more texts new field text same m e n none =
    ap (map f) m ∙ map-append f fields (field ∷ []) ∙ ap (λ l. l ++ f field ∷ []) same ∙ ap (λ t. map g texts ++ t ∷ []) e
    ∙ sym (map-append g texts (text ∷ [])) ∙ ap (map g) (sym (n ∙ is_new texts text none))

pub field_at_code : {A : Type 0} (f : A → List ℕ) (g : List ℕ → List ℕ) (fields : List A) (texts : List (List ℕ)) (n : ℕ) (field : A) → map f fields ≡ map g texts → n < length texts
    → field ≡ get_or fields n field → f field ≡ g (get_or texts n [])
field_at_code f g fields texts n field same h e =
    let l : length (map f fields) ≡ length (map g texts) = ap length same in
    let many : length fields ≡ length texts = omega (arith, length-map fields f, length-map texts g) in
    ap f e ∙ sym (get_or-map f fields n field (g []) (omega arith)) ∙ ap (λ l. get_or l n (g [])) same ∙ get_or-map g texts n [] (g []) h
