-- Rows that have a name, a column and a day, by which they are told apart.
use Rattle.std.proofs.Common.{◌≡◌, ℕ, ◌<◌, ◌==◌, ◌&&◌, Bool, true, false, true≢false, cond, ℤ, ◌≤ℤ◌, List, [], ◌∷◌, ◌++◌, length, get_or, Contains, map, filter, find, Option, Some, option_map, Any, refl, sym, ap, ◌∙◌, arith, inl, inr, eq-eqb, eqb-true}
use Rattle.std.specs.Bool.{Decides}
use Rattle.std.specs.Cmp.{both_ways}
use Rattle.std.specs.Int.RustNames.{int_le}
use Rattle.std.specs.List.{list_any, list_all, AllPairs}
use Rattle.std.specs.Ordering.{int_eq}
use Rattle.std.specs.Str.{bytes_eq}
use Rattle.std.proofs.lemmas.Bool.{and_parts, cases_lt}
use Rattle.std.proofs.lemmas.List.{length-map, get_or-map, get_or_default}
use Rattle.std.proofs.lemmas.List.Elements.{Contains-get_or}
use Rattle.std.proofs.lemmas.List.Folds.{list_all-map}
use Rattle.std.proofs.lemmas.List.Quantifiers.{all_pairs_push}
use Rattle.pl_spec.proofs.Lists.{filter-map}
use Rattle.pl_spec.proofs.Signed.{int_eq-true, eq-int_eq, int_le-true, le-int_le}
use Rattle.pl_records.proofs.RuleTables.{any-tells}
use Rattle.pl_records.proofs.Sorts.{none-at}
use Rattle.pl_assets.proofs.FirstSeen.{same_text, equal_text}

pub record Dated (A : Type 0) : Type 0 where
  pub name : A → List ℕ
  pub col : A → ℕ
  pub day : A → ℤ

-- ---- look-ups in a list that is read through a function

find-mapped : {A B : Type 0} (p : B → Bool) (f : A → B) (xs : List A) → find p (map f xs) ≡ option_map f (find (λ x. p (f x)) xs)
find-mapped p f [] = refl
find-mapped p f (x ∷ xs) = ap (cond (p (f x)) (Some (f x))) (find-mapped p f xs) ∙ here (p (f x))
  where
    here : (b : Bool) → cond b (Some (f x)) (option_map f (find (λ x. p (f x)) xs)) ≡ option_map f (cond b (Some x) (find (λ x. p (f x)) xs))
    here true = refl
    here false = refl

find-same : {A : Type 0} (p q : A → Bool) → ((x : A) → p x ≡ q x) → (xs : List A) → find p xs ≡ find q xs
find-same p q same [] = refl
find-same p q same (x ∷ xs) = ap (λ b. cond b (Some x) (find p xs)) (same x) ∙ ap (cond (q x) (Some x)) (find-same p q same xs)

-- ---- elements of lists that are read through a function

pub contains_mapped : {A B : Type 0} (f : A → B) (xs : List A) (x : A) → Contains xs x → Contains (map f xs) (f x)
contains_mapped f xs x h = (h.0, (let l : h.0 < length xs = h.1 in omega (arith, length-map xs f)), get_or-map f xs h.0 x (f x) h.1 ∙ ap f h.2)

pub mapped_contains : {A B : Type 0} (f : A → B) (xs : List A) (y : B) (d : A) → Contains (map f xs) y → (x : A) × Contains xs x × (f x ≡ y)
mapped_contains f xs y d h =
    let l : h.0 < length xs = (let m : h.0 < length (map f xs) = h.1 in omega (arith, length-map xs f)) in
    (get_or xs h.0 d, Contains-get_or xs h.0 d l, sym (get_or-map f xs h.0 d y l) ∙ h.2)

-- ---- rows that are told apart

module _ {A : Type 0} (dated : Dated A) where
  -- the row under the name of the column from the day on
  abbrev pub is_from : List ℕ → ℕ → ℤ → A → Bool
  is_from name col day r = bytes_eq (dated.name r) name && (dated.col r == col && int_eq (dated.day r) day)

  -- both rows are so
  abbrev pub clash : A → A → Bool
  clash r x = is_from (dated.name r) (dated.col r) (dated.day r) x

  pub from_parts : (name : List ℕ) (col : ℕ) (day : ℤ) (r : A) → is_from name col day r ≡ true → (dated.name r ≡ name) × (dated.col r ≡ col) × (dated.day r ≡ day)
  from_parts name col day r t =
      let front = and_parts (bytes_eq (dated.name r) name) (dated.col r == col && int_eq (dated.day r) day) t in
      let back = and_parts (dated.col r == col) (int_eq (dated.day r) day) front.1 in
      (same_text (dated.name r) name front.0, eqb-true (dated.col r) col back.0, int_eq-true (dated.day r) day back.1)

  pub parts_from : (name : List ℕ) (col : ℕ) (day : ℤ) (r : A) → dated.name r ≡ name → dated.col r ≡ col → dated.day r ≡ day → is_from name col day r ≡ true
  parts_from name col day r e f g = rw (e, f, g, equal_text name, eq-eqb col col refl, eq-int_eq day day refl) refl

  pub flips : (a b : A) → clash a b ≡ clash b a
  flips a b = both_ways _ _ (turned a b) (turned b a)
    where
      turned : (a b : A) → clash a b ≡ true → clash b a ≡ true
      turned a b t =
          let p = from_parts (dated.name a) (dated.col a) (dated.day a) b t in
          parts_from (dated.name b) (dated.col b) (dated.day b) a (sym p.0) (sym p.1) (sym p.2)

  -- of the name and the column, from the day on or from one before it
  abbrev pub is_by : List ℕ → ℕ → ℤ → A → Bool
  is_by name col day r = bytes_eq (dated.name r) name && dated.col r == col && int_le (dated.day r) day

  pub by-tells : (name : List ℕ) (col : ℕ) (day : ℤ) (r : A) → Decides (is_by name col day r) ((dated.name r ≡ name) × (dated.col r ≡ col) × (dated.day r ≤ℤ day))
  by-tells name col day r = (there, λ h. rw (h.0, h.1, equal_text name, eq-eqb col col refl, le-int_le (dated.day r) day h.2) refl)
    where
      there : is_by name col day r ≡ true → (dated.name r ≡ name) × (dated.col r ≡ col) × (dated.day r ≤ℤ day)
      there t =
          let front = and_parts (bytes_eq (dated.name r) name && dated.col r == col) (int_le (dated.day r) day) t in
          let parts = and_parts (bytes_eq (dated.name r) name) (dated.col r == col) front.0 in
          (same_text (dated.name r) name parts.0, eqb-true (dated.col r) col parts.1, int_le-true (dated.day r) day front.1)

  -- with one more that is not from where one of them is
  pub once-more : (rows : List A) (r : A) → AllPairs (λ a b. clash a b ≡ false) rows → list_any (clash r) rows ≡ false → AllPairs (λ a b. clash a b ≡ false) (rows ++ r ∷ [])
  once-more rows r once e = all_pairs_push (λ a b. clash a b ≡ false) rows r once (λ k d l. flips (get_or rows k d) r ∙ none-at (clash r) rows e k d l)

  pub clash-tells : (before : List A) (row : A) → Decides (list_any (clash row) before) (Any (λ x. (dated.name x ≡ dated.name row) × (dated.col x ≡ dated.col row) × (dated.day x ≡ dated.day row)) before)
  clash-tells before row =
      any-tells (clash row) (λ x. (dated.name x ≡ dated.name row) × (dated.col x ≡ dated.col row) × (dated.day x ≡ dated.day row))
      (λ x. (from_parts (dated.name row) (dated.col row) (dated.day row) x, λ h. parts_from (dated.name row) (dated.col row) (dated.day row) x h.0 h.1 h.2)) before

  -- a row from where another is, is that other
  one_row : (rows : List A) → AllPairs (λ a b. clash a b ≡ false) rows → (r q : A) → Contains rows r → Contains rows q → clash r q ≡ true → r ≡ q
  one_row rows once r q h g t = elim (cases_lt h.0 g.0) [
    | inl lt ↦ absurd (true≢false (sym t ∙ apart r q h.0 g.0 lt g.1 h.2 (get_or_default rows g.0 r q g.1 ∙ g.2)))
    | inr ge ↦ elim (cases_lt g.0 h.0) [
      | inl lt ↦ absurd (true≢false (sym (flips q r ∙ t) ∙ apart q r g.0 h.0 lt h.1 g.2 (get_or_default rows h.0 q r h.1 ∙ h.2)))
      | inr le ↦ (let same : h.0 ≡ g.0 = omega arith in sym h.2 ∙ ap (λ k. get_or rows k r) same ∙ get_or_default rows g.0 r q g.1 ∙ g.2)
    ]
  ]
    where
      apart : (x y : A) (i j : ℕ) → i < j → j < length rows → get_or rows i x ≡ x → get_or rows j x ≡ y → clash x y ≡ false
      apart x y i j lt l a b = let it : clash (get_or rows i x) (get_or rows j x) ≡ false = once i j x lt l in rw (a, b) at it

  -- nor have two of these one name, column and day, where they are read through a function that keeps them
  pub once-mapped : {B : Type 0} (other : Dated B) (f : A → B) → ((r : A) → (other.name (f r) ≡ dated.name r) × (other.col (f r) ≡ dated.col r) × (other.day (f r) ≡ dated.day r)) → A
      → (rows : List A) → AllPairs (λ a b. clash a b ≡ false) rows
      → (r q : B) → Contains (map f rows) r → Contains (map f rows) q → other.name r ≡ other.name q → other.col r ≡ other.col q → other.day r ≡ other.day q → r ≡ q
  once-mapped other f same blank rows once r q h g n c d =
      let x = mapped_contains f rows r blank h in
      let y = mapped_contains f rows q blank g in
      let t : clash x.0 y.0 ≡ true = parts_from (dated.name x.0) (dated.col x.0) (dated.day x.0) y.0
      (sym (same y.0).0 ∙ ap other.name y.2 ∙ sym n ∙ sym (ap other.name x.2) ∙ (same x.0).0)
      (sym (same y.0).1 ∙ ap other.col y.2 ∙ sym c ∙ sym (ap other.col x.2) ∙ (same x.0).1)
      (sym (same y.0).2 ∙ ap other.day y.2 ∙ sym d ∙ sym (ap other.day x.2) ∙ (same x.0).2) in
      sym x.2 ∙ ap f (one_row rows once x.0 y.0 x.1 y.1 t) ∙ y.2

  -- ---- the row of the last day

  pub last_row : List A → Option A
  last_row rows = find (λ r. list_all (λ q. int_le (dated.day q) (dated.day r)) rows) rows

  -- of rows that are read through a function which keeps their days, and pass a test
  pub last-mapped : {B : Type 0} (day : B → ℤ) (f : A → B) → ((r : A) → day (f r) ≡ dated.day r) → (test : B → Bool) (rows : List A)
      → find (λ r. list_all (λ q. int_le (day q) (day r)) (filter test (map f rows))) (filter test (map f rows)) ≡ option_map f (last_row (filter (λ r. test (f r)) rows))
  unfolding last_row
  last-mapped {B} day f same test rows = ap (λ l. find (λ r. list_all (λ q. int_le (day q) (day r)) l) l) (filter-map test f rows) ∙ here (filter (λ r. test (f r)) rows)
    where
      all_same : (p q : A → Bool) → ((x : A) → p x ≡ q x) → (xs : List A) → list_all p xs ≡ list_all q xs
      all_same p q alike [] = refl
      all_same p q alike (x ∷ xs) = ap (λ b. b && list_all p xs) (alike x) ∙ ap (λ b. q x && b) (all_same p q alike xs)

      here : (xs : List A) → find (λ r. list_all (λ q. int_le (day q) (day r)) (map f xs)) (map f xs) ≡ option_map f (find (λ r. list_all (λ q. int_le (dated.day q) (dated.day r)) xs) xs)
      here xs =
          find-mapped (λ r. list_all (λ q. int_le (day q) (day r)) (map f xs)) f xs
          ∙ ap (option_map f) (find-same _ _ (λ r. list_all-map (λ q. int_le (day q) (day (f r))) f xs
          ∙ all_same (λ q. int_le (day (f q)) (day (f r))) (λ q. int_le (dated.day q) (dated.day r)) (λ q. ap (λ s. int_le s (day (f r))) (same q) ∙ ap (int_le (dated.day q)) (same r)) xs) xs)
