-- Lists whose elements change places.
use Rattle.std.proofs.Common.{◌≡◌, ℕ, zero, suc, ◌<◌, ◌≤◌, Bool, true, false, cond, List, [], ◌∷◌, length, get_or, set, filter, find, Option, Some, None, All, Contains, IsPermutation, refl, sym, ◌∙◌, ap, subst, arith}
use Rattle.std.specs.List.{list_all}
use Rattle.std.proofs.lemmas.Bool.{true≢false}
use Rattle.std.proofs.lemmas.List.Edits.{swap_is}
use Rattle.std.proofs.lemmas.List.Elements.{All-cons}
use Rattle.std.proofs.lemmas.List.Sorted.{IsPermutation-refl, IsPermutation-trans, IsPermutation-cons, IsPermutation-sym, IsPermutation-keeps, All-permutation, Contains-permutation, length_permutation}
use Rattle.pl_spec.proofs.Finds.{contains-all, all-contains, find-one, find-none, contains-behind}

-- an element of a list that has some
first : {X : Type 0} (xs : List X) (i : ℕ) → i < length xs → X
first [] i h = absurd (omega arith)
first (x ∷ xs) i h = x

-- What holds of a list and itself, from list to list, under a first element, and of two first elements that
-- change places, holds of a list and each permutation of it.
module _ {X : Type 0} (R : List X → List X → Type 0) (same : (xs : List X) → R xs xs) (chain : (xs ys zs : List X) → R xs ys → R ys zs → R xs zs)
    (under : (x : X) (xs ys : List X) → R xs ys → R (x ∷ xs) (x ∷ ys)) (flip : (x y : X) (xs : List X) → R (x ∷ y ∷ xs) (y ∷ x ∷ xs)) where
  to_place : (x : X) (xs : List X) (i : ℕ) (d : X) → i < length xs → R (x ∷ xs) (get_or xs i d ∷ set xs i x)
  to_place x [] i d h = absurd (omega arith)
  to_place x (y ∷ ys) zero d h = flip x y ys
  to_place x (y ∷ ys) (suc i) d h =
      let deeper : R (x ∷ ys) (get_or ys i d ∷ set ys i x) = to_place x ys i d (omega arith) in
      chain (x ∷ y ∷ ys) (y ∷ x ∷ ys) (get_or ys i d ∷ y ∷ set ys i x) (flip x y ys)
      (chain (y ∷ x ∷ ys) (y ∷ get_or ys i d ∷ set ys i x) (get_or ys i d ∷ y ∷ set ys i x) (under y (x ∷ ys) (get_or ys i d ∷ set ys i x) deeper) (flip y (get_or ys i d) (set ys i x)))

  exchanged : (xs : List X) (i j : ℕ) (d : X) → i < length xs → j < length xs → R xs (set (set xs i (get_or xs j d)) j (get_or xs i d))
  exchanged [] i j d h l = absurd (omega arith)
  exchanged (x ∷ xs) zero zero d h l = same (x ∷ xs)
  exchanged (x ∷ xs) zero (suc j) d h l = to_place x xs j d (omega arith)
  exchanged (x ∷ xs) (suc i) zero d h l = to_place x xs i d (omega arith)
  exchanged (x ∷ xs) (suc i) (suc j) d h l = under x xs (set (set xs i (get_or xs j d)) j (get_or xs i d)) (exchanged xs i j d (omega arith) (omega arith))

  pub permuted : (xs ys : List X) → IsPermutation xs ys → R xs ys
  permuted xs ys = IsPermutation-keeps xs (λ l. R xs l) (same xs)
      (λ l i j p q h. chain xs l _ h (subst (R l) (swap_is l i j (first l i p) p q) (exchanged l i j (first l i p) p q))) ys

pub flipped : {X : Type 0} (x y : X) (xs : List X) → IsPermutation (x ∷ y ∷ xs) (y ∷ x ∷ xs)
flipped x y xs = record { moves = (0, 1) ∷ []; below = (omega arith, omega arith, tt); is = refl }

-- those that pass a test change places alone
pub filter-permuted : {X : Type 0} (p : X → Bool) (xs ys : List X) → IsPermutation xs ys → IsPermutation (filter p xs) (filter p ys)
filter-permuted {X} p =
    permuted (λ xs ys. IsPermutation (filter p xs) (filter p ys)) (λ xs. IsPermutation-refl (filter p xs)) (λ xs ys zs. IsPermutation-trans (filter p xs) (filter p ys) (filter p zs))
    (λ x xs ys h. under (p x) x (filter p xs) (filter p ys) h) (λ x y xs. flip (p x) (p y) x y (filter p xs))
  where
    under : (b : Bool) (x : X) (us vs : List X) → IsPermutation us vs → IsPermutation (cond b (x ∷ us) us) (cond b (x ∷ vs) vs)
    under true x us vs h = IsPermutation-cons x us vs h
    under false x us vs h = h

    flip : (b c : Bool) (x y : X) (us : List X) → IsPermutation (cond b (x ∷ cond c (y ∷ us) us) (cond c (y ∷ us) us)) (cond c (y ∷ cond b (x ∷ us) us) (cond b (x ∷ us) us))
    flip true true x y us = flipped x y us
    flip true false x y us = IsPermutation-refl (x ∷ us)
    flip false true x y us = IsPermutation-refl (y ∷ us)
    flip false false x y us = IsPermutation-refl us

pub list_all-permuted : {X : Type 0} (p : X → Bool) (xs ys : List X) → IsPermutation xs ys → list_all p xs ≡ list_all p ys
list_all-permuted p xs ys h = here (list_all p xs) (list_all p ys) refl refl
  where
    carried : {X : Type 0} (p : X → Bool) (us vs : List X) → IsPermutation us vs → list_all p us ≡ true → list_all p vs ≡ true
    carried p us vs h e = contains-all p vs (λ x l. all-contains p us e x (Contains-permutation vs us x (IsPermutation-sym us vs h) l))

    here : (b c : Bool) → list_all p xs ≡ b → list_all p ys ≡ c → b ≡ c
    here true true e f = refl
    here true false e f = sym (carried p xs ys h e) ∙ f
    here false true e f = sym e ∙ carried p ys xs (IsPermutation-sym xs ys h) f
    here false false e f = refl

-- ---- what alone passes a test

find-is : {X : Type 0} (p : X → Bool) (xs : List X) (x : X) → find p xs ≡ Some x → Contains xs x × (p x ≡ true)
find-is p [] x e = cc
find-is {X} p (y ∷ ys) x e = here (p y) refl e (find-is p ys x)
  where
    here : (b : Bool) → p y ≡ b → cond b (Some y) (find p ys) ≡ Some x → (find p ys ≡ Some x → Contains ys x × (p x ≡ true)) → Contains (y ∷ ys) x × (p x ≡ true)
    here true f g rest = let same : y ≡ x = cc in ((0, omega arith, same), ap p (sym same) ∙ f)
    here false f g rest = (contains-behind y ys x (rest g).0, (rest g).1)

find-misses : {X : Type 0} (p : X → Bool) (xs : List X) → find p xs ≡ None → All (λ x. p x ≡ false) xs
find-misses p [] e = λ k d h. absurd (omega arith)
find-misses {X} p (y ∷ ys) e = here (p y) refl e (find-misses p ys)
  where
    here : (b : Bool) → p y ≡ b → cond b (Some y) (find p ys) ≡ None → (find p ys ≡ None → All (λ x. p x ≡ false) ys) → All (λ x. p x ≡ false) (y ∷ ys)
    here true f g rest = cc
    here false f g rest = All-cons (λ x. p x ≡ false) y ys f (rest g)

-- it is found in whatever order the list stands
pub find-permuted : {X : Type 0} (p : X → Bool) (xs ys : List X) → IsPermutation xs ys
    → ((x y : X) → Contains xs x → Contains xs y → p x ≡ true → p y ≡ true → x ≡ y) → find p xs ≡ find p ys
find-permuted {X} p xs ys h one = here (find p xs) refl
  where
    back : (y : X) → Contains ys y → Contains xs y
    back y = Contains-permutation ys xs y (IsPermutation-sym xs ys h)

    here : (o : Option X) → find p xs ≡ o → find p xs ≡ find p ys
    here (Some x) e =
        let is = find-is p xs x e in
        e ∙ sym (find-one p ys x (Contains-permutation xs ys x h is.0) is.1 (λ y l f. one y x (back y l) is.0 f is.1))
    here None e =
        let none : All (λ x. p x ≡ false) ys = All-permutation (λ x. p x ≡ false) xs ys h (find-misses p xs e) in
        e ∙ sym (find-none p ys (λ y l f. true≢false (sym f ∙ ap p (sym l.2) ∙ none l.0 y l.1)))

-- a list of no more than one element is its only permutation
pub one-permuted : {X : Type 0} (xs ys : List X) → length xs ≤ 1 → IsPermutation xs ys → xs ≡ ys
one-permuted [] ys few h = empty ys (length_permutation [] ys h)
  where
    empty : {X : Type 0} (ys : List X) → length ys ≡ 0 → [] ≡ ys
    empty [] e = refl
    empty (y ∷ ys) e = absurd (omega (arith, e))
one-permuted {X} (x ∷ []) ys few h = single ys (length_permutation (x ∷ []) ys h) (Contains-permutation (x ∷ []) ys x h (0, omega arith, refl))
  where
    single : (ys : List X) → length ys ≡ 1 → Contains ys x → x ∷ [] ≡ ys
    single [] e l = absurd (omega (arith, e))
    single (y ∷ []) e l = at l.0 l.1 l.2
      where
        at : (k : ℕ) → k < 1 → get_or (y ∷ []) k x ≡ x → x ∷ [] ≡ y ∷ []
        at zero k e = ap (λ z. z ∷ []) (sym e)
        at (suc k) m e = absurd (omega arith)
    single (y ∷ z ∷ ys) e l = absurd (omega (arith, e))
one-permuted (x ∷ y ∷ xs) ys few h = absurd (omega arith)
