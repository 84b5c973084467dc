-- The members of a list.
use Rattle.std.proofs.Common.{◌≡◌, ℕ, zero, suc, ◌<◌, Bool, true, false, cond, List, [], ◌∷◌, length, get_or, map, filter, refl, sym, ◌∙◌, ap, arith, inl, inr, ◌⊎◌, true≢false}
use Rattle.std.specs.List.{Contains}

abbrev pub In : {A : Type 0} → A → List A → Type 0
In z [] = ⊥
In z (x ∷ xs) = (z ≡ x) ⊎ In z xs

pub in-contains : {A : Type 0} (xs : List A) (z : A) → In z xs → Contains xs z
in-contains [] z i = absurd i
in-contains (x ∷ xs) z (inl e) = (0, omega arith, sym e)
in-contains (x ∷ xs) z (inr i) = let c = in-contains xs z i in (suc c.0, omega (arith, c.1), c.2)

pub contains-in : {A : Type 0} (xs : List A) (z : A) → Contains xs z → In z xs
contains-in [] z c = absurd (omega (arith, c.1))
contains-in {A} (x ∷ xs) z c = here c.0 c.1 c.2 (contains-in xs z)
  where
    here : (k : ℕ) → k < length (x ∷ xs) → get_or (x ∷ xs) k z ≡ z → (Contains xs z → In z xs) → In z (x ∷ xs)
    here zero l e more = inl (sym e)
    here (suc k) l e more = inr (more (k, omega arith, e))

pub in-map : {A B : Type 0} (f : A → B) (xs : List A) (y : B) → In y (map f xs) → (x : A) × In x xs × (y ≡ f x)
in-map f [] y i = absurd i
in-map f (x ∷ xs) y (inl e) = (x, inl refl, e)
in-map f (x ∷ xs) y (inr i) = let r = in-map f xs y i in (r.0, inr r.1, r.2)

pub map-in : {A B : Type 0} (f : A → B) (xs : List A) (x : A) → In x xs → In (f x) (map f xs)
map-in f [] x i = absurd i
map-in f (y ∷ ys) x (inl e) = inl (ap f e)
map-in f (y ∷ ys) x (inr i) = inr (map-in f ys x i)

pub filter-in : {A : Type 0} (p : A → Bool) (xs : List A) (x : A) → In x xs → p x ≡ true → In x (filter p xs)
filter-in p [] x i t = absurd i
filter-in {A} p (y ∷ ys) x i t = here (p y) refl i (λ j. filter-in p ys x j t)
  where
    here : (b : Bool) → p y ≡ b → (x ≡ y) ⊎ In x ys → (In x ys → In x (filter p ys)) → In x (cond b (y ∷ filter p ys) (filter p ys))
    here true e (inl same) more = inl same
    here true e (inr j) more = inr (more j)
    here false e (inl same) more = absurd (true≢false (sym (ap p (sym same) ∙ t) ∙ e))
    here false e (inr j) more = more j
