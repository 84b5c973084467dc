-- How many elements of a list pass a test.
use Rattle.std.proofs.Common.{◌≡◌, ℕ, suc, ◌+◌, ◌≤◌, Bool, true, false, cond, List, [], ◌∷◌, map, refl, sym, ◌∙◌, ap, arith, inl, inr, ◌⊎◌}
use Rattle.std.specs.List.{count_by}
use Rattle.std.proofs.lemmas.List.Sums.{sum_by-cons}
use Rattle.pl_spec.proofs.Members.{In}

pub count-cons : {A : Type 0} (p : A → Bool) (x : A) (xs : List A) → count_by p (x ∷ xs) ≡ cond (p x) 1 0 + count_by p xs
count-cons p x xs = sum_by-cons (λ y. cond (p y) 1 0) x xs

pub one_more : (b : Bool) (n m : ℕ) → n ≤ m → cond b 1 0 + n ≤ suc m
one_more true n m h = omega arith
one_more false n m h = omega arith

pub at_most : (b c : Bool) (n m : ℕ) → (b ≡ true → c ≡ true) → n ≤ m → cond b 1 0 + n ≤ cond c 1 0 + m
at_most true true n m i h = omega arith
at_most true false n m i h = absurd (let no : false ≡ true = i refl in cc)
at_most false true n m i h = omega arith
at_most false false n m i h = omega arith

-- what passes p passes q
pub count-within : {A : Type 0} (p q : A → Bool) (xs : List A) → ((y : A) → In y xs → p y ≡ true → q y ≡ true) → count_by p xs ≤ count_by q xs
count-within p q [] h = omega arith
count-within p q (x ∷ xs) h =
    rw (count-cons p x xs, count-cons q x xs)
    (at_most (p x) (q x) (count_by p xs) (count_by q xs) (h x (inl refl)) (count-within p q xs (λ y i. h y (inr i))))

-- and x passes q alone
pub count-fewer : {A : Type 0} (p q : A → Bool) (xs : List A) (x : A) → In x xs → p x ≡ false → q x ≡ true
    → ((y : A) → In y xs → p y ≡ true → q y ≡ true) → suc (count_by p xs) ≤ count_by q xs
count-fewer p q [] x i fails passes h = absurd i
count-fewer {A} p q (z ∷ zs) x i fails passes h =
    rw (count-cons p z zs, count-cons q z zs) (here i (λ j. count-fewer p q zs x j fails passes (λ y k. h y (inr k))) (count-within p q zs (λ y k. h y (inr k))))
  where
    here : (x ≡ z) ⊎ In x zs → (In x zs → suc (count_by p zs) ≤ count_by q zs) → count_by p zs ≤ count_by q zs
        → suc (cond (p z) 1 0 + count_by p zs) ≤ cond (q z) 1 0 + count_by q zs
    here (inl same) more rest =
        let a : p z ≡ false = ap p (sym same) ∙ fails in
        let b : q z ≡ true = ap q (sym same) ∙ passes in
        rw (a, b) (omega arith)
    here (inr j) more rest = omega (arith, more j, at_most (p z) (q z) 0 0 (h z (inl refl)) (omega arith))

-- functions that agree on the elements of a list
pub map-agree : {A B : Type 0} (f g : A → B) (xs : List A) → ((y : A) → In y xs → f y ≡ g y) → map f xs ≡ map g xs
map-agree f g [] h = refl
map-agree f g (x ∷ xs) h = ap (λ y. y ∷ map f xs) (h x (inl refl)) ∙ ap (λ ys. g x ∷ ys) (map-agree f g xs (λ y i. h y (inr i)))

pub count-agree : {A : Type 0} (p q : A → Bool) (xs : List A) → ((y : A) → In y xs → p y ≡ q y) → count_by p xs ≡ count_by q xs
count-agree p q [] h = refl
count-agree p q (x ∷ xs) h =
    let first : p x ≡ q x = h x (inl refl) in
    rw (count-cons p x xs, count-cons q x xs, first) (omega (arith, count-agree p q xs (λ y i. h y (inr i))))

pub count-map : {A B : Type 0} (p : B → Bool) (f : A → B) (xs : List A) → count_by p (map f xs) ≡ count_by (λ x. p (f x)) xs
count-map p f [] = refl
count-map p f (x ∷ xs) = rw (count-cons p (f x) (map f xs), count-cons (λ y. p (f y)) x xs) (omega (arith, count-map p f xs))
