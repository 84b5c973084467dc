-- Lists whose elements are mapped, and tests of them.
use Rattle.std.proofs.Common.{◌≡◌, ℕ, zero, suc, ◌+◌, ◌<◌, Bool, true, false, cond, List, [], ◌∷◌, ◌++◌, map, filter, filter_map, find, fold, Option, Some, None, option_map, refl, ◌∙◌, ap, arith, count_by}
use Rattle.pl_spec.proofs.Each.{Each}
use Rattle.pl_spec.specs.Window.{downward}
use Rattle.std.specs.List.{list_any, list_all, flat_map, cons_option}

pub find-map : {X Y : Type 0} (p : Y → Bool) (f : X → Y) (xs : List X) → find p (map f xs) ≡ option_map f (find (λ x. p (f x)) xs)
find-map p f [] = refl
find-map {X} {Y} p f (x ∷ xs) = here (p (f x)) (find-map p f xs)
  where
    here : (b : Bool) → find p (map f xs) ≡ option_map f (find (λ x. p (f x)) xs) → cond b (Some (f x)) (find p (map f xs)) ≡ option_map f (cond b (Some x) (find (λ x. p (f x)) xs))
    here true e = refl
    here false e = e

pub any-map : {X Y : Type 0} (p : Y → Bool) (f : X → Y) (xs : List X) → list_any p (map f xs) ≡ list_any (λ x. p (f x)) xs
any-map p f [] = refl
any-map p f (x ∷ xs) = rw (any-map p f xs) refl

pub all-map : {X Y : Type 0} (p : Y → Bool) (f : X → Y) (xs : List X) → list_all p (map f xs) ≡ list_all (λ x. p (f x)) xs
all-map p f [] = refl
all-map p f (x ∷ xs) = rw (all-map p f xs) refl

pub fold-map : {X Y Z : Type 0} (g : Z → Y → Z) (f : X → Y) (z : Z) (xs : List X) → fold g z (map f xs) ≡ fold (λ a x. g a (f x)) z xs
fold-map g f z [] = refl
fold-map g f z (x ∷ xs) = fold-map g f (g z (f x)) xs

pub count-map : {X Y : Type 0} (p : Y → Bool) (f : X → Y) (xs : List X) → count_by p (map f xs) ≡ count_by (λ x. p (f x)) xs
count-map p f xs = fold-map (λ a x. a + cond (p x) 1 0) f 0 xs

pub maps : {X Y Z : Type 0} (g : Y → Z) (f : X → Y) (xs : List X) → map g (map f xs) ≡ map (λ x. g (f x)) xs
maps g f [] = refl
maps g f (x ∷ xs) = ap (λ l. g (f x) ∷ l) (maps g f xs)

pub flat-map : {X Y Z : Type 0} (g : Y → Z) (f : X → List Y) (xs : List X) → map g (flat_map f xs) ≡ flat_map (λ x. map g (f x)) xs
flat-map g f [] = refl
flat-map {Y = Y} {Z = Z} g f (x ∷ xs) = appended (f x) (flat_map f xs) ∙ ap (λ l. map g (f x) ++ l) (flat-map g f xs)
  where
    appended : (ys zs : List Y) → map g (ys ++ zs) ≡ map g ys ++ map g zs
    appended [] zs = refl
    appended (y ∷ ys) zs = ap (λ l. g y ∷ l) (appended ys zs)

-- ---- what is picked out of a list

pub picked-map : {X Y Z : Type 0} (g : Y → Option Z) (f : X → Y) (xs : List X) → filter_map g (map f xs) ≡ filter_map (λ x. g (f x)) xs
picked-map g f [] = refl
picked-map g f (x ∷ xs) = ap (cons_option (g (f x))) (picked-map g f xs)

pub picked-after : {X Y Z : Type 0} (h : Y → Z) (k : X → Option Y) (xs : List X) → filter_map (λ x. option_map h (k x)) xs ≡ map h (filter_map k xs)
picked-after h k [] = refl
picked-after {X} {Y} {Z} h k (x ∷ xs) = here (k x) (picked-after h k xs)
  where
    here : (o : Option Y) → filter_map (λ x. option_map h (k x)) xs ≡ map h (filter_map k xs) → cons_option (option_map h o) (filter_map (λ x. option_map h (k x)) xs) ≡ map h (cons_option o (filter_map k xs))
    here None e = e
    here (Some y) e = ap (λ l. h y ∷ l) e

-- ---- the numbers below one

pub each-below : (P : ℕ → Type 0) (size : ℕ) → ((n : ℕ) → n < size → P n) → Each P (downward size)
each-below P zero h = tt
each-below P (suc size) h = (h size (omega arith), each-below P size (λ n l. h n (omega arith)))

-- ---- what is kept of two lists

pub kept-both : {X : Type 0} (p : X → Bool) (xs ys : List X) → filter p (xs ++ ys) ≡ filter p xs ++ filter p ys
kept-both p [] ys = refl
kept-both {X} p (x ∷ xs) ys = here (p x) (kept-both p xs ys)
  where
    here : (b : Bool) → filter p (xs ++ ys) ≡ filter p xs ++ filter p ys → cond b (x ∷ filter p (xs ++ ys)) (filter p (xs ++ ys)) ≡ cond b (x ∷ filter p xs) (filter p xs) ++ filter p ys
    here true e = ap (λ l. x ∷ l) e
    here false e = e
