-- Lists that are filtered, joined and read at a place.
use Rattle.std.proofs.Common.{◌≡◌, ℕ, zero, suc, ◌+◌, ◌<◌, ◌≤◌, Bool, true, false, ◌&&◌, ◌||◌, cond, List, [], ◌∷◌, ◌++◌, length, map, filter, take, get_or, All, AllPairs, refl, ◌∙◌, ap, arith}
use Rattle.std.specs.List.{list_any}

pub filter-map : {X Y : Type 0} (p : Y → Bool) (f : X → Y) (xs : List X) → filter p (map f xs) ≡ map f (filter (λ x. p (f x)) xs)
filter-map p f [] = refl
filter-map {X} {Y} p f (x ∷ xs) = here (p (f x)) (filter-map p f xs)
  where
    here : (b : Bool) → filter p (map f xs) ≡ map f (filter (λ x. p (f x)) xs) → cond b (f x ∷ filter p (map f xs)) (filter p (map f xs)) ≡ map f (cond b (x ∷ filter (λ x. p (f x)) xs) (filter (λ x. p (f x)) xs))
    here true e = ap (λ l. f x ∷ l) e
    here false e = e

-- what passes p passes q, so it doesn't matter whether q was tested first
pub filter-filter : {X : Type 0} (p q : X → Bool) → ((x : X) → p x ≡ true → q x ≡ true) → (xs : List X) → filter p (filter q xs) ≡ filter p xs
filter-filter p q h [] = refl
filter-filter p q h (x ∷ xs) = here (p x) (q x) refl refl (filter-filter p q h xs)
  where
    here : (b c : Bool) → p x ≡ b → q x ≡ c → filter p (filter q xs) ≡ filter p xs → filter p (cond c (x ∷ filter q xs) (filter q xs)) ≡ cond b (x ∷ filter p xs) (filter p xs)
    here true true e f rest = rw e (ap (λ l. x ∷ l) rest)
    here true false e f rest = let t : q x ≡ true = h x e in cc
    here false true e f rest = rw e rest
    here false false e f rest = rest

pub filter-swap : {X : Type 0} (p q : X → Bool) (xs : List X) → filter p (filter q xs) ≡ filter q (filter p xs)
filter-swap p q [] = refl
filter-swap p q (x ∷ xs) = here (p x) (q x) refl refl (filter-swap p q xs)
  where
    here : (b c : Bool) → p x ≡ b → q x ≡ c → filter p (filter q xs) ≡ filter q (filter p xs)
        → filter p (cond c (x ∷ filter q xs) (filter q xs)) ≡ filter q (cond b (x ∷ filter p xs) (filter p xs))
    here true true e f rest = rw (e, f) (ap (λ l. x ∷ l) rest)
    here true false e f rest = rw f rest
    here false true e f rest = rw e rest
    here false false e f rest = rest

pub filter-twice : {X : Type 0} (p q : X → Bool) (xs : List X) → filter p (filter q xs) ≡ filter (λ x. q x && p x) xs
filter-twice p q [] = refl
filter-twice p q (x ∷ xs) = here (q x) refl (filter-twice p q xs)
  where
    here : (b : Bool) → q x ≡ b → filter p (filter q xs) ≡ filter (λ x. q x && p x) xs → filter p (filter q (x ∷ xs)) ≡ filter (λ x. q x && p x) (x ∷ xs)
    here true e ih = rw (e, ih) refl
    here false e ih = rw (e, ih) refl

pub filter-same : {X : Type 0} (p q : X → Bool) (xs : List X) → All (λ x. p x ≡ q x) xs → filter p xs ≡ filter q xs
filter-same p q [] same = refl
filter-same p q (x ∷ xs) same =
    ap (λ b. cond b (x ∷ filter p xs) (filter p xs)) (same 0 x (omega arith))
    ∙ ap (λ l. cond (q x) (x ∷ l) l) (filter-same p q xs (λ k d h. same (suc k) d (omega arith)))

pub filter-few : {X : Type 0} (p : X → Bool) (xs : List X) → length (filter p xs) ≤ length xs
filter-few p [] = omega arith
filter-few p (x ∷ xs) = here (p x) (filter-few p xs)
  where
    here : (b : Bool) → length (filter p xs) ≤ length xs → length (cond b (x ∷ filter p xs) (filter p xs)) ≤ suc (length xs)
    here true rest = omega arith
    here false rest = omega arith

pub filter-none : {X : Type 0} (p : X → Bool) (xs : List X) → ((x : X) → p x ≡ false) → [] ≡ filter p xs
filter-none p [] h = refl
filter-none p (x ∷ xs) h = rw (h x) (filter-none p xs h)

pub any-push : {X : Type 0} (p : X → Bool) (xs : List X) (y : X) → list_any p (xs ++ y ∷ []) ≡ (p y || list_any p xs)
any-push p [] y = refl
any-push p (x ∷ xs) y = ap (λ b. p x || b) (any-push p xs y) ∙ swapped (p x) (p y) (list_any p xs)
  where
    swapped : (a b c : Bool) → (a || (b || c)) ≡ (b || (a || c))
    swapped true true c = refl
    swapped true false c = refl
    swapped false true c = refl
    swapped false false c = refl

-- ---- places

-- a list that begins with the front of another
pub get_or-front : {X : Type 0} (xs zs : List X) (a k : ℕ) (d : X) → k < a → a ≤ length xs → get_or (take a xs ++ zs) k d ≡ get_or xs k d
get_or-front xs zs zero k d h l = absurd (omega arith)
get_or-front [] zs (suc a) k d h l = absurd (omega arith)
get_or-front (x ∷ xs) zs (suc a) zero d h l = refl
get_or-front (x ∷ xs) zs (suc a) (suc k) d h l = get_or-front xs zs a k d (omega arith) (omega arith)

pub get_or-behind : {X : Type 0} (xs zs : List X) (a j k : ℕ) (d : X) → j ≡ a + k → a ≤ length xs → get_or (take a xs ++ zs) j d ≡ get_or zs k d
get_or-behind xs zs zero j k d e l = let same : j ≡ k = omega arith in ap (λ i. get_or zs i d) same
get_or-behind [] zs (suc a) j k d e l = absurd (omega arith)
get_or-behind (x ∷ xs) zs (suc a) zero k d e l = absurd (omega arith)
get_or-behind (x ∷ xs) zs (suc a) (suc j) k d e l = get_or-behind xs zs a j k d (omega arith) (omega arith)

pub no-pairs : {X : Type 0} (R : X → X → Type 0) → AllPairs R []
no-pairs R i j d l m = absurd (omega arith)
