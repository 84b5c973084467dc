-- Lists from which rows are left out that do not count.
use Rattle.std.proofs.Common.{◌≡◌, Bool, true, false, ◌&&◌, ◌||◌, cond, inl, inr, List, [], ◌∷◌, map, filter, filter_map, find, Option, Some, None, refl, sym, ◌∙◌, ap}
use Rattle.std.specs.Prelude.{Contains}
use Rattle.std.specs.List.{list_any, cons_option}
use Rattle.std.proofs.Math.Path.{fun_ext}
use Rattle.std.proofs.lemmas.Bool.{true≢false, or_cases, or_left, or_right}
use Rattle.pl_spec.proofs.Lists.{filter-twice}
use Rattle.pl_spec.proofs.Finds.{contains-front, contains-behind}

-- ---- filters

-- where what passes p passes q exactly if it passes r, q may be tested first, or r last
pub filter-by : {X : Type 0} (p q r : X → Bool) → ((x : X) → p x ≡ true → q x ≡ r x) → (xs : List X) → filter p (filter q xs) ≡ filter r (filter p xs)
filter-by p q r h xs = filter-twice p q xs ∙ ap (λ t. filter t xs) (fun_ext (λ x. same (p x) (q x) (r x) (h x))) ∙ sym (filter-twice r p xs)
  where
    same : (a b c : Bool) → (a ≡ true → b ≡ c) → (b && a) ≡ (a && c)
    same true true true h = refl
    same true true false h = h refl
    same true false true h = h refl
    same true false false h = refl
    same false true c h = refl
    same false false c h = refl

-- what is sought passes q, so q may be tested first
pub find-kept : {X : Type 0} (p q : X → Bool) (xs : List X) → ((x : X) → Contains xs x → p x ≡ true → q x ≡ true) → find p (filter q xs) ≡ find p xs
find-kept p q [] h = refl
find-kept p q (x ∷ xs) h = here (p x) (q x) refl refl (find-kept p q xs (λ y in_xs e. h y (contains-behind x xs y in_xs) e))
  where
    here : (b c : Bool) → p x ≡ b → q x ≡ c → find p (filter q xs) ≡ find p xs → find p (cond c (x ∷ filter q xs) (filter q xs)) ≡ find p (x ∷ xs)
    here true true e f rest = rw e refl
    here true false e f rest = absurd (true≢false (sym (h x (contains-front x xs) e) ∙ f))
    here false true e f rest = rw e rest
    here false false e f rest = rw e rest

-- tests that are the same on a list find the same
pub find-same : {X : Type 0} (p q : X → Bool) (xs : List X) → ((x : X) → Contains xs x → p x ≡ q x) → find p xs ≡ find q xs
find-same p q [] h = refl
find-same p q (x ∷ xs) h =
    ap (λ o. cond (p x) (Some x) o) (find-same p q xs (λ y in_xs. h y (contains-behind x xs y in_xs)))
    ∙ ap (λ b. cond b (Some x) (find q xs)) (h x (contains-front x xs))

-- what passes p and not q has no answer, so q may be tested first
pub answers-kept : {X Y : Type 0} (f : X → Option Y) (p q : X → Bool) → ((x : X) → p x ≡ true → q x ≡ false → f x ≡ None) → (xs : List X) → filter_map f (filter p (filter q xs)) ≡ filter_map f (filter p xs)
answers-kept f p q h [] = refl
answers-kept f p q h (x ∷ xs) = here (p x) (q x) refl refl (answers-kept f p q h xs)
  where
    here : (b c : Bool) → p x ≡ b → q x ≡ c → filter_map f (filter p (filter q xs)) ≡ filter_map f (filter p xs)
        → filter_map f (filter p (filter q (x ∷ xs))) ≡ filter_map f (filter p (x ∷ xs))
    here true true e g rest = rw (g, e) (ap (cons_option (f x)) rest)
    here true false e g rest = rw (g, e) (rest ∙ sym (ap (λ o. cons_option o (filter_map f (filter p xs))) (h x e g)))
    here false true e g rest = rw (g, e) rest
    here false false e g rest = rw (g, e) rest

pub any-kept : {X : Type 0} (p q : X → Bool) (xs : List X) → list_any p (filter q xs) ≡ true → list_any p xs ≡ true
any-kept p q [] h = h
any-kept p q (x ∷ xs) h = here (q x) (any-kept p q xs) h
  where
    here : (c : Bool) → (list_any p (filter q xs) ≡ true → list_any p xs ≡ true) → list_any p (cond c (x ∷ filter q xs) (filter q xs)) ≡ true → list_any p (x ∷ xs) ≡ true
    here true rest e = elim (or_cases (p x) (list_any p (filter q xs)) e) [
      | inl front ↦ or_left (p x) (list_any p xs) front
      | inr behind ↦ or_right (p x) (list_any p xs) (rest behind)
    ]
    here false rest e = or_right (p x) (list_any p xs) (rest e)

pub any-map : {X Y : Type 0} (p : Y → Bool) (f : X → Y) (xs : List X) → list_any p (map f xs) ≡ list_any (λ x. p (f x)) xs
any-map p f [] = refl
any-map p f (x ∷ xs) = ap (λ b. p (f x) || b) (any-map p f xs)

-- tests are equal where one holds exactly if the other does
pub equal_tests : (a b : Bool) → (a ≡ true → b ≡ true) → (b ≡ true → a ≡ true) → a ≡ b
equal_tests true b h k = sym (h refl)
equal_tests false true h k = k refl
equal_tests false false h k = refl
