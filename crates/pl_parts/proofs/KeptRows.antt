-- Rows that are gone over one by one, and lists of those that are kept.
use Rattle.std.proofs.Common.{◌≡◌, ℕ, zero, suc, ◌+◌, ◌≤◌, Bool, true, false, ◌&&◌, cond, List, [], ◌∷◌, ◌++◌, length, map, filter, take, Option, Some, All, option_map, Result, Ok, Err, OnOk, refl, sym, ap, ◌∙◌, arith}
use Rattle.std.specs.Prelude.{flat_map, slice_get}
use Rattle.std.proofs.lemmas.List.{append_assoc, append-nil, length-map, take_all}
use Rattle.std.proofs.lemmas.Option.{slice_get-map, slice_get_within, get_or_from_slice_get}
use Rattle.pl_spec.specs.World.{Adjustment}
use Rattle.pl_adjust.specs.Events.{PutsCell, event_of}
use Rattle.pl_parts.specs.declared.gathering.Row.{Row}
use Rattle.pl_parts.specs.Kept.{if_kept, shown, text_at}
use Rattle.pl_parts.specs.Texts.{lines_from, of_sid, ratio_line}

-- with one more row
rows-more : {A B : Type 0} (f : A → List B) (xs : List A) (i : ℕ) → flat_map f (take (suc i) xs) ≡ flat_map f (take i xs) ++ text_at f xs i
rows-more f [] zero = refl
rows-more f [] (suc i) = refl
rows-more f (x ∷ xs) zero = append-nil (f x)
rows-more f (x ∷ xs) (suc i) = ap (λ l. f x ++ l) (rows-more f xs i) ∙ sym (append_assoc (f x) (flat_map f (take i xs)) (text_at f xs i))

-- what was written of the first rows, and then of one more
pub more : {A B : Type 0} (f : A → List B) (xs : List A) (i : ℕ) (head old new : List B) → old ≡ head ++ flat_map f (take i xs) → new ≡ old ++ text_at f xs i
    → new ≡ head ++ flat_map f (take (i + 1) xs)
more f xs i head old new so_far is =
    let next : i + 1 ≡ suc i = omega arith in
    is ∙ ap (λ l. l ++ text_at f xs i) so_far ∙ append_assoc head (flat_map f (take i xs)) (text_at f xs i)
    ∙ ap (λ l. head ++ l) (sym (rows-more f xs i)) ∙ ap (λ n. head ++ flat_map f (take n xs)) (sym next)

-- of rows that are kept, in a list that is read through a function
pub kept-mapped : {A B C : Type 0} (keep : B → Bool) (f : B → List C) (g : A → B) (xs : List A)
    → flat_map (λ x. if_kept keep f (g x)) xs ≡ flat_map f (filter keep (map g xs))
kept-mapped keep f g [] = refl
kept-mapped {A} {B} {C} keep f g (x ∷ xs) = here (keep (g x)) (kept-mapped keep f g xs)
  where
    here : (b : Bool) → flat_map (λ x. if_kept keep f (g x)) xs ≡ flat_map f (filter keep (map g xs))
        → cond b (f (g x)) [] ++ flat_map (λ x. if_kept keep f (g x)) xs ≡ flat_map f (cond b (g x ∷ filter keep (map g xs)) (filter keep (map g xs)))
    here true rest = ap (λ l. f (g x) ++ l) rest
    here false rest = rest

pub kept : {B C : Type 0} (keep : B → Bool) (f : B → List C) (xs : List B) → flat_map (if_kept keep f) xs ≡ flat_map f (filter keep xs)
kept keep f [] = refl
kept {B} {C} keep f (x ∷ xs) = here (keep x) (kept keep f xs)
  where
    here : (b : Bool) → flat_map (if_kept keep f) xs ≡ flat_map f (filter keep xs)
        → cond b (f x) [] ++ flat_map (if_kept keep f) xs ≡ flat_map f (cond b (x ∷ filter keep xs) (filter keep xs))
    here true rest = ap (λ l. f x ++ l) rest
    here false rest = rest

-- ---- one row at its place

pub at-place : {A B : Type 0} (f : A → List B) (xs : List A) (i : ℕ) (x : A) → slice_get xs i ≡ Some x → f x ≡ text_at f xs i
at-place f xs i x e = rw e refl

-- of a row that is kept, and of one that is not
pub at-kept : {A B C : Type 0} (keep : B → Bool) (f : B → List C) (g : A → B) (xs : List A) (i : ℕ) (x : A) → slice_get xs i ≡ Some x → keep (g x) ≡ true
    → f (g x) ≡ text_at (λ y. if_kept keep f (g y)) xs i
at-kept keep f g xs i x e k = rw (e, k) refl

pub at-left : {A B C : Type 0} (keep : B → Bool) (f : B → List C) (g : A → B) (xs : List A) (i : ℕ) (x : A) → slice_get xs i ≡ Some x → keep (g x) ≡ false
    → [] ≡ text_at (λ y. if_kept keep f (g y)) xs i
at-left keep f g xs i x e k = rw (e, k) refl

-- ---- numbered lines

lines-next : (n : ℕ) (xs : List Adjustment) (i : ℕ) (x : Adjustment) → slice_get xs i ≡ Some x → lines_from n (take (suc i) xs) ≡ lines_from n (take i xs) ++ ratio_line (n + i) x
lines-next n [] i x e = absurd (let bad = e in cc)
lines-next n (y ∷ ys) zero x e =
    let same : y ≡ x = (let h : Some y ≡ Some x = e in cc) in
    append-nil (ratio_line n y) ∙ ap (ratio_line n) same ∙ ap (λ k. ratio_line k x) (let z : n ≡ n + 0 = omega arith in z)
lines-next n (y ∷ ys) (suc i) x e =
    ap (λ l. ratio_line n y ++ l) (lines-next (n + 1) ys i x e ∙ ap (λ k. lines_from (n + 1) (take i ys) ++ ratio_line k x) (let z : n + 1 + i ≡ n + suc i = omega arith in z))
    ∙ sym (append_assoc (ratio_line n y) (lines_from (n + 1) (take i ys)) (ratio_line (n + suc i) x))

pub lines-more : (xs : List Adjustment) (i : ℕ) (x : Adjustment) (head old new : List ℕ) → slice_get xs i ≡ Some x → old ≡ head ++ lines_from 1 (take i xs) → new ≡ old ++ ratio_line (i + 1) x
    → new ≡ head ++ lines_from 1 (take (i + 1) xs)
lines-more xs i x head old new e so_far is =
    let next : i + 1 ≡ suc i = omega arith in
    let turned : i + 1 ≡ 1 + i = omega arith in
    is ∙ ap (λ l. l ++ ratio_line (i + 1) x) so_far ∙ append_assoc head (lines_from 1 (take i xs)) (ratio_line (i + 1) x)
    ∙ ap (λ k. head ++ (lines_from 1 (take i xs) ++ ratio_line k x)) turned
    ∙ ap (λ l. head ++ l) (sym (lines-next 1 xs i x e)) ∙ ap (λ n. head ++ lines_from 1 (take n xs)) (sym next)

-- ---- from the first row to the last

-- before the first row
pub begun : {A B : Type 0} (f : A → List B) (xs : List A) (head old new : List B) → old ≡ [] → new ≡ old ++ head → new ≡ head ++ flat_map f (take 0 xs)
begun f xs head old new none is = is ∙ ap (λ l. l ++ head) none ∙ sym (append-nil head)

-- after the last one
pub all-end : {A B : Type 0} (f : A → List B) (xs : List A) (i : ℕ) (head out : List B) → length xs ≤ i → out ≡ head ++ flat_map f (take i xs) → out ≡ head ++ flat_map f xs
all-end f xs i head out end is = is ∙ ap (λ l. head ++ flat_map f l) (take_all i xs end)

pub kept-end : {B C : Type 0} (keep : B → Bool) (f : B → List C) (xs : List B) (i : ℕ) (head out : List C) → length xs ≤ i
    → out ≡ head ++ flat_map (if_kept keep f) (take i xs) → out ≡ head ++ flat_map f (filter keep xs)
kept-end keep f xs i head out end is = all-end (if_kept keep f) xs i head out end is ∙ ap (λ l. head ++ l) (kept keep f xs)

pub mapped-end : {A B C : Type 0} (keep : B → Bool) (f : B → List C) (g : A → B) (xs : List A) (i : ℕ) (head out : List C) → length xs ≤ i
    → out ≡ head ++ flat_map (λ x. if_kept keep f (g x)) (take i xs) → out ≡ head ++ flat_map f (filter keep (map g xs))
mapped-end keep f g xs i head out end is = all-end (λ x. if_kept keep f (g x)) xs i head out end is ∙ ap (λ l. head ++ l) (kept-mapped keep f g xs)

-- ---- what a row adds

pub nothing-more : {B : Type 0} (old t : List B) → [] ≡ t → old ≡ old ++ t
nothing-more old t e = sym (append-nil old) ∙ ap (λ l. old ++ l) e

pub row-more : {B : Type 0} (old new x t : List B) → new ≡ old ++ x → x ≡ t → new ≡ old ++ t
row-more old new x t is e = is ∙ ap (λ l. old ++ l) e

-- the same of a call that may fail
pub on-ok-more : {B T E : Type 0} (r : Result T E) (old new x t : List B) → OnOk r (new ≡ old ++ x) → x ≡ t → OnOk r (new ≡ old ++ t)
on-ok-more (Ok y) old new x t is e = row-more old new x t is e
on-ok-more (Err y) old new x t is e = tt

pub all-there : {A : Type 0} (P : A → Type 0) (xs : List A) (i : ℕ) (x : A) → All P xs → slice_get xs i ≡ Some x → P x
all-there P xs i x all at =
    let it = all i x (slice_get_within xs i x at) in
    rw (get_or_from_slice_get xs i x x at) at it

-- ---- gathered rows

pub shown-at : (rows : List Row) (i : ℕ) (r : Row) → slice_get rows i ≡ Some r → slice_get (shown rows) i ≡ Some (of_sid r.sid (event_of r.adjust))
shown-at rows i r at = slice_get-map (λ (x : Row). of_sid x.sid (event_of x.adjust)) rows i ∙ ap (option_map (λ (x : Row). of_sid x.sid (event_of x.adjust))) at

pub shown-long : (rows : List Row) (i : ℕ) → length rows ≤ i → length (shown rows) ≤ i
shown-long rows i h = let same : length (shown rows) ≡ length rows = length-map rows (λ (x : Row). of_sid x.sid (event_of x.adjust)) in omega (arith, same, h)

pub shown-puts : (rows : List Row) (i : ℕ) (r : Row) → slice_get rows i ≡ Some r → All (λ x. PutsCell x.event) (shown rows) → PutsCell (event_of r.adjust)
shown-puts rows i r at all =
    let x = of_sid r.sid (event_of r.adjust) in
    let there = shown-at rows i r at in
    let it = all i x (slice_get_within (shown rows) i x there) in
    rw (get_or_from_slice_get (shown rows) i x x there) at it
