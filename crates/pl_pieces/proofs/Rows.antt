-- Records whose rows are known are read as these rows.
use Rattle.std.proofs.Common.{◌≡◌, ◌≢◌, ℕ, zero, suc, ◌<◌, ◌≤◌, ◌==◌, nat_le, false, List, [], ◌∷◌, ◌++◌, map, length, get_or, All, AllPairs, Result, Ok, refl, sym, ◌∙◌, ap, append_assoc, append-nil, arith, length-append}
use Rattle.std.specs.List.{list_any}
use Rattle.std.proofs.lemmas.Bool.{ne_eqb}
use Rattle.std.proofs.lemmas.Bool.Decides.{nat_tests}
use Rattle.std.proofs.lemmas.List.{get_or-map, length-map, map-append}
use Rattle.std.proofs.lemmas.List.Folds.{list_any_none, map_fixed}
use Rattle.pl_records.specs.Reading.{Record, rows_behind, rows_of, rows_under}
use Rattle.pl_records.proofs.Readings.{same_record}

-- ---- places in lists

seam : {A : Type 0} (xs : List A) (y : A) (ys : List A) (d : A) → get_or (xs ++ y ∷ ys) (length xs) d ≡ y
seam [] y ys d = refl
seam (x ∷ xs) y ys d = seam xs y ys d

long : {A : Type 0} (xs : List A) (y : A) (ys : List A) → length xs < length (xs ++ y ∷ ys)
long xs y ys = omega (arith, length-append xs (y ∷ ys))

-- what holds of all holds of one of them
pub of-one : {A : Type 0} (P : A → Type 0) (xs : List A) (y : A) (ys rows : List A) → xs ++ y ∷ ys ≡ rows → All P rows → P y
of-one P xs y ys rows e h =
    let all : All P (xs ++ y ∷ ys) = rw e h in
    let at : P (get_or (xs ++ y ∷ ys) (length xs) y) = all (length xs) y (long xs y ys) in
    rw (seam xs y ys y) at at

-- and of those before it
pub All-front : {A : Type 0} (P : A → Type 0) (xs ys rows : List A) → xs ++ ys ≡ rows → All P rows → All P xs
All-front {A} P xs ys rows e h = front xs (rw e h)
  where
    front : (zs : List A) → All P (zs ++ ys) → All P zs
    front [] h k d l = absurd (omega arith)
    front (z ∷ zs) h zero d l = h 0 d (omega arith)
    front (z ∷ zs) h (suc k) d l = front zs (λ i x m. h (suc i) x (omega arith)) k d (omega arith)

front-pairs : {A : Type 0} (R : A → A → Type 0) (xs : List A) (y : A) (ys : List A) → AllPairs R (xs ++ y ∷ ys) → All (λ x. R x y) xs
front-pairs R [] y ys h k d l = absurd (omega arith)
front-pairs R (x ∷ xs) y ys h zero d l =
    let at : R x (get_or (xs ++ y ∷ ys) (length xs) d) = h 0 (suc (length xs)) d (omega arith) (let n : length xs < length (xs ++ y ∷ ys) = long xs y ys in omega arith) in
    rw (seam xs y ys d) at at
front-pairs R (x ∷ xs) y ys h (suc k) d l = front-pairs R xs y ys (λ i j e m n. h (suc i) (suc j) e (omega arith) (omega arith)) k d (omega arith)

-- and of each pair with one before it
pub before-one : {A : Type 0} (R : A → A → Type 0) (xs : List A) (y : A) (ys rows : List A) → xs ++ y ∷ ys ≡ rows → AllPairs R rows → All (λ x. R x y) xs
before-one R xs y ys rows e h = front-pairs R xs y ys (rw e h)

pub few-before : {A : Type 0} (most : ℕ) (xs : List A) (y : A) (ys rows : List A) → xs ++ y ∷ ys ≡ rows → length rows ≤ most → nat_le most (length xs) ≡ false
few-before most xs y ys rows e h =
    let n : length xs < length rows = rw (← e) (long xs y ys) in
    let small : length xs < most = omega arith in
    grind (arith, nat_tests)

-- a key that no row before has
pub own-key : {A : Type 0} (key : A → ℕ) (xs : List A) (k : ℕ) → All (λ x. key x ≢ k) xs → list_any (λ x. key x == k) xs ≡ false
own-key key xs k h = list_any_none (λ x. key x == k) xs (λ i d l. ne_eqb _ _ (h i d l))

-- ---- images of lists

pub pairs-map : {A B : Type 0} (R : B → B → Type 0) (g : A → B) (xs : List A) → AllPairs (λ x y. R (g x) (g y)) xs → AllPairs R (map g xs)
pairs-map R g [] h i j d m l = absurd (omega arith)
pairs-map R g (x ∷ xs) h i j d m l =
    let n : length (map g (x ∷ xs)) ≡ length (x ∷ xs) = length-map (x ∷ xs) g in
    rw (get_or-map g (x ∷ xs) i x d (omega arith), get_or-map g (x ∷ xs) j x d (omega arith)) (h i j x m (omega arith))

pub map-same : {A : Type 0} (g : A → A) (P : A → Type 0) (xs : List A) → All P xs → ((x : A) → P x → g x ≡ x) → map g xs ≡ xs
map-same g P xs h f = map_fixed g xs (λ k d l. f (get_or xs k d) (h k d l))

-- ---- records

module _ {X Row R : Type 0} (says : List Row → Record → Result Row R) (fields : X → Record) (row : X → Row) where
  -- after the rows before it each record says its row
  abbrev Say : List Row → List X → Type 0
  Say before [] = Unit {0}
  Say before (x ∷ xs) = (says before (fields x) ≡ Ok (row x)) × Say (before ++ row x ∷ []) xs

  said : (first : ℕ) (before : List Row) (xs : List X) → Say before xs → rows_behind first says before (map fields xs) ≡ Ok (before ++ map row xs)
  unfolding rows_behind
  said first before [] h = ap Ok (sym (append-nil before))
  said first before (x ∷ xs) h = rw h.0 (said first (before ++ row x ∷ []) xs h.1 ∙ ap Ok (append_assoc before (row x ∷ []) (map row xs)))

  say : (all : List X) → ((before : List X) (x : X) (after : List X) → before ++ x ∷ after ≡ all → says (map row before) (fields x) ≡ Ok (row x))
      → (before xs : List X) → before ++ xs ≡ all → Say (map row before) xs
  say all h before [] e = tt
  say all h before (x ∷ xs) e =
      (h before x xs e, rw map-append at (say all h (before ++ x ∷ []) xs (append_assoc before (x ∷ []) xs ∙ e)))

  pub made-read : (first : ℕ) (xs : List X) → ((before : List X) (x : X) (after : List X) → before ++ x ∷ after ≡ xs → says (map row before) (fields x) ≡ Ok (row x))
      → rows_of first says (map fields xs) ≡ Ok (map row xs)
  made-read first xs h = said first [] xs (say xs h [] xs refl)

  pub made-under : (names : Record) (bad : R) (xs : List X) → ((before : List X) (x : X) (after : List X) → before ++ x ∷ after ≡ xs → says (map row before) (fields x) ≡ Ok (row x))
      → rows_under names bad says (names ∷ map fields xs) ≡ Ok (map row xs)
  made-under names bad xs h = rw ((same_record names names).1 refl) (made-read 2 xs h)

-- the rows themselves
module _ {Row R : Type 0} (says : List Row → Record → Result Row R) (fields : Row → Record) where
  itself : (xs : List Row) → map (λ x. x) xs ≡ xs
  itself xs = map_fixed (λ x. x) xs (λ k d l. refl)

  pub rows-read : (first : ℕ) (rows : List Row) → ((before : List Row) (x : Row) (after : List Row) → before ++ x ∷ after ≡ rows → says before (fields x) ≡ Ok x)
      → rows_of first says (map fields rows) ≡ Ok rows
  rows-read first rows h = made-read says fields (λ x. x) first rows (λ before x after e. rw (itself before) (h before x after e)) ∙ ap Ok (itself rows)

  pub under-read : (names : Record) (bad : R) (rows : List Row) → ((before : List Row) (x : Row) (after : List Row) → before ++ x ∷ after ≡ rows → says before (fields x) ≡ Ok x)
      → rows_under names bad says (names ∷ map fields rows) ≡ Ok rows
  under-read names bad rows h = rw ((same_record names names).1 refl) (rows-read 2 rows h)
