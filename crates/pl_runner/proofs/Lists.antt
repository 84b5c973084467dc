-- Lists over the numbers of a range.
use Rattle.std.proofs.Common.{◌≡◌, ◌≢◌, ℕ, zero, suc, ◌+◌, ◌<◌, ◌≤◌, ◌==◌, Bool, true, false, cond, List, [], ◌∷◌, length, map, filter, find, get_or, All, AllPairs, Some, refl, sym, ◌∙◌, ap, arith, inl, inr, length-append, sum_by}
use Rattle.std.specs.Prelude.{flat_map}
use Rattle.std.specs.List.{range_with_len}
use Rattle.std.proofs.lemmas.Bool.{cases_lt, eq-eqb, ne_eqb}
use Rattle.std.proofs.lemmas.List.Elements.{All-append, All-map, filter-append, All-nil}
use Rattle.std.proofs.lemmas.List.FromFn.{length-range_with_len, get_or-range_with_len}
use Rattle.std.proofs.lemmas.List.Kept.{AllPairs-cons}
use Rattle.std.proofs.lemmas.List.Sums.{sum_by-cons}
use Rattle.pl_spec.proofs.Lists.{no-pairs}
use Rattle.pl_daily.proofs.Fed.{AllPairs-append}

pub range-within : (a n : ℕ) → All (λ k. k < a + n) (range_with_len a n)
range-within a n i d l =
    let long : length (range_with_len a n) ≡ n = length-range_with_len a n in
    let at : get_or (range_with_len a n) i d ≡ a + i = get_or-range_with_len a n i d (omega (arith, long)) in
    omega (arith, at, long)

pub AllPairs-map : {X Y : Type 0} (R : X → X → Type 0) (f : Y → X) (ys : List Y) → AllPairs (λ a b. R (f a) (f b)) ys → AllPairs R (map f ys)
AllPairs-map R f [] up = no-pairs R
AllPairs-map R f (y ∷ ys) up =
    AllPairs-cons R (f y) (map f ys) (All-map (R (f y)) f ys (λ k d l. up 0 (suc k) d (omega arith) (omega arith)))
    (AllPairs-map R f ys (λ i j d l m. up (suc i) (suc j) d (omega arith) (omega arith)))

-- ---- what the numbers of a range give, one after the other

pub flat-all : {X : Type 0} (P : X → Type 0) (f : ℕ → List X) (a n : ℕ) → ((k : ℕ) → a ≤ k → k < a + n → All P (f k)) → All P (flat_map f (range_with_len a n))
flat-all P f a zero h = All-nil P
flat-all P f a (suc n) h = All-append P (f a) (flat_map f (range_with_len (a + 1) n)) (h a (omega arith) (omega arith)) (flat-all P f (a + 1) n (λ k l m. h k (omega arith) (omega arith)))

pub flat-pairs : {X : Type 0} (R : X → X → Type 0) (f : ℕ → List X) (a n : ℕ) → ((k : ℕ) → AllPairs R (f k)) → ((j k : ℕ) → j < k → All (λ x. All (R x) (f k)) (f j))
    → AllPairs R (flat_map f (range_with_len a n))
flat-pairs R f a zero own across = no-pairs R
flat-pairs R f a (suc n) own across =
    AllPairs-append R (f a) (flat_map f (range_with_len (a + 1) n)) (own a) (flat-pairs R f (a + 1) n own across)
    (λ i d l. flat-all (R (get_or (f a) i d)) f (a + 1) n (λ k p q. across a k (omega arith) i d l))

-- a test that one number alone passes
pub find-range : {X : Type 0} (p : X → Bool) (f : ℕ → X) (k : ℕ) → p (f k) ≡ true → ((i : ℕ) → i ≢ k → p (f i) ≡ false)
    → (a n : ℕ) → a ≤ k → k < a + n → find p (map f (range_with_len a n)) ≡ Some (f k)
find-range p f k hit miss a zero l h = absurd (omega arith)
find-range p f k hit miss a (suc n) l h = elim (cases_lt a k) [
  | inl less ↦ (let other : p (f a) ≡ false = miss a (λ e. omega (arith, e)) in rw other (find-range p f k hit miss (a + 1) n (omega arith) (omega arith)))
  | inr not_less ↦ (let same : k ≡ a = omega arith in let here : p (f a) ≡ true = ap (λ (i : ℕ). p (f i)) (sym same) ∙ hit in rw here (ap (λ (i : ℕ). Some (f i)) (sym same)))
]

pub sum-same : (f g : ℕ → ℕ) (a n : ℕ) → ((k : ℕ) → a ≤ k → k < a + n → f k ≡ g k) → sum_by f (range_with_len a n) ≡ sum_by g (range_with_len a n)
sum-same f g a zero h = refl
sum-same f g a (suc n) h =
    let here : f a ≡ g a = h a (omega arith) (omega arith) in
    let rest = sum-same f g (a + 1) n (λ k l m. h k (omega arith) (omega arith)) in
    omega (arith, sum_by-cons f a (range_with_len (a + 1) n), sum_by-cons g a (range_with_len (a + 1) n), here, rest)

pub filter-mapped : {X Y : Type 0} (q : Y → Bool) (f : X → Y) (xs : List X) → length (filter q (map f xs)) ≡ length (filter (λ x. q (f x)) xs)
filter-mapped q f [] = refl
filter-mapped q f (x ∷ xs) = here (q (f x)) (filter-mapped q f xs)
  where
    here : (b : Bool) → length (filter q (map f xs)) ≡ length (filter (λ x. q (f x)) xs)
        → length (cond b (f x ∷ filter q (map f xs)) (filter q (map f xs))) ≡ length (cond b (x ∷ filter (λ x. q (f x)) xs) (filter (λ x. q (f x)) xs))
    here true ih = ap suc ih
    here false ih = ih

pub flat-filter : {X : Type 0} (p : X → Bool) (f : ℕ → List X) (ks : List ℕ) → length (filter p (flat_map f ks)) ≡ sum_by (λ k. length (filter p (f k))) ks
flat-filter p f [] = refl
flat-filter p f (k ∷ ks) =
    omega (arith, ap length (filter-append p (f k) (flat_map f ks)), length-append (filter p (f k)) (filter p (flat_map f ks)), sum_by-cons (λ k. length (filter p (f k))) k ks, flat-filter p f ks)

pub sum-le : (f g : ℕ → ℕ) (a n : ℕ) → ((k : ℕ) → f k ≤ g k) → sum_by f (range_with_len a n) ≤ sum_by g (range_with_len a n)
sum-le f g a zero h = omega arith
sum-le f g a (suc n) h =
    let here : f a ≤ g a = h a in
    let rest = sum-le f g (a + 1) n h in
    omega (arith, sum_by-cons f a (range_with_len (a + 1) n), sum_by-cons g a (range_with_len (a + 1) n), here, rest)

-- one more, where the number is k
abbrev one_at : ℕ → ℕ → ℕ
one_at k c = cond (k == c) 1 0

one_at-same : (k : ℕ) → one_at k k ≡ 1
one_at-same k = rw (eq-eqb k k refl) refl

one_at-other : (k c : ℕ) → k ≢ c → one_at k c ≡ 0
one_at-other k c h = rw (ne_eqb k c h) refl

none-at : (k a n : ℕ) → k < a → sum_by (one_at k) (range_with_len a n) ≡ 0
none-at k a zero h = refl
none-at k a (suc n) h =
    omega (arith, sum_by-cons (one_at k) a (range_with_len (a + 1) n), one_at-other k a (λ e. omega (arith, e)), none-at k (a + 1) n (omega arith))

most-one : (k a n : ℕ) → sum_by (one_at k) (range_with_len a n) ≤ 1
most-one k a zero = omega arith
most-one k a (suc n) = elim (cases_lt k a) [
  | inl less ↦ (let e = none-at k a (suc n) less in omega (arith, e))
  | inr not_less ↦ elim (cases_lt a k) [
    | inl more ↦ omega (arith, sum_by-cons (one_at k) a (range_with_len (a + 1) n), one_at-other k a (λ e. omega (arith, e)), most-one k (a + 1) n)
    | inr not_more ↦ (let same : k ≡ a = omega arith in
        let one : one_at k a ≡ 1 = ap (one_at k) (sym same) ∙ one_at-same k in
        omega (arith, sum_by-cons (one_at k) a (range_with_len (a + 1) n), one, none-at k (a + 1) n (omega arith)))
  ]
]

sum-both : (f g : ℕ → ℕ) (ks : List ℕ) → sum_by (λ k. f k + g k) ks ≡ sum_by f ks + sum_by g ks
sum-both f g [] = refl
sum-both f g (k ∷ ks) = omega (arith, sum_by-cons (λ k. f k + g k) k ks, sum_by-cons f k ks, sum_by-cons g k ks, sum-both f g ks)

-- of the elements each is counted at most once
pub counted-once : {X : Type 0} (key : X → ℕ) (xs : List X) (a n : ℕ) → sum_by (λ k. length (filter (λ x. key x == k) xs)) (range_with_len a n) ≤ length xs
counted-once key [] a n = let z = zeros a n in omega (arith, z)
  where
    zeros : (a n : ℕ) → sum_by (λ k. 0) (range_with_len a n) ≡ 0
    zeros a zero = refl
    zeros a (suc n) = omega (arith, sum_by-cons (λ (k : ℕ). 0) a (range_with_len (a + 1) n), zeros (a + 1) n)
counted-once key (x ∷ xs) a n =
    let split = sum-same (λ k. length (filter (λ x. key x == k) (x ∷ xs))) (λ k. one_at (key x) k + length (filter (λ x. key x == k) xs)) a n (λ k l m. here (key x == k) (length (filter (λ x. key x == k) xs)) (filter (λ x. key x == k) xs) refl) in
    let both = sum-both (one_at (key x)) (λ k. length (filter (λ x. key x == k) xs)) (range_with_len a n) in
    omega (arith, split, both, most-one (key x) a n, counted-once key xs a n)
  where
    here : (b : Bool) (m : ℕ) (rest : List _) → length rest ≡ m → length (cond b (x ∷ rest) rest) ≡ cond b 1 0 + m
    here true m rest e = omega (arith, e)
    here false m rest e = omega (arith, e)
