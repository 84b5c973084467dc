-- The ordinal ranks of m entries are the numbers from 1 to m, each once.
use Rattle.std.proofs.Common.{◌≡◌, ◌≢◌, ℕ, zero, suc, ◌+◌, ◌<◌, ◌≤◌, Bool, true, false, ◌&&◌, ◌||◌, cond, nat_le, nat_lt, ℤ, List, [], ◌∷◌, length, map, get_or, refl, sym, ◌∙◌, ap, subst, arith, inl, inr, ◌⊎◌, IsPermutation, Some}
use Rattle.std.specs.List.{All, AllPairs, count_by, range_with_len, slice_get}
use Rattle.std.specs.Int.RustNames.{int_lt}
use Rattle.std.specs.Ordering.{int_eq}
use Rattle.std.proofs.lemmas.Bool.{cases_lt}
use Rattle.std.proofs.lemmas.Bool.Decides.{nat_tests}
use Rattle.std.proofs.lemmas.Int.{ints}
use Rattle.std.proofs.lemmas.List.Sorted.{IsPermutation-refl, IsPermutation-cons, IsPermutation-map, IsPermutation-trans, IsPermutation-sym, IsPermutation-middle, sum_by-IsPermutation}
use Rattle.std.proofs.lemmas.List.Sums.{count_by-le-length}
use Rattle.std.proofs.lemmas.Option.{slice_get_within, get_or_from_slice_get}
use Rattle.std.proofs.lemmas.Simd.{map-map}
use Rattle.pl_pipeline.specs.declared.RankOrder.{RankOrder}
use Rattle.pl_pipeline.specs.declared.RankOrder.TheVariants.{Ascending, Descending}
use Rattle.pl_pipeline.specs.Cross.{Entry, values, earlier_same, ordinal}
use Rattle.pl_pipeline.specs.Order.{precedes, preceding}
use Rattle.pl_laws.specs.ListLaws.{ComesBefore}
use Rattle.pl_spec.proofs.Counts.{count-cons, count-within, count-fewer, map-agree}
use Rattle.pl_spec.proofs.Members.{In, in-contains}

-- ---- numbers with a gap

-- the numbers from k on move up by one
shift : ℕ → ℕ → ℕ
shift k p = cond (nat_le k p) (suc p) p

shift-from : (k p : ℕ) → k ≤ p → shift k p ≡ suc p
unfolding shift
shift-from k p h = let t : nat_le k p ≡ true = grind (arith, nat_tests) in rw t refl

shift-below : (k p : ℕ) → p < k → shift k p ≡ p
unfolding shift
shift-below k p h = let t : nat_le k p ≡ false = grind (arith, nat_tests) in rw t refl

IsPermutation-same : {A : Type 0} (xs ys : List A) → xs ≡ ys → IsPermutation xs ys
IsPermutation-same xs ys e = subst (λ zs. IsPermutation xs zs) e (IsPermutation-refl xs)

shifted : (k a n : ℕ) → k ≤ a → map (shift k) (range_with_len a n) ≡ range_with_len (a + 1) n
shifted k a zero h = refl
shifted k a (suc n) h =
    let first : shift k a ≡ a + 1 = shift-from k a h ∙ omega arith in
    ap (λ m. m ∷ map (shift k) (range_with_len (a + 1) n)) first ∙ ap (λ ms. (a + 1) ∷ ms) (shifted k (a + 1) n (omega arith))

-- k fills the gap that it made
filled : (k a n : ℕ) → a ≤ k → k ≤ a + n → IsPermutation (k ∷ map (shift k) (range_with_len a n)) (range_with_len a (suc n))
filled k a zero h l = IsPermutation-same (k ∷ []) (a ∷ []) (ap (λ m. m ∷ []) (let e : k ≡ a = omega arith in e))
filled k a (suc n) h l = elim (cases_lt a k) [
  | inl lt ↦
      let rest : List ℕ = map (shift k) (range_with_len (a + 1) n) in
      let turned : IsPermutation (k ∷ a ∷ rest) (a ∷ k ∷ rest) = IsPermutation-sym (a ∷ k ∷ rest) (k ∷ a ∷ rest) (IsPermutation-middle (a ∷ []) k rest) in
      let more : IsPermutation (a ∷ k ∷ rest) (a ∷ range_with_len (a + 1) (suc n)) = IsPermutation-cons a (k ∷ rest) (range_with_len (a + 1) (suc n)) (filled k (a + 1) n (omega arith) (omega arith)) in
      let whole : IsPermutation (k ∷ a ∷ rest) (a ∷ range_with_len (a + 1) (suc n)) = IsPermutation-trans (k ∷ a ∷ rest) (a ∷ k ∷ rest) (a ∷ range_with_len (a + 1) (suc n)) turned more in
      subst (λ m. IsPermutation (k ∷ m ∷ rest) (a ∷ range_with_len (a + 1) (suc n))) (sym (shift-below k a lt)) whole
  | inr ge ↦
      let e : k ≡ a = omega arith in
      IsPermutation-same (k ∷ map (shift k) (range_with_len a (suc n))) (a ∷ range_with_len (a + 1) (suc n)) (ap (λ ms. k ∷ ms) (shifted k a (suc n) ge) ∙ ap (λ m. m ∷ range_with_len (a + 1) (suc n)) e)
]

-- ---- places by a strict order

module _ {A : Type 0} (lt : A → A → Bool) where
  place : List A → A → ℕ
  place xs x = suc (count_by (λ y. lt y x) xs)

  -- of any two one comes before the other
  AreApart : List A → Type 0
  AreApart [] = Unit {0}
  AreApart (x ∷ xs) = ((y : A) → In y xs → (lt x y ≡ true) ⊎ (lt y x ≡ true)) × AreApart xs

  module _ (irreflexive : (x : A) → lt x x ≡ false) (transitive : (x y z : A) → lt x y ≡ true → lt y z ≡ true → lt x z ≡ true) where
    asymmetric : (x y : A) → lt x y ≡ true → lt y x ≡ false
    asymmetric x y t = here (lt y x) refl
      where
        here : (b : Bool) → lt y x ≡ b → lt y x ≡ false
        here true e = absurd (let yes : lt x x ≡ true = transitive x y x t e in let no : lt x x ≡ false = irreflexive x in cc)
        here false e = e

    -- what stands after x moves up by one
    place-more : (x : A) (xs : List A) (y : A) → In y xs → (lt x y ≡ true) ⊎ (lt y x ≡ true) → place (x ∷ xs) y ≡ shift (place (x ∷ xs) x) (place xs y)
    unfolding place
    place-more x xs y i (inl t) =
        let own : count_by (λ z. lt z x) (x ∷ xs) ≡ count_by (λ z. lt z x) xs = rw (count-cons (λ z. lt z x) x xs, irreflexive x) (omega arith) in
        let other : count_by (λ z. lt z y) (x ∷ xs) ≡ suc (count_by (λ z. lt z y) xs) = rw (count-cons (λ z. lt z y) x xs, t) (omega arith) in
        let le : count_by (λ z. lt z x) xs ≤ count_by (λ z. lt z y) xs = count-within (λ z. lt z x) (λ z. lt z y) xs (λ z j u. transitive z x y u t) in
        rw (own, other) (sym (shift-from (suc (count_by (λ z. lt z x) xs)) (suc (count_by (λ z. lt z y) xs)) (omega arith)))
    place-more x xs y i (inr t) =
        let own : count_by (λ z. lt z x) (x ∷ xs) ≡ count_by (λ z. lt z x) xs = rw (count-cons (λ z. lt z x) x xs, irreflexive x) (omega arith) in
        let other : count_by (λ z. lt z y) (x ∷ xs) ≡ count_by (λ z. lt z y) xs = rw (count-cons (λ z. lt z y) x xs, asymmetric y x t) (omega arith) in
        let more : suc (count_by (λ z. lt z y) xs) ≤ count_by (λ z. lt z x) xs = count-fewer (λ z. lt z y) (λ z. lt z x) xs y i (irreflexive y) t (λ z j u. transitive z y x u t) in
        rw (own, other) (sym (shift-below (suc (count_by (λ z. lt z x) xs)) (suc (count_by (λ z. lt z y) xs)) (omega arith)))

    places-numbers : (xs : List A) → AreApart xs → IsPermutation (map (place xs) xs) (range_with_len 1 (length xs))
    unfolding place AreApart
    places-numbers [] h = IsPermutation-refl []
    places-numbers (x ∷ xs) h =
        let k : ℕ = place (x ∷ xs) x in
        let own : count_by (λ z. lt z x) (x ∷ xs) ≡ count_by (λ z. lt z x) xs = rw (count-cons (λ z. lt z x) x xs, irreflexive x) (omega arith) in
        let few : count_by (λ z. lt z x) xs ≤ length xs = count_by-le-length (λ z. lt z x) xs in
        let moved : map (place (x ∷ xs)) xs ≡ map (shift k) (map (place xs) xs) =
        map-agree (place (x ∷ xs)) (λ y. shift k (place xs y)) xs (λ y i. place-more x xs y i (h.0 y i)) ∙ sym (map-map (shift k) (place xs) xs) in
        let rest : IsPermutation (k ∷ map (shift k) (map (place xs) xs)) (k ∷ map (shift k) (range_with_len 1 (length xs))) =
        IsPermutation-cons k (map (shift k) (map (place xs) xs)) (map (shift k) (range_with_len 1 (length xs))) (IsPermutation-map (shift k) (map (place xs) xs) (range_with_len 1 (length xs)) (places-numbers xs h.1)) in
        let whole : IsPermutation (k ∷ map (shift k) (map (place xs) xs)) (range_with_len 1 (suc (length xs))) =
        IsPermutation-trans (k ∷ map (shift k) (map (place xs) xs)) (k ∷ map (shift k) (range_with_len 1 (length xs))) (range_with_len 1 (suc (length xs))) rest
        (filled k 1 (length xs) (omega arith) (omega arith)) in
        subst (λ l. IsPermutation (k ∷ l) (range_with_len 1 (suc (length xs)))) (sym moved) whole

-- ---- the order of entries

-- f comes before e: by its value, or by its sid where the values are the same
comes_before : RankOrder → Entry → Entry → Bool
comes_before order f e = precedes order f.1 e.1 || (int_eq e.1 f.1 && nat_lt f.0 e.0)

before-itself : (order : RankOrder) (e : Entry) → comes_before order e e ≡ false
unfolding comes_before
before-itself Ascending e = grind (arith, ints, nat_tests)
before-itself Descending e = grind (arith, ints, nat_tests)

rises : (x y z : ℤ) (a b c : ℕ) → (int_lt x y || (int_eq y x && nat_lt a b)) ≡ true → (int_lt y z || (int_eq z y && nat_lt b c)) ≡ true → (int_lt x z || (int_eq z x && nat_lt a c)) ≡ true
rises x y z a b c s t = grind (arith, ints, nat_tests)

falls : (x y z : ℤ) (a b c : ℕ) → (int_lt y x || (int_eq y x && nat_lt a b)) ≡ true → (int_lt z y || (int_eq z y && nat_lt b c)) ≡ true → (int_lt z x || (int_eq z x && nat_lt a c)) ≡ true
falls x y z a b c s t = grind (arith, ints, nat_tests)

before-trans : (order : RankOrder) (d e f : Entry) → comes_before order d e ≡ true → comes_before order e f ≡ true → comes_before order d f ≡ true
unfolding comes_before
before-trans Ascending d e f s t = rises d.1 e.1 f.1 d.0 e.0 f.0 s t
before-trans Descending d e f s t = falls d.1 e.1 f.1 d.0 e.0 f.0 s t

-- where the sids differ
some_first : (order : RankOrder) (e f : Entry) → e.0 ≢ f.0 → (comes_before order e f ≡ true) ⊎ (comes_before order f e ≡ true)
unfolding comes_before
some_first Ascending e f ne = grind (arith, ints, nat_tests)
some_first Descending e f ne = grind (arith, ints, nat_tests)

apart : (order : RankOrder) (list : List Entry) → AllPairs (λ e f. e.0 ≢ f.0) list → AreApart (comes_before order) list
unfolding AreApart
apart order [] h = tt
apart order (e ∷ es) h = (
  λ f i. let c = in-contains es f i in
      let ne : e.0 ≢ (get_or es c.0 f).0 = h 0 (suc c.0) f (omega arith) (omega (arith, c.1)) in
      some_first order e f (subst (λ (g : Entry). e.0 ≢ g.0) c.2 ne),
  apart order es (λ i j d l m. h (suc i) (suc j) d (omega arith) (omega arith)),
)

one_way : (b c : Bool) → (b ≡ true → c ≡ false) → cond b 1 0 + cond c 1 0 ≡ cond (b || c) 1 0
one_way true c h = rw (h refl) refl
one_way false true h = refl
one_way false false h = refl

excludes : (order : RankOrder) (x v : ℤ) (t : Bool) → precedes order v x ≡ true → (int_eq x v && t) ≡ false
excludes Ascending x v t s = let no : int_eq x v ≡ false = grind (arith, ints) in rw no refl
excludes Descending x v t s = let no : int_eq x v ≡ false = grind (arith, ints) in rw no refl

counted : (order : RankOrder) (list : List Entry) (a : ℕ) (x : ℤ) → preceding order x (values list) + earlier_same a x list ≡ count_by (λ f. comes_before order f (a, x)) list
unfolding comes_before
counted order [] a x = refl
counted order (e ∷ es) a x =
    let rest = counted order es a x in
    let one = one_way (precedes order e.1 x) (int_eq x e.1 && nat_lt e.0 a) (excludes order x e.1 (nat_lt e.0 a)) in
    rw (count-cons (λ v. precedes order v x) e.1 (values es), count-cons (λ (f : Entry). int_eq x f.1 && nat_lt f.0 a) e es, count-cons (λ (f : Entry). comes_before order f (a, x)) e es) (omega arith)

pub ordinals-numbers : (order : RankOrder) (list : List Entry) → AllPairs (λ e f. e.0 ≢ f.0) list → IsPermutation (map (λ e. ordinal order list e.0 e.1) list) (range_with_len 1 (length list))
unfolding place
ordinals-numbers order list h =
    let same : map (λ e. ordinal order list e.0 e.1) list ≡ map (place (comes_before order) list) list =
    map-agree (λ (e : Entry). ordinal order list e.0 e.1) (place (comes_before order) list) list (λ e i. omega (arith, counted order list e.0 e.1)) in
    subst (λ l. IsPermutation l (range_with_len 1 (length list))) (sym same)
    (places-numbers (comes_before order) (before-itself order) (before-trans order) list (apart order list h))

-- ---- entries in order

same_value : (b c d : Bool) → c ≡ true → d ≡ true → (b || (c && d)) ≡ true
same_value true c d e f = refl
same_value false c d e f = rw (e, f) refl

stands : (order : RankOrder) (e f : Entry) → ComesBefore order e f → comes_before order e f ≡ true
unfolding comes_before
stands order e f (inl t) = rw t refl
stands Ascending e f (inr h) = same_value (int_lt e.1 f.1) (int_eq f.1 e.1) (nat_lt e.0 f.0) (grind (arith, ints)) (grind (arith, nat_tests))
stands Descending e f (inr h) = same_value (int_lt f.1 e.1) (int_eq f.1 e.1) (nat_lt e.0 f.0) (grind (arith, ints)) (grind (arith, nat_tests))

none_before : (order : RankOrder) (e : Entry) (list : List Entry) → All (λ f. comes_before order e f ≡ true) list → count_by (λ f. comes_before order f e) list ≡ 0
none_before order e [] h = refl
none_before order e (f ∷ fs) h =
    let no : comes_before order f e ≡ false = asymmetric (comes_before order) (before-itself order) (before-trans order) e f (h 0 f (omega arith)) in
    rw (count-cons (λ g. comes_before order g e) f fs, no) (omega (arith, none_before order e fs (λ k d l. h (suc k) d (omega arith))))

-- as many entries come before the one at place i
place-in_order : (order : RankOrder) (list : List Entry) → AllPairs (ComesBefore order) list → (i : ℕ) (e : Entry) → slice_get list i ≡ Some e → count_by (λ f. comes_before order f e) list ≡ i
place-in_order order [] up i e at = absurd (cc)
place-in_order order (f ∷ fs) up zero e at =
    let same : f ≡ e = cc in
    let no : comes_before order f f ≡ false = before-itself order f in
    subst (λ g. count_by (λ h. comes_before order h g) (f ∷ fs) ≡ 0) same
    (rw (count-cons (λ h. comes_before order h f) f fs, no) (omega (arith, none_before order f fs (λ k d l. stands order f (get_or fs k d) (up 0 (suc k) d (omega arith) (omega arith))))))
place-in_order order (f ∷ fs) up (suc i) e at =
    let within : i < length fs = slice_get_within fs i e at in
    let first : ComesBefore order f (get_or fs i e) = up 0 (suc i) e (omega arith) (omega arith) in
    let yes : comes_before order f e ≡ true = subst (λ (g : Entry). comes_before order f g ≡ true) (get_or_from_slice_get fs i e e at) (stands order f (get_or fs i e) first) in
    rw (count-cons (λ h. comes_before order h e) f fs, yes)
    (omega (arith, place-in_order order fs (λ i j d l m. up (suc i) (suc j) d (omega arith) (omega arith)) i e at))

pub ordinals-places : (order : RankOrder) (list sorted : List Entry) → IsPermutation list sorted → AllPairs (ComesBefore order) sorted
    → (i : ℕ) (e : Entry) → slice_get sorted i ≡ Some e → ordinal order list e.0 e.1 ≡ i + 1
ordinals-places order list sorted moved up i e at =
    let all : count_by (λ f. comes_before order f e) sorted ≡ count_by (λ f. comes_before order f e) list = sum_by-IsPermutation (λ f. cond (comes_before order f e) 1 0) list sorted moved in
    omega (arith, counted order list e.0 e.1, place-in_order order sorted up i e at)
