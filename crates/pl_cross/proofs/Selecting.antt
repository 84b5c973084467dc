-- The asset that so many come before, by counting.
use Rattle.std.proofs.Common.{◌≡◌, ℕ, zero, suc, ◌+◌, ◌-◌, ◌<◌, ◌≤◌, Bool, true, false, ◌&&◌, ◌||◌, cond, nat_lt, nat_le, ℤ, pos, ◌<ℤ◌, List, [], ◌∷◌, ◌++◌, length, length-append, get_or, refl, sym, ◌∙◌, ap, subst, arith, inl, inr, IsPermutation}
use Rattle.std.specs.List.{count_by}
use Rattle.std.specs.List.Sorted.{IsSplitAround}
use Rattle.std.specs.Int.RustNames.{int_lt}
use Rattle.std.specs.Ordering.{int_eq}
use Rattle.std.proofs.lemmas.Bool.{cases_lt}
use Rattle.std.proofs.lemmas.Bool.Decides.{nat_tests}
use Rattle.std.proofs.lemmas.Int.{ints}
use Rattle.std.proofs.lemmas.List.{get_or-append_right}
use Rattle.std.proofs.lemmas.List.Elements.{Contains-get_or}
use Rattle.std.proofs.lemmas.List.Sorted.{Contains-permutation, IsPermutation-sym}
use Rattle.std.proofs.Math.ListN.{get_or-append}
use Rattle.pl_spec.specs.Cells.{truth}
use Rattle.pl_pipeline.specs.declared.RankOrder.TheVariants.{Ascending}
use Rattle.pl_pipeline.specs.Kind.CrossKind.{Bottom}
use Rattle.pl_pipeline.specs.Cross.{Entry, values, ordinal, cross}
use Rattle.pl_pipeline.specs.Order.{value_at}
use Rattle.pl_pipeline.proofs.SortedValues.{counted-is-value_at}
use Rattle.pl_spec.proofs.Counts.{count-cons, count-within, count-fewer}
use Rattle.pl_spec.proofs.Members.{In, in-contains, contains-in, map-in}
use Rattle.pl_records.proofs.Sorts.{own-permuted}
use Rattle.pl_cross.specs.declared.listing.Listed.{Listed}
use Rattle.pl_cross.specs.Listing.{entry_of, entries_of, Precedes, is_before, IsNth, HaveOwnPlaces}
use Rattle.pl_cross.proofs.Distinct.{length-values}
use Rattle.pl_cross.proofs.Order.{NotAfter, listed_cmp, not-after, apart-precedes}
use Rattle.pl_cross.proofs.Runs.{below-group, same-group, earlier-group}
use Rattle.pl_cross.proofs.Sums.{one-count, one-sum-permuted}

-- ---- how many elements pass a test

-- none from n on passes
few-pass : {A : Type 0} (p : A → Bool) (xs : List A) (n : ℕ) (d : A) → ((i : ℕ) → n ≤ i → i < length xs → p (get_or xs i d) ≡ false) → count_by p xs ≤ n
few-pass p [] n d h = omega arith
few-pass p (x ∷ xs) zero d h =
    let no : p x ≡ false = h 0 (omega arith) (omega arith) in
    let rest : count_by p xs ≤ 0 = few-pass p xs zero d (λ i l m. h (suc i) (omega arith) (omega arith)) in
    rw (count-cons p x xs, no) (omega arith)
few-pass p (x ∷ xs) (suc n) d h = rw (count-cons p x xs) (here (p x) (few-pass p xs n d (λ i l m. h (suc i) (omega arith) (omega arith))))
  where
    here : (b : Bool) → count_by p xs ≤ n → cond b 1 0 + count_by p xs ≤ suc n
    here true l = omega arith
    here false l = omega arith

-- and one in front of n does not either
fewer-pass : {A : Type 0} (p : A → Bool) (xs : List A) (n k : ℕ) (d : A) → ((i : ℕ) → n ≤ i → i < length xs → p (get_or xs i d) ≡ false)
    → k < n → k < length xs → p (get_or xs k d) ≡ false → count_by p xs < n
fewer-pass p xs zero k d h l m fails = absurd (omega arith)
fewer-pass p [] (suc n) k d h l m fails = absurd (omega arith)
fewer-pass p (x ∷ xs) (suc n) zero d h l m fails =
    let first : p x ≡ false = fails in
    let rest : count_by p xs ≤ n = few-pass p xs n d (λ i a b. h (suc i) (omega arith) (omega arith)) in
    rw (count-cons p x xs, first) (omega arith)
fewer-pass p (x ∷ xs) (suc n) (suc k) d h l m fails =
    rw (count-cons p x xs) (here (p x) (fewer-pass p xs n k d (λ i a b. h (suc i) (omega arith) (omega arith)) (omega arith) (omega arith) fails))
  where
    here : (b : Bool) → count_by p xs < n → cond b 1 0 + count_by p xs < suc n
    here true a = omega arith
    here false a = omega arith

-- all in front of n pass
many-pass : {A : Type 0} (p : A → Bool) (xs : List A) (n : ℕ) (d : A) → n ≤ length xs → ((i : ℕ) → i < n → p (get_or xs i d) ≡ true) → n ≤ count_by p xs
many-pass p xs zero d l h = omega arith
many-pass p [] (suc n) d l h = absurd (omega arith)
many-pass p (x ∷ xs) (suc n) d l h =
    let first : p x ≡ true = h 0 (omega arith) in
    let rest : n ≤ count_by p xs = many-pass p xs n d (omega arith) (λ i m. h (suc i) (omega arith)) in
    rw (count-cons p x xs, first) (omega arith)

-- two tests of which no element passes both
either-passes : {A : Type 0} (p q : A → Bool) (xs : List A) → ((x : A) → p x ≡ true → q x ≡ false) → count_by p xs + count_by q xs ≡ count_by (λ x. p x || q x) xs
either-passes p q [] h = refl
either-passes {A} p q (x ∷ xs) h =
    rw (count-cons p x xs, count-cons q x xs, count-cons (λ y. p y || q y) x xs) (here (p x) (q x) (h x) (either-passes p q xs h))
  where
    here : (a b : Bool) → (a ≡ true → b ≡ false) → count_by p xs + count_by q xs ≡ count_by (λ y. p y || q y) xs
        → (cond a 1 0 + count_by p xs) + (cond b 1 0 + count_by q xs) ≡ cond (a || b) 1 0 + count_by (λ y. p y || q y) xs
    here true true f e = absurd (let no : true ≡ false = f refl in cc)
    here true false f e = omega arith
    here false true f e = omega arith
    here false false f e = omega arith

-- ---- tests of the order

not-less : (x y : ℤ) → x <ℤ y → int_lt y x ≡ false
not-less x y h = grind (arith, ints)

not-equal : (x y : ℤ) → x <ℤ y → int_eq x y ≡ false
not-equal x y h = grind (arith, ints)

same-not-less : (x y : ℤ) → x ≡ y → int_lt y x ≡ false
same-not-less x y e = grind (arith, ints)

same-equal : (x y : ℤ) → x ≡ y → int_eq y x ≡ true
same-equal x y e = grind (arith, ints)

less-yes : (x y : ℤ) → x <ℤ y → int_lt x y ≡ true
less-yes x y h = grind (arith, ints)

lt-not : (a b : ℕ) → a ≤ b → nat_lt b a ≡ false
lt-not a b h = grind (arith, nat_tests)

lt-yes : (a b : ℕ) → a < b → nat_lt a b ≡ true
lt-yes a b h = grind (arith, nat_tests)

neither : (a b c : Bool) → a ≡ false → b ≡ false → (a || (b && c)) ≡ false
neither a b c e f = rw (e, f) refl

nor : (a b c : Bool) → a ≡ false → c ≡ false → (a || (b && c)) ≡ false
nor a true c e f = rw (e, f) refl
nor a false c e f = rw e refl

former : (a b : Bool) → a ≡ true → (a || b) ≡ true
former a b e = rw e refl

latter : (a b : Bool) → b ≡ true → (a || b) ≡ true
latter true b e = refl
latter false b e = e

both-hold : (a b : Bool) → a ≡ true → b ≡ true → (a && b) ≡ true
both-hold a b e f = rw (e, f) refl

behind-fails : (e f : Listed) → NotAfter e f → is_before e f ≡ false
behind-fails e f (inl l) = neither (int_lt f.value e.value) (int_eq e.value f.value) (nat_lt f.place e.place) (not-less e.value f.value l) (not-equal e.value f.value l)
behind-fails e f (inr h) = nor (int_lt f.value e.value) (int_eq e.value f.value) (nat_lt f.place e.place) (same-not-less e.value f.value h.0) (lt-not e.place f.place h.1)

front-passes : (e f : Listed) → Precedes f e → is_before e f ≡ true
front-passes e f (inl l) = former (int_lt f.value e.value) (int_eq e.value f.value && nat_lt f.place e.place) (less-yes f.value e.value l)
front-passes e f (inr h) =
    latter (int_lt f.value e.value) (int_eq e.value f.value && nat_lt f.place e.place)
    (both-hold (int_eq e.value f.value) (nat_lt f.place e.place) (same-equal f.value e.value h.0) (lt-yes f.place e.place h.1))

self-not-after : (e : Listed) → NotAfter e e
self-not-after e = inr (refl, omega arith)

self-fails : (e : Listed) → is_before e e ≡ false
self-fails e = behind-fails e e (self-not-after e)

before-precedes : (e f : Listed) → is_before e f ≡ true → Precedes f e
before-precedes e f t = here (int_lt f.value e.value) refl (int_eq e.value f.value) refl (nat_lt f.place e.place) refl t
  where
    here : (a : Bool) → int_lt f.value e.value ≡ a → (b : Bool) → int_eq e.value f.value ≡ b → (c : Bool) → nat_lt f.place e.place ≡ c → (a || (b && c)) ≡ true → Precedes f e
    here true p b q c r h = inl (grind (arith, ints))
    here false p true q true r h = inr (grind (arith, ints), grind (arith, nat_tests))
    here false p true q false r h = absurd (cc)
    here false p false q c r h = absurd (cc)

before-not-after : (e f : Listed) → is_before e f ≡ false → NotAfter e f
before-not-after e f t = here (int_lt f.value e.value) refl (int_eq e.value f.value) refl (nat_lt f.place e.place) refl t
  where
    here : (a : Bool) → int_lt f.value e.value ≡ a → (b : Bool) → int_eq e.value f.value ≡ b → (c : Bool) → nat_lt f.place e.place ≡ c → (a || (b && c)) ≡ false → NotAfter e f
    here true p b q c r h = absurd (cc)
    here false p true q true r h = absurd (cc)
    here false p true q false r h = inr (grind (arith, ints), grind (arith, nat_tests))
    here false p false q c r h = inl (grind (arith, ints))

precedes-next : (e f g : Listed) → Precedes e f → NotAfter f g → Precedes e g
precedes-next e f g (inl l) (inl m) = inl (omega (arith, ints))
precedes-next e f g (inl l) (inr h) = inl (omega (arith, ints, h.0))
precedes-next e f g (inr h) (inl m) = inl (omega (arith, ints, h.0))
precedes-next e f g (inr h) (inr k) = inr (h.0 ∙ k.0, omega (arith, h.1, k.1))

precedes-not-after : (e f : Listed) → Precedes e f → NotAfter e f
precedes-not-after e f (inl l) = inl l
precedes-not-after e f (inr h) = inr (h.0, omega (arith, h.1))

-- ---- the selected asset

-- as many come before it as stand in front of it
pub nth-is : (group front back : List Listed) (x : Listed) (n : ℕ) → IsPermutation group (front ++ x ∷ back) → length front ≡ n → IsSplitAround listed_cmp front x back
    → HaveOwnPlaces group → IsNth group n x
nth-is group front back x n moved long around own = record {
  own = Contains-permutation ys group x (IsPermutation-sym group ys moved) (n, omega (arith, long, length-append front (x ∷ back)), middle);
  counted = one-count (is_before x) group ys (one-sum-permuted ys group (IsPermutation-sym group ys moved)) ∙ omega (arith, few, many);
}
  where
    ys : List Listed
    ys = front ++ x ∷ back

    middle : get_or (front ++ x ∷ back) n x ≡ x
    middle = get_or-append_right front (x ∷ back) n n x long (omega arith) ∙ (let one : n - n ≡ 0 = omega arith in ap (λ m. get_or (x ∷ back) m x) one)

    behind : (j : ℕ) → n < j → j < length (front ++ x ∷ back) → get_or (front ++ x ∷ back) j x ≡ get_or back (j - (n + 1)) x
    behind j h l = get_or-append_right front (x ∷ back) n j x long (omega arith) ∙ (let one : j - n ≡ suc (j - (n + 1)) = omega arith in ap (λ m. get_or (x ∷ back) m x) one)

    few : count_by (is_before x) (front ++ x ∷ back) ≤ n
    few = few-pass (is_before x) (front ++ x ∷ back) n x no-more
      where
        no-more : (i : ℕ) → n ≤ i → i < length (front ++ x ∷ back) → is_before x (get_or (front ++ x ∷ back) i x) ≡ false
        no-more i l m = elim (cases_lt n i) [
          | inl lt ↦ ap (is_before x) (behind i lt m) ∙ behind-fails x (get_or back (i - (n + 1)) x) (not-after x (get_or back (i - (n + 1)) x) (around.1 (i - (n + 1)) x (omega (arith, long, length-append front (x ∷ back)))))
          | inr ge ↦ (let one : i ≡ n = omega arith in ap (λ j. is_before x (get_or (front ++ x ∷ back) j x)) one ∙ ap (is_before x) middle ∙ self-fails x)
        ]

    apart : HaveOwnPlaces (front ++ x ∷ back)
    apart = own-permuted (λ (e : Listed). e.place) group (front ++ x ∷ back) moved own

    many : n ≤ count_by (is_before x) (front ++ x ∷ back)
    many = many-pass (is_before x) (front ++ x ∷ back) n x (omega (arith, long, length-append front (x ∷ back))) in-front
      where
        in-front : (i : ℕ) → i < n → is_before x (get_or (front ++ x ∷ back) i x) ≡ true
        in-front i l =
            let here : get_or (front ++ x ∷ back) i x ≡ get_or front i x = get_or-append front (x ∷ back) x i (omega (arith, long)) in
            let other = apart.apart i n x l (omega (arith, long, length-append front (x ∷ back))) in
            front-passes x (get_or (front ++ x ∷ back) i x) (apart-precedes (get_or (front ++ x ∷ back) i x) x
            (subst (λ e. NotAfter e x) (sym here) (not-after (get_or front i x) x (around.0 i x (omega (arith, long)))))
            (λ same. other (same ∙ ap (λ (e : Listed). e.place) (sym middle))))

-- its value is the one in its place
pub nth-value : (group : List Listed) (n : ℕ) (e : Listed) → n < length group → IsNth group n e → e.value ≡ value_at (values (entries_of group)) n
nth-value group n e inside h =
    let x : ℤ = e.value in
    let vs : List ℤ = values (entries_of group) in
    let there : In e group = contains-in group e h.own in
    let few : count_by (λ (f : Listed). int_lt f.value x) group ≤ count_by (is_before e) group =
    count-within (λ (f : Listed). int_lt f.value x) (is_before e) group (λ f i t. former (int_lt f.value e.value) (int_eq e.value f.value && nat_lt f.place e.place) t) in
    let many : suc (count_by (is_before e) group) ≤ count_by (λ (f : Listed). int_lt f.value x || int_eq x f.value) group =
    count-fewer (is_before e) (λ (f : Listed). int_lt f.value x || int_eq x f.value) group e there (self-fails e) (latter (int_lt x x) (int_eq x x) (same-equal x x refl))
    (λ f i t. weaker (int_lt f.value x) (int_eq x f.value) (nat_lt f.place e.place) t) in
    let both = either-passes (λ (f : Listed). int_lt f.value x) (λ (f : Listed). int_eq x f.value) group (λ f t. less-not-same f.value x t) in
    counted-is-value_at vs n x (omega (arith, length-values group)) (record {
      own = in-contains vs x (map-in (λ (f : Entry). f.1) (entries_of group) (entry_of e) (map-in entry_of group e there));
      few = omega (arith, below-group x group, h.counted);
      many = omega (arith, below-group x group, same-group x group, h.counted);
    })
  where
    less-not-same : (v x : ℤ) → int_lt v x ≡ true → int_eq x v ≡ false
    less-not-same v x t = grind (arith, ints)

    weaker : (a b c : Bool) → (a || (b && c)) ≡ true → (a || b) ≡ true
    weaker true b c t = refl
    weaker false true c t = refl
    weaker false false c t = t

-- ---- the first n

-- the place of an asset, by counting what comes before it
ordinal-counted : (group : List Listed) (e : Listed) → ordinal Ascending (entries_of group) e.place e.value ≡ count_by (is_before e) group + 1
ordinal-counted group e =
    let both = either-passes (λ (f : Listed). int_lt f.value e.value) (λ (f : Listed). int_eq e.value f.value && nat_lt f.place e.place) group (λ f t. apart f.value e.value (nat_lt f.place e.place) t) in
    omega (arith, below-group e.value group, earlier-group e.place e.value group)
  where
    apart : (v x : ℤ) (b : Bool) → int_lt v x ≡ true → (int_eq x v && b) ≡ false
    apart v x b t = let none : int_eq x v ≡ false = grind (arith, ints) in rw none refl

le-yes : (a b : ℕ) → a ≤ b → nat_le a b ≡ true
le-yes a b h = grind (arith, nat_tests)

le-not : (a b : ℕ) → b < a → nat_le a b ≡ false
le-not a b h = grind (arith, nat_tests)

-- those that come before the asset that n come before are the first n
pub first-is : (group : List Listed) (n k : ℕ) (d e : Listed) → IsNth group n e → k < length group
    → truth (is_before e (get_or group k d)) ≡ cross (Bottom n) (entries_of group) (get_or group k d).place (get_or group k d).value
unfolding cross
first-is group n k d e h inside = ap truth (here (is_before e (get_or group k d)) refl)
  where
    f : Listed
    f = get_or group k d

    there : In (get_or group k d) group
    there = contains-in group (get_or group k d) (Contains-get_or group k d inside)

    here : (b : Bool) → is_before e (get_or group k d) ≡ b → b ≡ nat_le (ordinal Ascending (entries_of group) (get_or group k d).place (get_or group k d).value) n
    here true t =
        let few : suc (count_by (is_before (get_or group k d)) group) ≤ count_by (is_before e) group =
        count-fewer (is_before (get_or group k d)) (is_before e) group (get_or group k d) there (self-fails (get_or group k d)) t
        (λ y i u. front-passes e y (precedes-next y (get_or group k d) e (before-precedes (get_or group k d) y u) (precedes-not-after (get_or group k d) e (before-precedes e (get_or group k d) t)))) in
        sym (le-yes (ordinal Ascending (entries_of group) (get_or group k d).place (get_or group k d).value) n (omega (arith, ordinal-counted group (get_or group k d), h.counted)))
    here false t =
        let many : count_by (is_before e) group ≤ count_by (is_before (get_or group k d)) group =
        count-within (is_before e) (is_before (get_or group k d)) group
        (λ y i u. front-passes (get_or group k d) y (precedes-next y e (get_or group k d) (before-precedes e y u) (before-not-after e (get_or group k d) t))) in
        sym (le-not (ordinal Ascending (entries_of group) (get_or group k d).place (get_or group k d).value) n (omega (arith, ordinal-counted group (get_or group k d), h.counted)))

-- all are, where there are no more than n
pub all-first : (group : List Listed) (n k : ℕ) (d : Listed) → length group ≤ n → k < length group → pos 1 ≡ cross (Bottom n) (entries_of group) (get_or group k d).place (get_or group k d).value
unfolding cross
all-first group n k d few inside =
    let own : count_by (is_before (get_or group k d)) group < length group =
    fewer-pass (is_before (get_or group k d)) group (length group) k d (λ i a b. absurd (omega arith)) inside inside (self-fails (get_or group k d)) in
    ap truth (sym (le-yes (ordinal Ascending (entries_of group) (get_or group k d).place (get_or group k d).value) n (omega (arith, ordinal-counted group (get_or group k d)))))
