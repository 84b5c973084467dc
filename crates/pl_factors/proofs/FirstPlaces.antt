-- The first place of a cell in a list that loses its first cell and gains a last one.
use Rattle.std.proofs.Common.{◌≡◌, ◌≢◌, ◌≤◌, ◌<◌, ◌+◌, ◌-◌, ℕ, zero, suc, ℤ, pos, List, [], ◌∷◌, ◌++◌, length, map, take, get_or, max, Bool, true, false, nat_lt, eqb, ◌⊎◌, inl, inr, refl, ap, ap₂, arith, sym, subst, ◌∙◌, length-append, ne_eqb}
use Rattle.std.specs.List.{All, position_or_len}
use Rattle.std.specs.Ordering.{int_eq}
use Rattle.std.proofs.lemmas.Bool.{cases_lt}
use Rattle.std.proofs.lemmas.Bool.Decides.{nat_tests}
use Rattle.std.proofs.lemmas.Int.{ints}
use Rattle.std.proofs.lemmas.List.{length-take}
use Rattle.std.proofs.lemmas.List.Folds.{position_or_len_push}
use Rattle.std.proofs.lemmas.List.Elements.{All-take, All-tail}
use Rattle.pl_spec.specs.Rounding.{MISSING, IsCell}
use Rattle.pl_spec.proofs.Signed.{int_eq-itself}
use Rattle.pl_lanes.specs.Heights.{peak, rank, best_of}
use Rattle.pl_lanes.proofs.Heights.{best-rank}
use Rattle.pl_lanes.proofs.Bits.{at-cell}
use Rattle.pl_factors.specs.Terms.{first_place}
use Rattle.pl_factors.specs.Spans.{before, after, last}
use Rattle.pl_factors.proofs.Sliding.{whole}
use Rattle.pl_factors.proofs.Peaks.{best-slides, rank-same, rank-missing}

-- how many cells are not x, up to the first that is
ahead : ℤ → List ℤ → ℕ
ahead x xs = position_or_len (λ y. int_eq y x) xs

place-in : (x : ℤ) (xs : List ℤ) → ahead x xs < length xs → first_place x xs ≡ ahead x xs
unfolding ahead first_place
place-in x xs h = let t : nat_lt (ahead x xs) (length xs) ≡ true = grind (arith, nat_tests) in rw t refl

place-out : (x : ℤ) (xs : List ℤ) → length xs ≤ ahead x xs → first_place x xs ≡ 0
unfolding ahead first_place
place-out x xs h = let t : nat_lt (ahead x xs) (length xs) ≡ false = grind (arith, nat_tests) in rw t refl

ahead-here : (x z : ℤ) (l : List ℤ) → int_eq z x ≡ true → ahead x (z ∷ l) ≡ 0
unfolding ahead
ahead-here x z l e = rw e refl

ahead-next : (x z : ℤ) (l : List ℤ) → int_eq z x ≡ false → ahead x (z ∷ l) ≡ suc (ahead x l)
unfolding ahead
ahead-next x z l e = rw e (omega arith)

unlike-eq : (x y : ℤ) → x ≢ y → int_eq x y ≡ false
unlike-eq x y h = grind (arith, ints)

pub place-few : (x : ℤ) (xs : List ℤ) → first_place x xs ≤ length xs
place-few x xs = elim (cases_lt (ahead x xs) (length xs)) [
  | inl h ↦ let p = place-in x xs h in omega arith
  | inr h ↦ let p = place-out x xs h in omega arith
]

ahead-is : (v : ℤ) (xs : List ℤ) (p : ℕ) → p < length xs → get_or xs p (pos 0) ≡ v → ((j : ℕ) → j < p → get_or xs j (pos 0) ≢ v) → ahead v xs ≡ p
ahead-is v [] p h e each = absurd (omega arith)
ahead-is v (z ∷ l) zero h e each = ahead-here v z l (ap (λ y. int_eq y v) e ∙ int_eq-itself v)
ahead-is v (z ∷ l) (suc p) h e each =
    ahead-next v z l (unlike-eq z v (each 0 (omega arith))) ∙ ap suc (ahead-is v l p (omega arith) e (λ j k. each (suc j) (omega arith)))

-- a number has its first place where no number before is it
pub place-is : (v : ℤ) (xs : List ℤ) (p : ℕ) → p < length xs → get_or xs p (pos 0) ≡ v → ((j : ℕ) → j < p → get_or xs j (pos 0) ≢ v) → first_place v xs ≡ p
place-is v xs p h e each =
    let a = ahead-is v xs p h e each in
    place-in v xs (omega arith) ∙ a

place-first : (x : ℤ) (l : List ℤ) → first_place x (x ∷ l) ≡ 0
place-first x l = let e = ahead-here x x l (int_eq-itself x) in place-in x (x ∷ l) (omega arith) ∙ e

ahead-push : (x y : ℤ) (l : List ℤ) → ahead x l < length l → ahead x (l ++ y ∷ []) ≡ ahead x l
unfolding ahead
ahead-push x y l h =
    let n : eqb (ahead x l) (length l) ≡ false = ne_eqb _ _ (λ e. omega arith) in
    position_or_len_push (λ z. int_eq z x) l y ∙ rw n refl

ahead-new : (y : ℤ) (l : List ℤ) → ahead y l ≡ length l → ahead y (l ++ y ∷ []) ≡ length l
unfolding ahead
ahead-new y l h =
    let t : eqb (ahead y l) (length l) ≡ true = grind (arith, nat_tests) in
    let s = int_eq-itself y in
    position_or_len_push (λ z. int_eq z y) l y ∙ rw (t, s) (omega arith)

-- where it is not the first cell, it comes one place nearer
place-stays : (x z y : ℤ) (l : List ℤ) → 0 < first_place x (z ∷ l) → first_place x (l ++ y ∷ []) + 1 ≡ first_place x (z ∷ l)
place-stays x z y l some = here (int_eq z x) refl
  where
    here : (b : Bool) → int_eq z x ≡ b → first_place x (l ++ y ∷ []) + 1 ≡ first_place x (z ∷ l)
    here true e = let q = ahead-here x z l e in let p = place-in x (z ∷ l) (omega arith) in absurd (omega arith)
    here false e =
        let q = ahead-next x z l e in
        elim (cases_lt (ahead x l) (length l)) [
          | inl h ↦
              let p = place-in x (z ∷ l) (omega arith) in
              let r = ahead-push x y l h in
              let long : length (l ++ y ∷ []) ≡ length l + 1 = length-append l (y ∷ []) in
              let n = place-in x (l ++ y ∷ []) (omega arith) in
              omega arith
          | inr h ↦ let p = place-out x (z ∷ l) (omega arith) in absurd (omega arith)
        ]

module _ (f : ℤ → ℕ) (best : List ℤ → ℤ) (is : (xs : List ℤ) → All IsCell xs → (f (best xs) ≡ peak (map f xs)) × IsCell (best xs))
    (same : (x y : ℤ) → IsCell x → IsCell y → f x ≡ f y → x ≡ y) (none : f MISSING ≡ 0) where
  -- a cell above all others is ahead of none that is it
  unlike-all : (y : ℤ) (l : List ℤ) → peak (map f l) < f y → ahead y l ≡ length l
  unfolding ahead
  unlike-all y [] h = refl
  unlike-all y (z ∷ l) h =
      let e = unlike-eq z y (λ e. let g : f z ≡ f y = ap f e in omega arith) in
      let r : position_or_len (λ x. int_eq x y) l ≡ length l = unlike-all y l (omega arith) in
      rw e (omega (arith, r))

  enters-last : (x y : ℤ) (front : List ℤ) → All IsCell (x ∷ front) → f (best (x ∷ front)) < f y → first_place y (front ++ y ∷ []) ≡ length front
  enters-last x y front cells more =
      let g : f (best (x ∷ front)) ≡ max (f x) (peak (map f front)) = (is (x ∷ front) cells).0 in
      let n = ahead-new y front (unlike-all y front (omega arith)) in
      let long : length (front ++ y ∷ []) ≡ length front + 1 = length-append front (y ∷ []) in
      place-in y (front ++ y ∷ []) (omega arith) ∙ n

  head-is : (g y : ℤ) (front : List ℤ) → IsCell g → All IsCell front → IsCell y → f g ≡ 0 → peak (map f front) ≡ 0 → f y ≡ 0 → first_place g (front ++ y ∷ []) ≡ 0
  head-is g y [] c cells d e p q = let i : y ≡ g = same y g d c (omega arith) in rw i (place-first g [])
  head-is g y (z ∷ l) c cells d e p q = let i : z ≡ g = same z g (cells 0 z (omega arith)) c (omega arith) in rw i (place-first g (l ++ y ∷ []))

  remains-place : (x y : ℤ) (front : List ℤ) → All IsCell (x ∷ front) → IsCell y
      → (0 < first_place (best (x ∷ front)) (x ∷ front)) ⊎ (best (x ∷ front) ≡ MISSING) → f y ≤ f (best (x ∷ front))
      → first_place (best (x ∷ front)) (front ++ y ∷ []) ≡ first_place (best (x ∷ front)) (x ∷ front) - 1
  remains-place x y front cells c (inl some) less = let s = place-stays (best (x ∷ front)) x y front some in omega arith
  remains-place x y front cells c (inr gone) less =
      let i = is (x ∷ front) cells in
      let g : f (best (x ∷ front)) ≡ max (f x) (peak (map f front)) = i.0 in
      let z : f (best (x ∷ front)) ≡ 0 = ap f gone ∙ none in
      let e : x ≡ best (x ∷ front) = same x (best (x ∷ front)) (cells 0 x (omega arith)) i.1 (omega arith) in
      let p : first_place (best (x ∷ front)) (x ∷ front) ≡ 0 = ap (λ v. first_place v (x ∷ front)) (sym e) ∙ place-first x front in
      let q = head-is (best (x ∷ front)) y front i.1 (All-tail IsCell x front cells) c z (omega arith) (omega arith) in
      omega arith

  leaves-other : (x : ℤ) (front : List ℤ) → All IsCell (x ∷ front) → (0 < first_place (best (x ∷ front)) (x ∷ front)) ⊎ (best (x ∷ front) ≡ MISSING)
      → (f x ≢ f (best (x ∷ front))) ⊎ (f (best (x ∷ front)) ≡ 0)
  leaves-other x front cells (inr gone) = inr (ap f gone ∙ none)
  leaves-other x front cells (inl some) = inl (λ e.
      let i : x ≡ best (x ∷ front) = same x (best (x ∷ front)) (cells 0 x (omega arith)) (is (x ∷ front) cells).1 e in
      let p : first_place (best (x ∷ front)) (x ∷ front) ≡ 0 = ap (λ v. first_place v (x ∷ front)) (sym i) ∙ place-first x front in
      omega arith)

  -- the first window, the second, and the last cell of a span
  record IsSpan (x m : ℤ) (ms front : List ℤ) (y : ℤ) : Type 0 where
    old : before (x ∷ m ∷ ms) ≡ x ∷ front
    new : m ∷ ms ≡ front ++ y ∷ []
    end : last (x ∷ m ∷ ms) ≡ y
    long : length front ≡ length ms

  span : (x m : ℤ) (ms : List ℤ) → IsSpan x m ms (take (length ms) (m ∷ ms)) (get_or (m ∷ ms) (length ms) (pos 0))
  span x m ms =
      let n : length (x ∷ m ∷ ms) - 1 ≡ suc (length ms) = omega arith in
      record {
        old = ap (λ k. take k (x ∷ m ∷ ms)) n;
        new = sym (whole m ms);
        end = ap (λ k. get_or (x ∷ m ∷ ms) k (pos 0)) n;
        long = let t = length-take (length ms) (m ∷ ms) in omega arith;
      }

  -- the first place of the best cell of the second window, where that is its last cell
  enters : (x m : ℤ) (ms : List ℤ) → All IsCell (x ∷ m ∷ ms)
      → (0 < first_place (best (before (x ∷ m ∷ ms))) (before (x ∷ m ∷ ms))) ⊎ (best (before (x ∷ m ∷ ms)) ≡ MISSING)
      → f (best (before (x ∷ m ∷ ms))) < f (last (x ∷ m ∷ ms))
      → (best (m ∷ ms) ≡ last (x ∷ m ∷ ms)) × (first_place (last (x ∷ m ∷ ms)) (m ∷ ms) ≡ length ms)
  enters x m ms cells leaves more =
      let s = span x m ms in
      let front = take (length ms) (m ∷ ms) in
      let y = get_or (m ∷ ms) (length ms) (pos 0) in
      let olds : All IsCell (x ∷ front) = subst (All IsCell) s.old (All-take IsCell (length (x ∷ m ∷ ms) - 1) (x ∷ m ∷ ms) cells) in
      let other = leaves-other x front olds (rw s.old at leaves) in
      let more' : f (best (x ∷ front)) < f y = rw (s.old, s.end) at more in
      let b : f (best (m ∷ ms)) ≡ max (f (best (before (x ∷ m ∷ ms)))) (f (last (x ∷ m ∷ ms)))
      = best-slides f best is x m ms cells (let P : List ℤ → Type 0 = λ l. (f x ≢ f (best l)) ⊎ (f (best l) ≡ 0) in subst P (sym s.old) other) in
      let new = (is (m ∷ ms) (All-tail IsCell x (m ∷ ms) cells)).1 in (
        same (best (m ∷ ms)) (last (x ∷ m ∷ ms)) new (at-cell (x ∷ m ∷ ms) (length (x ∷ m ∷ ms) - 1) cells) (omega arith),
        ap₂ first_place s.end s.new ∙ enters-last x y front olds more' ∙ s.long,
      )

  -- and where it is the best cell of the first window
  remains : (x m : ℤ) (ms : List ℤ) → All IsCell (x ∷ m ∷ ms)
      → (0 < first_place (best (before (x ∷ m ∷ ms))) (before (x ∷ m ∷ ms))) ⊎ (best (before (x ∷ m ∷ ms)) ≡ MISSING)
      → f (last (x ∷ m ∷ ms)) ≤ f (best (before (x ∷ m ∷ ms)))
      → (best (m ∷ ms) ≡ best (before (x ∷ m ∷ ms)))
      × (first_place (best (before (x ∷ m ∷ ms))) (m ∷ ms) ≡ first_place (best (before (x ∷ m ∷ ms))) (before (x ∷ m ∷ ms)) - 1)
  remains x m ms cells leaves less =
      let s = span x m ms in
      let front = take (length ms) (m ∷ ms) in
      let y = get_or (m ∷ ms) (length ms) (pos 0) in
      let xs = x ∷ m ∷ ms in
      let befores = All-take IsCell (length xs - 1) xs cells in
      let olds : All IsCell (x ∷ front) = subst (All IsCell) s.old befores in
      let leaves' = rw s.old at leaves in
      let other = leaves-other x front olds leaves' in
      let less' : f y ≤ f (best (x ∷ front)) = rw (s.old, s.end) at less in
      let b : f (best (m ∷ ms)) ≡ max (f (best (before xs))) (f (last xs))
      = best-slides f best is x m ms cells (let P : List ℤ → Type 0 = λ l. (f x ≢ f (best l)) ⊎ (f (best l) ≡ 0) in subst P (sym s.old) other) in
      let new = (is (m ∷ ms) (All-tail IsCell x (m ∷ ms) cells)).1 in
      let yc : IsCell y = subst IsCell s.end (at-cell xs (length xs - 1) cells) in (
        same (best (m ∷ ms)) (best (before xs)) new (is (before xs) befores).1 (omega arith),
        ap₂ first_place (ap best s.old) s.new ∙ remains-place x y front olds yc leaves' less' ∙ sym (ap (λ l. first_place (best l) l - 1) s.old),
      )

-- ---- by spans

abbrev pub Leaves : Bool → List ℤ → Type 0
Leaves low xs = (0 < first_place (best_of low (before xs)) (before xs)) ⊎ (best_of low (before xs) ≡ MISSING)

pub best-enters : (low : Bool) (xs : List ℤ) → All IsCell xs → 2 ≤ length xs → Leaves low xs → rank low (best_of low (before xs)) < rank low (last xs)
    → (best_of low (after xs) ≡ last xs) × (first_place (last xs) (after xs) ≡ length xs - 2)
best-enters low [] cells some leaves more = absurd (omega arith)
best-enters low (x ∷ []) cells some leaves more = absurd (omega arith)
best-enters low (x ∷ m ∷ ms) cells some leaves more =
    let e = enters (rank low) (best_of low) (best-rank low) (rank-same low) (rank-missing low) x m ms cells leaves more in (e.0, omega (arith, e.1))

pub best-remains : (low : Bool) (xs : List ℤ) → All IsCell xs → 2 ≤ length xs → Leaves low xs → rank low (last xs) ≤ rank low (best_of low (before xs))
    → (best_of low (after xs) ≡ best_of low (before xs)) × (first_place (best_of low (before xs)) (after xs) ≡ first_place (best_of low (before xs)) (before xs) - 1)
best-remains low [] cells some leaves less = absurd (omega arith)
best-remains low (x ∷ []) cells some leaves less = absurd (omega arith)
best-remains low (x ∷ m ∷ ms) cells some leaves less = remains (rank low) (best_of low) (best-rank low) (rank-same low) (rank-missing low) x m ms cells leaves less
