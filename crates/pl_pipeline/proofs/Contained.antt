-- Numbers of terms among others.
use Rattle.std.proofs.Common.{◌≡◌, ◌≢◌, ℕ, zero, suc, ◌<◌, ◌==◌, ◌||◌, Bool, true, false, cond, List, [], ◌∷◌, ◌++◌, Some, Option, slice_get, option_to_list, filter_map, refl, sym, ◌∙◌, ap, arith, inl, inr}
use Rattle.std.proofs.lemmas.Bool.{or_cases, or_left, or_right, eqb-true, eq-eqb, true≢false}
use Rattle.std.proofs.lemmas.List.Folds.{list_any-append}
use Rattle.std.proofs.Math.Bool.{or-false}
use Rattle.pl_pipeline.specs.Term.{Input, Graph}
use Rattle.pl_pipeline.specs.Term.Input.{BarColumn, TermInput}
use Rattle.pl_pipeline.specs.Graph.{contains, input_number, mentions_at, used_below}

pub in-front : (xs ys : List ℕ) (k : ℕ) → contains xs k ≡ true → contains (xs ++ ys) k ≡ true
in-front xs ys k h = list_any-append (λ x. x == k) xs ys ∙ or_left (contains xs k) (contains ys k) h

pub in-back : (xs ys : List ℕ) (k : ℕ) → contains ys k ≡ true → contains (xs ++ ys) k ≡ true
in-back xs ys k h = list_any-append (λ x. x == k) xs ys ∙ or_right (contains xs k) (contains ys k) h

pub not-in-back : (xs ys : List ℕ) (k : ℕ) → contains ys k ≡ false → contains (xs ++ ys) k ≡ contains xs k
not-in-back xs ys k h = list_any-append (λ x. x == k) xs ys ∙ ap (λ b. contains xs k || b) h ∙ or-false (contains xs k)

pub alone-in : (n : ℕ) → contains (n ∷ []) n ≡ true
alone-in n = or_left (n == n) false (eq-eqb n n refl)

pub in-alone : (n k : ℕ) → contains (n ∷ []) k ≡ true → n ≡ k
in-alone n k h = elim (or_cases (n == k) false h) [ inl e ↦ eqb-true n k e | inr f ↦ absurd (true≢false (sym f)) ]

pub not-in-alone : (n k : ℕ) → k ≢ n → contains (n ∷ []) k ≡ false
not-in-alone n k ne = here (contains (n ∷ []) k) refl
  where
    here : (b : Bool) → contains (n ∷ []) k ≡ b → contains (n ∷ []) k ≡ false
    here true e = absurd (ne (sym (in-alone n k e)))
    here false e = e

pub place-of : (xs : List ℕ) (t : ℕ) → contains xs t ≡ true → (i : ℕ) × (slice_get xs i ≡ Some t)
place-of [] t h = absurd (true≢false (sym h))
place-of (x ∷ xs) t h = elim (or_cases (x == t) (contains xs t) h) [
  | inl e ↦ (0, ap Some (eqb-true x t e))
  | inr e ↦ (let r = place-of xs t e in (suc r.0, r.1))
]

pub option-in : (o : Option ℕ) (t : ℕ) → o ≡ Some t → contains (option_to_list o) t ≡ true
option-in o t e = rw e (alone-in t)

pub input-in : (is : List Input) (i t : ℕ) → slice_get is i ≡ Some (TermInput t) → contains (filter_map input_number is) t ≡ true
input-in [] i t e = cc
input-in (BarColumn c ∷ is) zero t e = cc
input-in (BarColumn c ∷ is) (suc i) t e = input-in is i t e
input-in (TermInput k ∷ is) zero t e = let same : k ≡ t = cc in or_left (k == t) (contains (filter_map input_number is) t) (eq-eqb k t same)
input-in (TermInput k ∷ is) (suc i) t e = or_right (k == t) (contains (filter_map input_number is) t) (input-in is i t e)

-- the used terms below n are below it
pub used-below : (g : Graph) (n : ℕ) (marks : List ℕ) (t : ℕ) → contains (used_below g n marks) t ≡ true → t < n
used-below g zero marks t h = absurd (true≢false (sym h))
used-below g (suc n) marks t h = here (contains marks n) h (λ m. used-below g n m t)
  where
    here : (b : Bool) → contains (used_below g n (cond b (marks ++ mentions_at g n) marks) ++ cond b (n ∷ []) []) t ≡ true
        → ((m : List ℕ) → contains (used_below g n m) t ≡ true → t < n) → t < suc n
    here b e more =
        elim (or_cases (contains (used_below g n (cond b (marks ++ mentions_at g n) marks)) t) (contains (cond b (n ∷ []) []) t) (sym (list_any-append (λ x. x == t) (used_below g n (cond b (marks ++ mentions_at g n) marks)) (cond b (n ∷ []) [])) ∙ e)) [
          | inl i ↦ (let l : t < n = more (cond b (marks ++ mentions_at g n) marks) i in omega (arith, l))
          | inr i ↦ own b i
        ]
      where
        own : (b : Bool) → contains (cond b (n ∷ []) []) t ≡ true → t < suc n
        own false i = absurd (true≢false (sym i))
        own true i = let same : n ≡ t = in-alone n t i in omega (arith, same)
