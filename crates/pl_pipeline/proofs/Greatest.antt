-- The greatest of cells is the least of their negatives, negated.
use Rattle.std.proofs.Common.{◌≡◌, suc, ◌≤◌, Bool, true, false, cond, ℤ, neg_ℤ, List, [], ◌∷◌, map, fold, unwrap_or, refl, sym, ◌∙◌, ap, arith, inl, inr}
use Rattle.std.specs.List.{All, reduce}
use Rattle.std.specs.Int.{int_max, int_min}
use Rattle.std.specs.Int.RustNames.{unsigned_abs, int_lt}
use Rattle.std.proofs.lemmas.Int.{ints}
use Rattle.std.proofs.lemmas.List.Elements.{All-filter, filter_passes}
use Rattle.std.proofs.Math.IntN.{neg_ℤ-neg_ℤ}
use Rattle.pl_spec.specs.Rounding.{MISSING, LIMIT, IsCell, is_missing, is_present, neg}
use Rattle.pl_spec.specs.Cells.{present_values}
use Rattle.pl_pipeline.specs.Formula.{formula}
use Rattle.pl_pipeline.specs.declared.WindowKind.TheVariants as window
use Rattle.pl_spec.proofs.Within.{present-within, missing-far}

neg-present : (x : ℤ) → unsigned_abs x ≤ LIMIT → is_missing (neg_ℤ x) ≡ false
neg-present x h = missing-far (neg_ℤ x) (let e : unsigned_abs (neg_ℤ x) ≡ unsigned_abs x = omega (arith, ints) in rw e h)

neg-is : (x : ℤ) → is_missing x ≡ false → neg x ≡ neg_ℤ x
unfolding neg
neg-is x e = rw e refl

neg-neg : (x : ℤ) → unsigned_abs x ≤ LIMIT → neg (neg_ℤ x) ≡ x
neg-neg x h = neg-is (neg_ℤ x) (neg-present x h) ∙ neg_ℤ-neg_ℤ x

least-neg : (x y : ℤ) → int_min (neg_ℤ x) (neg_ℤ y) ≡ neg_ℤ (int_max x y)
least-neg x y = here (int_lt (neg_ℤ y) (neg_ℤ x)) (int_lt y x) refl refl
  where
    here : (b c : Bool) → int_lt (neg_ℤ y) (neg_ℤ x) ≡ b → int_lt y x ≡ c → cond b (neg_ℤ y) (neg_ℤ x) ≡ neg_ℤ (cond c x y)
    here true true e f = absurd (omega (arith, ints))
    here true false e f = refl
    here false true e f = refl
    here false false e f = let same : x ≡ y = omega (arith, ints) in ap neg_ℤ same

fold-neg : (x : ℤ) (xs : List ℤ) → fold int_min (neg_ℤ x) (map neg_ℤ xs) ≡ neg_ℤ (fold int_max x xs)
fold-neg x [] = refl
fold-neg x (y ∷ ys) = ap (λ m. fold int_min m (map neg_ℤ ys)) (least-neg x y) ∙ fold-neg (int_max x y) ys

fold-within : (x : ℤ) (xs : List ℤ) → unsigned_abs x ≤ LIMIT → All (λ y. unsigned_abs y ≤ LIMIT) xs → unsigned_abs (fold int_max x xs) ≤ LIMIT
fold-within x [] h all = h
fold-within x (y ∷ ys) h all = fold-within (int_max x y) ys (here (int_lt y x) h (all 0 y (omega arith))) (λ k d l. all (suc k) d (omega arith))
  where
    here : (b : Bool) → unsigned_abs x ≤ LIMIT → unsigned_abs y ≤ LIMIT → unsigned_abs (cond b x y) ≤ LIMIT
    here true p q = p
    here false p q = q

-- the negatives of cells are missing where the cells are
kept : (x : ℤ) → IsCell x → (xs ys : List ℤ) → ys ≡ map neg_ℤ xs → cond (is_present (neg x)) (neg x ∷ ys) ys ≡ map neg_ℤ (cond (is_present x) (x ∷ xs) xs)
unfolding neg
kept x (inl e) xs ys same = rw e same
kept x (inr h) xs ys same = rw (neg-is x (missing-far x h), neg-present x h, missing-far x h) (ap (λ l. neg_ℤ x ∷ l) same)

present-neg : (xs : List ℤ) → All IsCell xs → present_values (map neg xs) ≡ map neg_ℤ (present_values xs)
present-neg [] h = refl
present-neg (x ∷ xs) h = kept x (h 0 x (omega arith)) (present_values xs) (present_values (map neg xs)) (present-neg xs (λ k d l. h (suc k) d (omega arith)))

turned : (xs : List ℤ) → All (λ x. unsigned_abs x ≤ LIMIT) xs → unwrap_or (reduce int_max xs) MISSING ≡ neg (unwrap_or (reduce int_min (map neg_ℤ xs)) MISSING)
unfolding neg
turned [] h = refl
turned (x ∷ xs) h =
    sym (neg-neg (fold int_max x xs) (fold-within x xs (h 0 x (omega arith)) (λ k d l. h (suc k) d (omega arith)))) ∙ ap neg (sym (fold-neg x xs))

pub greatest-least : (xs ys zs : List ℤ) → All IsCell xs → formula window.WindowMax xs ys zs ≡ neg (formula window.WindowMin (map neg xs) ys zs)
unfolding formula
greatest-least xs ys zs h =
    turned (present_values xs) (λ k d l. present-within _ (All-filter is_present IsCell xs h k d l) (filter_passes is_present xs k d l))
    ∙ ap (λ l. neg (unwrap_or (reduce int_min l) MISSING)) (sym (present-neg xs h))
