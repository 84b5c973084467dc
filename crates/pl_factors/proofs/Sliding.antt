-- How sums move with a window.
use Rattle.std.proofs.Common.{◌≡◌, ◌≤◌, ◌<◌, ◌+◌, ◌-◌, ℕ, zero, suc, ℤ, pos, ◌+ℤ◌, ◌*ℤ◌, List, [], ◌∷◌, ◌++◌, length, take, get_or, Bool, true, false, refl, ap, ap₂, arith, sym, ◌∙◌, length-append}
use Rattle.std.proofs.lemmas.Int.{ints}
use Rattle.std.proofs.lemmas.List.Elements.{filter-append}
use Rattle.std.proofs.lemmas.List.{get_or-take, length-take, length-drop}
use Rattle.pl_spec.specs.Rounding.{is_missing, is_present}
use Rattle.pl_spec.specs.Cells.{present_values, total, count}
use Rattle.pl_pipeline.specs.Formula.{products, places, differences}
use Rattle.pl_lanes.proofs.Cells.{total-cons}
use Rattle.pl_factors.specs.Terms.{product, swing, total_swings}
use Rattle.pl_factors.proofs.Totals.{sum_terms, terms-first, terms-same}
use Rattle.pl_factors.proofs.Products.{product-sum, placed-sum, swings-sum}
use Rattle.pl_factors.specs.Spans.{before, after, first, last, part, presence}
use Rattle.pl_factors.specs.Laws.{moved, SumSlides, CountSlides, ProductsSlide, PlacedSlides}

-- ---- terms

pub terms-slide : (f : ℕ → ℤ) (n : ℕ) → sum_terms (λ i. f (suc i)) n ≡ moved (sum_terms f n) (f 0) (f n)
unfolding sum_terms
terms-slide f n = omega (arith, ints, terms-first f n)

place-step : (n : ℕ) (x : ℤ) → pos (n + 1) *ℤ x ≡ (pos n *ℤ x) +ℤ x
place-step n x = omega (arith, ints)

-- each term comes one place nearer to the first
pub places-slide : (f : ℕ → ℤ) (n : ℕ) → sum_terms (λ i. pos (i + 1) *ℤ f (suc i)) n ≡ moved (sum_terms (λ i. pos (i + 1) *ℤ f i) n) (sum_terms f n) (pos n *ℤ f n)
unfolding sum_terms
places-slide f zero = omega (arith, ints)
places-slide f (suc n) =
    let e : pos (suc n) *ℤ f (suc n) ≡ pos (n + 1) *ℤ f (suc n) = ap (λ k. pos k *ℤ f (suc n)) (let one : suc n ≡ n + 1 = omega arith in one) in
    omega (arith, ints, places-slide f n, place-step n (f n), e)

-- ---- the two windows of a span

pub length-before : (xs : List ℤ) → length (before xs) ≡ length xs - 1
length-before xs = omega (arith, length-take (length xs - 1) xs)

before-at : (xs : List ℤ) (i : ℕ) → i < length xs - 1 → get_or (before xs) i (pos 0) ≡ get_or xs i (pos 0)
before-at xs i h = get_or-take (length xs - 1) xs i (pos 0) h

after-at : (xs : List ℤ) (i : ℕ) → get_or (after xs) i (pos 0) ≡ get_or xs (suc i) (pos 0)
after-at [] i = refl
after-at (x ∷ xs) i = refl

-- a list is all but its last cell, and that
pub whole : (x : ℤ) (xs : List ℤ) → take (length xs) (x ∷ xs) ++ get_or (x ∷ xs) (length xs) (pos 0) ∷ [] ≡ x ∷ xs
whole x [] = refl
whole x (y ∷ ys) = ap (λ l. x ∷ l) (whole y ys)

-- ---- sums of cells

part-next : (x : ℤ) (xs : List ℤ) (b : Bool) → is_missing x ≡ b → total (present_values (x ∷ xs)) ≡ part x +ℤ total (present_values xs)
unfolding part
part-next x xs true e = rw e (omega (arith, ints))
part-next x xs false e = rw e (total-cons x (present_values xs))

pub parts-sum : (xs : List ℤ) → total (present_values xs) ≡ sum_terms (λ i. part (get_or xs i (pos 0))) (length xs)
unfolding sum_terms
parts-sum [] = refl
parts-sum (x ∷ xs) = part-next x xs (is_missing x) refl ∙ ap (λ t. part x +ℤ t) (parts-sum xs) ∙ sym (terms-first (λ i. part (get_or (x ∷ xs) i (pos 0))) (length xs))

-- a total that is a sum of terms, one for each place
module _ (T : List ℤ → ℤ) (f : ℤ → ℤ) (is : (xs : List ℤ) → T xs ≡ sum_terms (λ i. f (get_or xs i (pos 0))) (length xs)) where
  pub cells-slide : (xs : List ℤ) → T (after xs) ≡ moved (T (before xs)) (f (first xs)) (f (last xs))
  cells-slide xs =
      let n = length xs - 1 in
      let old : T (before xs) ≡ sum_terms (λ i. f (get_or xs i (pos 0))) n
      = is (before xs) ∙ ap (sum_terms (λ i. f (get_or (before xs) i (pos 0)))) (length-before xs) ∙ terms-same _ _ n (λ i h. ap f (before-at xs i h)) in
      let new : T (after xs) ≡ sum_terms (λ i. f (get_or xs (suc i) (pos 0))) n
      = is (after xs) ∙ ap (sum_terms (λ i. f (get_or (after xs) i (pos 0)))) (length-drop 1 xs) ∙ terms-same _ _ n (λ i h. ap f (after-at xs i)) in
      new ∙ terms-slide (λ i. f (get_or xs i (pos 0))) n ∙ ap (λ t. moved t (f (first xs)) (f (last xs))) (sym old)

pub sum-slides : SumSlides
sum-slides xs some = cells-slide (λ l. total (present_values l)) part parts-sum xs

count-of_one : (y : ℤ) (b : Bool) → is_missing y ≡ b → count (y ∷ []) ≡ presence y
unfolding presence
count-of_one y true e = rw e refl
count-of_one y false e = rw e refl

count-last : (ys : List ℤ) (y : ℤ) → count (ys ++ y ∷ []) ≡ count ys + presence y
count-last ys y = ap length (filter-append is_present ys (y ∷ [])) ∙ length-append (present_values ys) (present_values (y ∷ [])) ∙ ap (λ n. count ys + n) (count-of_one y (is_missing y) refl)

count-first : (x : ℤ) (xs : List ℤ) (b : Bool) → is_missing x ≡ b → count (x ∷ xs) ≡ presence x + count xs
unfolding presence
count-first x xs true e = rw e (omega arith)
count-first x xs false e = rw e (omega arith)

pub count-slides : CountSlides
count-slides [] some = absurd (omega arith)
count-slides (x ∷ xs) some =
    let n = length xs in
    let e : suc n - 1 ≡ n = omega arith in
    let front = count-last (take n (x ∷ xs)) (get_or (x ∷ xs) n (pos 0)) in
    rw e (omega (arith, front, ap count (whole x xs), count-first x xs _ refl))

pub products-slide : ProductsSlide
products-slide xs ys some long =
    let n = length xs - 1 in
    let f : ℕ → ℤ = λ i. product (get_or xs i (pos 0)) (get_or ys i (pos 0)) in
    let m : length ys - 1 ≡ n = omega arith in
    let old_long : length (before ys) ≡ length (before xs) = omega (arith, length-before xs, length-before ys) in
    let new_long : length (after ys) ≡ length (after xs) = omega (arith, length-drop 1 xs, length-drop 1 ys) in
    let old : total (products (before xs) (before ys)) ≡ sum_terms f n
    = product-sum (before xs) (before ys) old_long ∙ ap (sum_terms (λ i. product (get_or (before xs) i (pos 0)) (get_or (before ys) i (pos 0)))) (length-before xs)
    ∙ terms-same _ _ n (λ i h. ap₂ product (before-at xs i h) (before-at ys i (omega arith))) in
    let new : total (products (after xs) (after ys)) ≡ sum_terms (λ i. f (suc i)) n
    = product-sum (after xs) (after ys) new_long ∙ ap (sum_terms (λ i. product (get_or (after xs) i (pos 0)) (get_or (after ys) i (pos 0)))) (length-drop 1 xs)
    ∙ terms-same _ _ n (λ i h. ap₂ product (after-at xs i) (after-at ys i)) in
    let enters : f n ≡ product (last xs) (last ys) = ap (λ k. product (last xs) (get_or ys k (pos 0))) (sym m) in
    new ∙ terms-slide f n ∙ ap₂ (λ t u. moved t (f 0) u) (sym old) enters

product-placed : (k : ℕ) (x : ℤ) (b : Bool) → is_missing x ≡ b → product (pos k) x ≡ pos k *ℤ part x
unfolding product part
product-placed k x true e = rw e (omega (arith, ints))
product-placed k x false e = rw e refl

pub placed-slides : PlacedSlides
placed-slides xs some =
    let n = length xs - 1 in
    let f : ℕ → ℤ = λ i. part (get_or xs i (pos 0)) in
    let old : total (products (places (before xs)) (before xs)) ≡ sum_terms (λ i. pos (i + 1) *ℤ f i) n
    = placed-sum (before xs) ∙ ap (sum_terms (λ i. product (pos (i + 1)) (get_or (before xs) i (pos 0)))) (length-before xs)
    ∙ terms-same _ _ n (λ i h. ap (product (pos (i + 1))) (before-at xs i h) ∙ product-placed (i + 1) _ _ refl) in
    let new : total (products (places (after xs)) (after xs)) ≡ sum_terms (λ i. pos (i + 1) *ℤ f (suc i)) n
    = placed-sum (after xs) ∙ ap (sum_terms (λ i. product (pos (i + 1)) (get_or (after xs) i (pos 0)))) (length-drop 1 xs)
    ∙ terms-same _ _ n (λ i h. ap (product (pos (i + 1))) (after-at xs i) ∙ product-placed (i + 1) _ _ refl) in
    let sum : total (present_values (before xs)) ≡ sum_terms f n
    = parts-sum (before xs) ∙ ap (sum_terms (λ i. part (get_or (before xs) i (pos 0)))) (length-before xs) ∙ terms-same _ _ n (λ i h. ap part (before-at xs i h)) in
    let here = places-slide f n in
    let enters : product (pos n) (last xs) ≡ pos n *ℤ f n = product-placed n (last xs) _ refl in
    omega (arith, ints, old, new, sum, here, enters)

-- ---- gains and losses of neighbours

module _ (T : List ℤ → ℤ) (f : ℤ → ℤ → ℤ) (is : (xs : List ℤ) → T xs ≡ sum_terms (λ i. f (get_or xs i (pos 0)) (get_or xs (i + 1) (pos 0))) (length xs - 1)) where
  neighbours-slide : (xs : List ℤ) → 2 ≤ length xs
      → T (after xs) ≡ moved (T (before xs)) (f (first xs) (get_or xs 1 (pos 0))) (f (get_or xs (length xs - 2) (pos 0)) (last xs))
  neighbours-slide xs some =
      let n = length xs - 2 in
      let g : ℕ → ℤ = λ i. f (get_or xs i (pos 0)) (get_or xs (i + 1) (pos 0)) in
      let old_long : length (before xs) - 1 ≡ n = omega (arith, length-before xs) in
      let new_long : length (after xs) - 1 ≡ n = omega (arith, length-drop 1 xs) in
      let old : T (before xs) ≡ sum_terms g n
      = is (before xs) ∙ ap (sum_terms (λ i. f (get_or (before xs) i (pos 0)) (get_or (before xs) (i + 1) (pos 0)))) old_long
      ∙ terms-same _ _ n (λ i h. ap₂ f (before-at xs i (omega arith)) (before-at xs (i + 1) (omega arith))) in
      let new : T (after xs) ≡ sum_terms (λ i. g (suc i)) n
      = is (after xs) ∙ ap (sum_terms (λ i. f (get_or (after xs) i (pos 0)) (get_or (after xs) (i + 1) (pos 0)))) new_long
      ∙ terms-same _ _ n (λ i h. ap₂ f (after-at xs i) (after-at xs (i + 1) ∙ ap (λ k. get_or xs k (pos 0)) (let e : suc (i + 1) ≡ suc i + 1 = omega arith in e))) in
      let end : n + 1 ≡ length xs - 1 = omega arith in
      let enters : g n ≡ f (get_or xs n (pos 0)) (last xs) = ap (λ k. f (get_or xs n (pos 0)) (get_or xs k (pos 0))) end in
      new ∙ terms-slide g n ∙ ap₂ (λ t u. moved t (g 0) u) (sym old) enters

pub swings-slide : (falls : Bool) (xs : List ℤ) → 2 ≤ length xs
    → total_swings falls (differences (after xs))
    ≡ moved (total_swings falls (differences (before xs))) (swing falls (first xs) (get_or xs 1 (pos 0))) (swing falls (get_or xs (length xs - 2) (pos 0)) (last xs))
swings-slide falls xs some = neighbours-slide (λ l. total_swings falls (differences l)) (swing falls) (swings-sum falls) xs some
