-- Sums of at most 1,260 cells, products or differences are small, and what is computed of them is exact.
use Rattle.std.proofs.Common.{◌≡◌, ◌≤◌, ◌<◌, ◌+◌, ◌-◌, ◌*◌, ℕ, zero, suc, ℤ, pos, ◌-ℤ◌, List, length, get_or, Bool, true, false, inr, unsigned_abs, refl, arith}
use Rattle.std.specs.List.{All}
use Rattle.std.proofs.lemmas.Int.{ints}
use Rattle.std.proofs.lemmas.Nat.{mul-le}
use Rattle.std.proofs.lemmas.List.{length-take}
use Rattle.std.proofs.lemmas.List.Elements.{All-take}
use Rattle.pl_spec.specs.Limits.{most_window}
use Rattle.pl_spec.specs.Rounding.{LIMIT, IsCell, is_missing}
use Rattle.pl_spec.specs.Cells.{present_values, total}
use Rattle.pl_pipeline.specs.Formula.{products, places, differences}
use Rattle.pl_lanes.proofs.Bits.{at-cell}
use Rattle.pl_lanes.proofs.Cells.{total-few, few-present, is_within}
use Rattle.pl_factors.specs.Terms.{product, gain, swing, total_swings}
use Rattle.pl_factors.proofs.Casts.{product-wide, above-zero-small, apart}
use Rattle.pl_factors.proofs.Totals.{sum_terms}
use Rattle.pl_factors.proofs.Products.{product-sum, placed-sum, swings-sum}
use Rattle.pl_factors.specs.Spans.{before}
use Rattle.pl_factors.specs.Laws.{moved}

pub moved-is : (s t l m e f : ℤ) → s ≡ t → l ≡ m → e ≡ f → moved s l e ≡ moved t m f
moved-is s t l m e f p q r = rw (p, q, r) refl

-- ---- the cells of a list

pub before-cells : (xs : List ℤ) → All IsCell xs → All IsCell (before xs)
before-cells xs cells = All-take IsCell (length xs - 1) xs cells

pub before-few : (xs : List ℤ) → length xs ≤ most_window + 1 → length (before xs) ≤ most_window
before-few xs few = omega (arith, length-take (length xs - 1) xs)

-- ---- terms

pub terms-within : (f : ℕ → ℤ) (limit n : ℕ) → ((i : ℕ) → i < n → unsigned_abs (f i) ≤ limit) → unsigned_abs (sum_terms f n) ≤ n * limit
unfolding sum_terms
terms-within f limit zero h = omega arith
terms-within f limit (suc n) h = omega (arith, ints, h n (omega arith), terms-within f limit n (λ i l. h i (omega arith)))

most : (n m limit : ℕ) → n ≤ m → n * limit ≤ m * limit
most n m limit h = mul-le n limit m limit h (omega arith)

product-small : (x y : ℤ) (b c : Bool) → is_missing x ≡ b → is_missing y ≡ c → IsCell x → IsCell y → unsigned_abs (product x y) ≤ LIMIT * LIMIT
unfolding product
product-small x y true c e f p q = rw e (omega arith)
product-small x y false true e f p q = rw (e, f) (omega arith)
product-small x y false false e f p q = rw (e, f) (product-wide x y (is_within x p e) (is_within y q f)).0

gain-small : (x y : ℤ) (b c : Bool) → is_missing x ≡ b → is_missing y ≡ c → IsCell x → IsCell y → unsigned_abs (gain x y) ≤ 2 * LIMIT
unfolding gain
gain-small x y true c e f p q = rw e (omega arith)
gain-small x y false true e f p q = rw (e, f) (omega arith)
gain-small x y false false e f p q = rw (e, f) (above-zero-small (y -ℤ x) (2 * LIMIT) (apart x y (is_within x p e) (is_within y q f)))

swing-small : (falls : Bool) (x y : ℤ) → IsCell x → IsCell y → unsigned_abs (swing falls x y) ≤ 2 * LIMIT
swing-small true x y p q = gain-small y x _ _ refl refl q p
swing-small false x y p q = gain-small x y _ _ refl refl p q

-- ---- totals

pub sum-within : (xs : List ℤ) → All IsCell xs → length xs ≤ most_window → unsigned_abs (total (present_values xs)) ≤ most_window * LIMIT
sum-within xs cells few = omega (arith, total-few xs cells, few-present xs)

pub products-within : (xs ys : List ℤ) → All IsCell xs → All IsCell ys → length ys ≡ length xs → length xs ≤ most_window → unsigned_abs (total (products xs ys)) ≤ most_window * (LIMIT * LIMIT)
products-within xs ys cells others long few =
    let w = terms-within (λ i. product (get_or xs i (pos 0)) (get_or ys i (pos 0))) (LIMIT * LIMIT) (length xs)
    (λ i h. product-small _ _ _ _ refl refl (at-cell xs i cells) (at-cell ys i others)) in
    rw (product-sum xs ys long) (omega (arith, w, most (length xs) most_window (LIMIT * LIMIT) few))

pub placed-within : (xs : List ℤ) → All IsCell xs → length xs ≤ most_window → unsigned_abs (total (products (places xs) xs)) ≤ most_window * (LIMIT * LIMIT)
placed-within xs cells few =
    let w = terms-within (λ i. product (pos (i + 1)) (get_or xs i (pos 0))) (LIMIT * LIMIT) (length xs)
    (λ i h. product-small _ _ _ _ refl refl (inr (omega arith)) (at-cell xs i cells)) in
    rw (placed-sum xs) (omega (arith, w, most (length xs) most_window (LIMIT * LIMIT) few))

pub swings-within : (falls : Bool) (xs : List ℤ) → All IsCell xs → length xs ≤ most_window → unsigned_abs (total_swings falls (differences xs)) ≤ most_window * (2 * LIMIT)
swings-within falls xs cells few =
    let w = terms-within (λ i. swing falls (get_or xs i (pos 0)) (get_or xs (i + 1) (pos 0))) (2 * LIMIT) (length xs - 1)
    (λ i h. swing-small falls _ _ (at-cell xs i cells) (at-cell xs (i + 1) cells)) in
    rw (swings-sum falls xs) (omega (arith, w, most (length xs - 1) most_window (2 * LIMIT) (omega arith)))
