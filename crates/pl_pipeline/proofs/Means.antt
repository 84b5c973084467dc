-- The rounded mean lies between the least value and the greatest.
use Rattle.std.proofs.Common.{◌≡◌, ℕ, suc, ◌+◌, ◌*◌, ◌<◌, ◌≤◌, ℤ, pos, ◌+ℤ◌, ◌*ℤ◌, neg_ℤ, ◌≤ℤ◌, List, [], ◌∷◌, length, fold, unwrap_or, refl, arith}
use Rattle.std.specs.List.{All, reduce}
use Rattle.std.specs.Int.{int_max, int_min}
use Rattle.std.specs.Int.RustNames.{unsigned_abs}
use Rattle.std.proofs.lemmas.Int.{ints, by_lt_z, fold-int_max_bounds, fold-int_min_bounds}
use Rattle.std.proofs.lemmas.List.Elements.{All-filter, filter_passes, All-cons}
use Rattle.std.proofs.lemmas.Nat.{mul-le}
use borrow.Author.Differences.{up, down}
use Rattle.pl_spec.specs.Rounding.{IsNearest, div_round, MISSING, LIMIT, IsCell, is_present, quot}
use Rattle.pl_spec.specs.Cells.{present_values, total, count, least, greatest}
use Rattle.pl_pipeline.specs.Formula.{mean}
use Rattle.pl_spec.proofs.Nearest.{div_round-is_nearest}
use Rattle.pl_spec.proofs.Within.{to_cell-within, present-within}

-- ---- a rounded quotient is no lower than a whole number below it, and no higher than one above it

nearest-from : (l t : ℤ) (n : ℕ) (q : ℤ) → 0 < n → IsNearest t n q → (l *ℤ pos n) ≤ℤ t → l ≤ℤ q
nearest-from l t n q h f le = by_lt_z q l
    (λ lt.
    let apart : up q + down l + 1 ≤ up l + down q = omega (arith, ints) in
    let times : (up q + down l + 1) * n ≤ (up l + down q) * n = mul-le (up q + down l + 1) n (up l + down q) n apart (omega arith) in
    let near = f.near in
    absurd (omega (arith, ints)))
    (λ ge. ge)

nearest-to : (g t : ℤ) (n : ℕ) (q : ℤ) → 0 < n → IsNearest t n q → t ≤ℤ (g *ℤ pos n) → q ≤ℤ g
nearest-to g t n q h f le = by_lt_z g q
    (λ lt.
    let apart : up g + down q + 1 ≤ up q + down g = omega (arith, ints) in
    let times : (up g + down q + 1) * n ≤ (up q + down g) * n = mul-le (up g + down q + 1) n (up q + down g) n apart (omega arith) in
    let near = f.near in
    absurd (omega (arith, ints)))
    (λ ge. ge)

-- ---- a total of values that lie between two numbers

total-from : (l s : ℤ) (xs : List ℤ) → All (λ x. l ≤ℤ x) xs → (s +ℤ (l *ℤ pos (length xs))) ≤ℤ fold (λ s x. s +ℤ x) s xs
total-from l s [] h = omega (arith, ints)
total-from l s (x ∷ xs) h =
    let here : l ≤ℤ x = h 0 x (omega arith) in
    let rest = total-from l (s +ℤ x) xs (λ k d i. h (suc k) d (omega arith)) in
    omega (arith, ints)

total-to : (g s : ℤ) (xs : List ℤ) → All (λ x. x ≤ℤ g) xs → fold (λ s x. s +ℤ x) s xs ≤ℤ (s +ℤ (g *ℤ pos (length xs)))
total-to g s [] h = omega (arith, ints)
total-to g s (x ∷ xs) h =
    let here : x ≤ℤ g = h 0 x (omega arith) in
    let rest = total-to g (s +ℤ x) xs (λ k d i. h (suc k) d (omega arith)) in
    omega (arith, ints)

rounded-from : (l y : ℤ) (ys : List ℤ) → All (λ x. l ≤ℤ x) (y ∷ ys) → l ≤ℤ div_round (total (y ∷ ys)) (suc (length ys))
rounded-from l y ys h =
    let low = total-from l (pos 0) (y ∷ ys) h in
    let low' : (l *ℤ pos (suc (length ys))) ≤ℤ total (y ∷ ys) = omega (arith, ints) in
    nearest-from l (total (y ∷ ys)) (suc (length ys)) (div_round (total (y ∷ ys)) (suc (length ys))) (omega arith) (div_round-is_nearest (total (y ∷ ys)) (suc (length ys)) (omega arith)) low'

rounded-to : (g y : ℤ) (ys : List ℤ) → All (λ x. x ≤ℤ g) (y ∷ ys) → div_round (total (y ∷ ys)) (suc (length ys)) ≤ℤ g
rounded-to g y ys h =
    let high = total-to g (pos 0) (y ∷ ys) h in
    let high' : total (y ∷ ys) ≤ℤ (g *ℤ pos (suc (length ys))) = omega (arith, ints) in
    nearest-to g (total (y ∷ ys)) (suc (length ys)) (div_round (total (y ∷ ys)) (suc (length ys))) (omega arith) (div_round-is_nearest (total (y ∷ ys)) (suc (length ys)) (omega arith)) high'

-- ---- the mean of the present values is cut by no limit

above_limit : (x : ℤ) → unsigned_abs x ≤ LIMIT → (neg_ℤ (pos LIMIT) ≤ℤ x) × (x ≤ℤ pos LIMIT)
above_limit x h = (omega (arith, ints), omega (arith, ints))

inside_limit : (x : ℤ) → neg_ℤ (pos LIMIT) ≤ℤ x → x ≤ℤ pos LIMIT → unsigned_abs x ≤ LIMIT
inside_limit x l h = omega (arith, ints)

mean_of : List ℤ → ℤ
mean_of ps = quot (total ps) (pos (length ps))

mean_of-is : (y : ℤ) (ys : List ℤ) → All (λ x. unsigned_abs x ≤ LIMIT) (y ∷ ys) → mean_of (y ∷ ys) ≡ div_round (total (y ∷ ys)) (suc (length ys))
unfolding mean_of quot
mean_of-is y ys h = to_cell-within (div_round (total (y ∷ ys)) (suc (length ys)))
    (inside_limit (div_round (total (y ∷ ys)) (suc (length ys)))
    (rounded-from (neg_ℤ (pos LIMIT)) y ys (λ k d i. (above_limit _ (h k d i)).0))
    (rounded-to (pos LIMIT) y ys (λ k d i. (above_limit _ (h k d i)).1)))

between : (ps : List ℤ) → All (λ x. unsigned_abs x ≤ LIMIT) ps → 0 < length ps → (unwrap_or (reduce int_min ps) MISSING ≤ℤ mean_of ps) × (mean_of ps ≤ℤ unwrap_or (reduce int_max ps) MISSING)
between [] h some = absurd (omega arith)
between (y ∷ ys) h some =
    let low = fold-int_min_bounds y ys (fold int_min y ys) refl in
    let high = fold-int_max_bounds y ys (fold int_max y ys) refl in
    rw (mean_of-is y ys h) (
      rounded-from (fold int_min y ys) y ys (All-cons (λ x. fold int_min y ys ≤ℤ x) y ys low.0 low.1),
      rounded-to (fold int_max y ys) y ys (All-cons (λ x. x ≤ℤ fold int_max y ys) y ys high.0 high.1),
    )

pub mean-between : (xs : List ℤ) → All IsCell xs → 0 < count xs → (least xs ≤ℤ mean xs) × (mean xs ≤ℤ greatest xs)
unfolding mean_of
mean-between xs cells some =
    between (present_values xs) (λ k d h. present-within _ (All-filter is_present IsCell xs cells k d h) (filter_passes is_present xs k d h)) some
