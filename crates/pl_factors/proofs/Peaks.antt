-- The greatest and the least cell of a window that loses its first cell and gains a last one.
use Rattle.std.proofs.Common.{◌≡◌, ◌≢◌, ◌≤◌, ◌<◌, ◌+◌, ◌-◌, ◌%◌, ◌^◌, ℕ, suc, ℤ, pos, ◌+ℤ◌, ◌-ℤ◌, List, [], ◌∷◌, ◌++◌, length, map, take, get_or, max, Bool, true, false, cond, ◌⊎◌, inl, inr, unsigned_abs, FitsSigned, w64, to_z, of_z, refl, ap, arith, sym, subst, ◌∙◌}
use Rattle.std.specs.List.{All}
use Rattle.std.specs.Int.{w128, int_max}
use Rattle.std.specs.Int.RustNames.{int_lt}
use Rattle.std.proofs.lemmas.Int.{ints, to_z-of_z}
use Rattle.std.proofs.lemmas.List.Elements.{All-take, All-tail}
use Rattle.pl_spec.specs.Rounding.{MISSING, LIMIT, IsCell, is_missing}
use Rattle.pl_lanes.specs.Heights.{height, depth, peak, rank, best_of}
use Rattle.pl_lanes.proofs.Bits.{at-cell, cell-fits}
use Rattle.pl_lanes.proofs.Cells.{is_within, is_gone, missing-is}
use Rattle.pl_lanes.proofs.Heights.{height-missing, height-there, depth-missing, depth-there, best-rank, from-height, from-depth}
use Rattle.pl_factors.specs.Kept.{Kept}
use Rattle.pl_factors.specs.Spans.{before, after, first, last}
use Rattle.pl_factors.specs.Laws.{least_of, better}
use Rattle.pl_factors.proofs.Sliding.{whole}
use Rattle.pl_factors.proofs.Exact.{same}

-- ---- heights tell cells apart and order them

height-same : (x y : ℤ) → IsCell x → IsCell y → height x ≡ height y → x ≡ y
height-same x y p q e =
    sym (from-height x (cell-fits x p)) ∙ ap (λ h. to_z w64 ((h + 2 ^ 63) % 2 ^ 64)) e ∙ from-height y (cell-fits y q)

depth-same : (x y : ℤ) → IsCell x → IsCell y → depth x ≡ depth y → x ≡ y
depth-same x y p q e =
    sym (from-depth x (cell-fits x p)) ∙ ap (λ h. to_z w64 (((0 + (2 ^ 64 - h)) % 2 ^ 64 + 2 ^ 63) % 2 ^ 64)) e ∙ from-depth y (cell-fits y q)

-- a cell by its height: MISSING is the lowest
height-of : (x : ℤ) → IsCell x → pos (height x) ≡ x +ℤ pos (2 ^ 63)
height-of x (inl e) = rw (e, height-missing) refl
height-of x (inr h) = height-there x h

highest : (x y : ℤ) → IsCell x → IsCell y → height (int_max x y) ≡ max (height x) (height y)
highest x y p q = here (int_lt y x) refl (height-of x p) (height-of y q)
  where
    here : (b : Bool) → int_lt y x ≡ b → pos (height x) ≡ x +ℤ pos (2 ^ 63) → pos (height y) ≡ y +ℤ pos (2 ^ 63) → height (cond b x y) ≡ max (height x) (height y)
    here true e p q = omega (arith, ints)
    here false e p q = omega (arith, ints)

pub rank-same : (low : Bool) (x y : ℤ) → IsCell x → IsCell y → rank low x ≡ rank low y → x ≡ y
unfolding rank
rank-same true = depth-same
rank-same false = height-same

pub rank-missing : (low : Bool) → rank low MISSING ≡ 0
unfolding rank
rank-missing true = depth-missing
rank-missing false = height-missing

-- ---- the two windows of a span share all but one cell each

module _ (f : ℤ → ℕ) (best : List ℤ → ℤ) (is : (xs : List ℤ) → All IsCell xs → (f (best xs) ≡ peak (map f xs)) × IsCell (best xs)) where
  -- what the best of the first window says of that of the second, where the cell that leaves is not the best
  pub best-slides : (x m : ℤ) (ms : List ℤ) → All IsCell (x ∷ m ∷ ms)
      → (f x ≢ f (best (before (x ∷ m ∷ ms)))) ⊎ (f (best (before (x ∷ m ∷ ms))) ≡ 0)
      → f (best (m ∷ ms)) ≡ max (f (best (before (x ∷ m ∷ ms)))) (f (last (x ∷ m ∷ ms)))
  best-slides x m ms cells leaves =
      let n : length (x ∷ m ∷ ms) - 1 ≡ suc (length ms) = omega arith in
      let front = take (length ms) (m ∷ ms) in
      let y = get_or (m ∷ ms) (length ms) (pos 0) in
      let old : before (x ∷ m ∷ ms) ≡ x ∷ front = ap (λ k. take k (x ∷ m ∷ ms)) n in
      let end : last (x ∷ m ∷ ms) ≡ y = ap (λ k. get_or (x ∷ m ∷ ms) k (pos 0)) n in
      let joined : front ++ y ∷ [] ≡ m ∷ ms = whole m ms in
      let g : f (best (x ∷ front)) ≡ max (f x) (peak (map f front)) = (is (x ∷ front) (subst (All IsCell) old (All-take IsCell (length (x ∷ m ∷ ms) - 1) (x ∷ m ∷ ms) cells))).0 in
      let new : f (best (m ∷ ms)) ≡ peak (map f (front ++ y ∷ [])) = (is (m ∷ ms) (All-tail IsCell x (m ∷ ms) cells)).0 ∙ ap (λ l. peak (map f l)) (sym joined) in
      let split : peak (map f (front ++ y ∷ [])) ≡ max (peak (map f front)) (f y) = last-peak front y in
      rw (old, end) (new ∙ split ∙ ap (λ h. max h (f y)) (front-peak (f x) (peak (map f front)) (f (best (x ∷ front))) g (rw old at leaves)))
    where
      last-peak : (l : List ℤ) (y : ℤ) → peak (map f (l ++ y ∷ [])) ≡ max (peak (map f l)) (f y)
      last-peak [] y = omega arith
      last-peak (z ∷ l) y = omega (arith, last-peak l y)

      front-peak : (h p g : ℕ) → g ≡ max h p → (h ≢ g) ⊎ (g ≡ 0) → p ≡ g
      front-peak h p g e (inl unlike) = grind arith
      front-peak h p g e (inr gone) = omega arith

lowest : (x y : ℤ) → IsCell x → IsCell y → depth (least_of x y) ≡ max (depth x) (depth y)
lowest x y p q = here (is_missing x) (is_missing y) refl refl
  where
    apart : (b : Bool) → int_lt y x ≡ b → pos (depth x) ≡ pos (2 ^ 63) -ℤ x → pos (depth y) ≡ pos (2 ^ 63) -ℤ y → depth (cond b y x) ≡ max (depth x) (depth y)
    apart true e p q = omega (arith, ints)
    apart false e p q = omega (arith, ints)

    here : (b c : Bool) → is_missing x ≡ b → is_missing y ≡ c → depth (least_of x y) ≡ max (depth x) (depth y)
    here true c e f = let z : depth x ≡ 0 = ap depth (missing-is x e) ∙ depth-missing in rw e (omega (arith, z))
    here false true e f = let z : depth y ≡ 0 = ap depth (missing-is y f) ∙ depth-missing in rw (e, f) (omega (arith, z))
    here false false e f = rw (e, f) (apart (int_lt y x) refl (depth-there x (is_within x p e)) (depth-there y (is_within y q f)))

max-cell : (x y : ℤ) → IsCell x → IsCell y → IsCell (int_max x y)
max-cell x y p q = here (int_lt y x)
  where
    here : (b : Bool) → IsCell (cond b x y)
    here true = p
    here false = q

least_of-cell : (x y : ℤ) → IsCell x → IsCell y → IsCell (least_of x y)
least_of-cell x y p q = here (is_missing x) (is_missing y) (int_lt y x)
  where
    here : (a b c : Bool) → IsCell (cond a y (cond b x (cond c y x)))
    here true b c = q
    here false true c = p
    here false false true = q
    here false false false = p

better-cell : (low : Bool) (x y : ℤ) → IsCell x → IsCell y → IsCell (better low x y)
better-cell true = least_of-cell
better-cell false = max-cell

better-rank : (low : Bool) (x y : ℤ) → IsCell x → IsCell y → rank low (better low x y) ≡ max (rank low x) (rank low y)
unfolding rank
better-rank true = lowest
better-rank false = highest

pub best-cell : (low : Bool) (xs : List ℤ) → All IsCell xs → IsCell (best_of low xs)
best-cell low xs cells = (best-rank low xs cells).1

pub best-moves : (low : Bool) (xs : List ℤ) → All IsCell xs → 2 ≤ length xs → (first xs ≢ best_of low (before xs)) ⊎ (best_of low (before xs) ≡ MISSING)
    → best_of low (after xs) ≡ better low (best_of low (before xs)) (last xs)
best-moves low [] cells some leaves = absurd (omega arith)
best-moves low (x ∷ []) cells some leaves = absurd (omega arith)
best-moves low (x ∷ m ∷ ms) cells some leaves =
    let xs = x ∷ m ∷ ms in
    let g = best_of low (before xs) in
    let old = best-cell low (before xs) (All-take IsCell (length xs - 1) xs cells) in
    let new = best-cell low (m ∷ ms) (All-tail IsCell x (m ∷ ms) cells) in
    let y = at-cell xs (length xs - 1) cells in
    let told : (rank low x ≢ rank low g) ⊎ (rank low g ≡ 0) = tell leaves (cells 0 x (omega arith)) old in
    rank-same low (best_of low (m ∷ ms)) (better low g (last xs)) new (better-cell low g (last xs) old y)
    (best-slides (rank low) (best_of low) (best-rank low) x m ms cells told ∙ sym (better-rank low g (last xs) old y))
  where
    tell : {g : ℤ} → (x ≢ g) ⊎ (g ≡ MISSING) → IsCell x → IsCell g → (rank low x ≢ rank low g) ⊎ (rank low g ≡ 0)
    tell {g} (inl unlike) p q = inl (λ e. unlike (rank-same low x g p q e))
    tell {g} (inr is) p q = inr (ap (rank low) is ∙ rank-missing low)

-- ---- cells in 64 and 128 bits

cell-small : (g : ℤ) → IsCell g → unsigned_abs g ≤ 10 ^ 38
cell-small g (inl e) = rw e (omega arith)
cell-small g (inr h) = omega (arith, h)

pub wide-cell : (x g : ℤ) → x ≡ g → IsCell g → to_z w128 (of_z w128 x) ≡ g
wide-cell x g e c = same x g e (cell-small g c)

pub narrow-cell : (x g : ℤ) → x ≡ g → IsCell g → to_z w64 (of_z w64 (to_z w128 (of_z w128 x))) ≡ g
narrow-cell x g e c = ap (λ v. to_z w64 (of_z w64 v)) (wide-cell x g e c) ∙ to_z-of_z w64 g (cell-fits g c)

pub narrow-fits : (x g : ℤ) → x ≡ g → IsCell g → FitsSigned w64 (to_z w128 (of_z w128 x))
narrow-fits x g e c = rw (wide-cell x g e c) (cell-fits g c)

-- the cell that leaves is not the best one, or there is none
pub leaves-unlike : (x g : ℤ) → FitsSigned w64 g → ((of_z w64 x ≡ of_z w64 g) × (of_z w64 g ≡ 2 ^ 63)) ⊎ (of_z w64 x ≡ of_z w64 g → ⊥) → (x ≢ g) ⊎ (g ≡ MISSING)
leaves-unlike x g f (inl e) = inr (missing-is g (is_gone g f e.1))
leaves-unlike x g f (inr n) = inl (λ e. n (ap (of_z w64) e))

-- ---- tests by heights

pub higher-is : (x g : ℤ) → IsCell x → IsCell g → (int_lt g x ≡ true → height g < height x) × (int_lt g x ≡ false → height x ≤ height g)
higher-is x g p q =
    let a = height-of x p in
    let b = height-of g q in
    (λ e. omega (arith, ints), λ e. omega (arith, ints))

pub lower-is : (x g : ℤ) → unsigned_abs x ≤ LIMIT → unsigned_abs g ≤ LIMIT → (int_lt x g ≡ true → depth g < depth x) × (int_lt x g ≡ false → depth x ≤ depth g)
lower-is x g p q =
    let a = depth-there x p in
    let b = depth-there g q in
    (λ e. omega (arith, ints), λ e. omega (arith, ints))

pub depth-some : (x : ℤ) → unsigned_abs x ≤ LIMIT → 0 < depth x
depth-some x p = let a = depth-there x p in omega (arith, ints)

pub depth-none : (x : ℤ) → is_missing x ≡ true → depth x ≡ 0
depth-none x e = ap depth (missing-is x e) ∙ depth-missing

pub kept-is : (m g : ℤ) (n p : ℕ) → m ≡ g → n ≡ p → let kept : ℤ → ℕ → Kept = λ m n. record { main = m; beside = pos 0; number = n } in kept m n ≡ kept g p
kept-is m g n p e f = rw (e, f) refl
