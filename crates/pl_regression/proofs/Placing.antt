-- The sums of cells at their places, and those of places that are one lower.
use Rattle.std.proofs.Common.{◌≡◌, ℕ, ◌+◌, ◌-◌, ◌<◌, ◌≤◌, ◌^◌, Bool, true, false, ℤ, pos, List, [], ◌∷◌, length, map, take, drop, get_or, inr, subst, arith, refl, ap, ap₂, sym, ◌∙◌, ◌+ℤ◌, ◌-ℤ◌, FitsSigned, w64, to_z, of_z}
use Rattle.std.specs.List.{All, range_with_len}
use Rattle.std.proofs.lemmas.Int.{ints, to_z-of_z, to_z_pos, fits_signed_from_abs}
use Rattle.std.proofs.lemmas.List.{length-take, length-drop}
use Rattle.std.proofs.lemmas.List.Elements.{All-drop}
use Rattle.std.proofs.lemmas.List.FromFn.{get_or-map-range_with_len, length-map-range_with_len, take-map-range_with_len}
use Rattle.pl_spec.specs.Rounding.{IsCell, is_missing}
use Rattle.pl_spec.specs.Limits.{most_window}
use Rattle.pl_pipeline.specs.Formula.{PairSums, pair_sums, places, trend_sums}
use Rattle.pl_regression.specs.Sums.{AreSums, added, lowered}
use Rattle.pl_regression.proofs.Adding.{added_front, added_next, all_pairs, same_sums, sums_within, within_more}

pub places-long : (xs : List ℤ) → length (places xs) ≡ length xs
places-long xs = length-map-range_with_len pos 1 (length xs)

pub place-at : (xs : List ℤ) (i : ℕ) → i < length xs → get_or (places xs) i (pos 0) ≡ pos (i + 1)
place-at xs i h = get_or-map-range_with_len pos 1 (length xs) i (i + 1) (pos 0) h (omega arith)

pub places-take : (xs : List ℤ) (i : ℕ) → i ≤ length xs → places (take i xs) ≡ take i (places xs)
places-take xs i h =
    let n : length (take i xs) ≡ i = omega (arith, length-take i xs) in
    ap (λ k. map pos (range_with_len 1 k)) n ∙ sym (take-map-range_with_len pos 1 (length xs) i h)

pub places-cells : (xs : List ℤ) → length xs ≤ most_window + 1 → All IsCell (places xs)
places-cells xs few k d h =
    let inside : k < length xs = omega (arith, places-long xs, h) in
    subst IsCell (sym (get_or-map-range_with_len pos 1 (length xs) k (k + 1) d inside (omega arith))) (inr (omega arith))

-- ---- each place one lower

lowered_by : (s : PairSums) (p : ℕ) (y : ℤ) (b : Bool) → is_missing y ≡ b → lowered (added s (pos (p + 1)) y) ≡ added (lowered s) (pos p) y
unfolding lowered added
lowered_by s p y true e = rw e refl
lowered_by s p y false e =
    rw e (same_sums _ _ refl (omega (arith, ints)) refl (omega (arith, ints)) refl (omega (arith, ints)))

lowered_added : (s : PairSums) (p : ℕ) (y : ℤ) → lowered (added s (pos (p + 1)) y) ≡ added (lowered s) (pos p) y
lowered_added s p y = lowered_by s p y (is_missing y) refl

from_place : ℕ → List ℤ → PairSums
from_place a ys = pair_sums (map pos (range_with_len a (length ys))) ys

lower_all : (a : ℕ) (ys : List ℤ) → lowered (from_place (a + 1) ys) ≡ from_place a ys
unfolding lowered from_place
lower_all a [] = refl
lower_all a (y ∷ ys) =
    ap lowered (added_front (pos (a + 1)) y (map pos (range_with_len (a + 1 + 1) (length ys))) ys) ∙ lowered_added (from_place (a + 1 + 1) ys) a y
    ∙ ap (λ (s : PairSums). added s (pos a) y) (lower_all (a + 1) ys) ∙ sym (added_front (pos a) y (map pos (range_with_len (a + 1) (length ys))) ys)

pub lowered_places : (ys : List ℤ) → 1 ≤ length ys → lowered (pair_sums (drop 1 (places ys)) (drop 1 ys)) ≡ trend_sums (drop 1 ys)
unfolding from_place
lowered_places [] some = absurd (omega arith)
lowered_places (y ∷ ys) some = lower_all 1 ys

-- what the code computes of sums whose places are one lower
pub record IsLowered (s t : PairSums) : Type 0 where
  pub number : t.number ≡ s.number
  pub sx : t.x ≡ s.x -ℤ pos s.number
  pub sy : t.y ≡ s.y
  pub sxx : t.xx ≡ ((s.xx -ℤ s.x) -ℤ s.x) +ℤ pos s.number
  pub syy : t.yy ≡ s.yy
  pub sxy : t.xy ≡ s.xy -ℤ s.y

pub lowered_is : (s t : PairSums) → IsLowered s t → t ≡ lowered s
unfolding lowered
lowered_is s t h = same_sums t (lowered s) h.number h.sx h.sy h.sxx h.syy h.sxy

-- ---- whole windows, and the next ones

-- a place as the code counts it
pub place-cast : (at : ℕ) → at < 2 ^ 62 → to_z w64 (of_z w64 (to_z w64 at +ℤ pos 1)) ≡ pos (at + 1)
place-cast at h =
    let n : to_z w64 at ≡ pos at = to_z_pos w64 at (omega arith) in
    let e : pos at +ℤ pos 1 ≡ pos (at + 1) = omega (arith, ints) in
    let fits : FitsSigned w64 (pos (at + 1)) = fits_signed_from_abs w64 (pos (at + 1)) (omega arith) in
    rw (n, e) (to_z-of_z w64 (pos (at + 1)) fits)

-- the window before, and the cell that enters at the last place
pub placed_whole : (ys : List ℤ) (old all : PairSums) (p y : ℤ) → 1 ≤ length ys → old ≡ trend_sums (take (length ys - 1) ys) → p ≡ pos (length ys - 1 + 1)
    → y ≡ get_or ys (length ys - 1) (pos 0) → all ≡ added old p y → all ≡ pair_sums (places ys) ys
placed_whole ys old all p y some stands pe ye e =
    let n = length ys - 1 in
    let long = places-long ys in
    e ∙ ap₂ (λ (u v : ℤ). added old u v) (pe ∙ sym (place-at ys n (omega arith))) ye
    ∙ ap (λ (s : PairSums). added s (get_or (places ys) n (pos 0)) (get_or ys n (pos 0))) (stands ∙ ap (λ l. pair_sums l (take n ys)) (places-take ys n (omega arith)))
    ∙ sym (added_next (places ys) ys n (omega (arith, long)) (sym long)) ∙ all_pairs (places ys) ys (n + 1) (omega (arith, long)) (omega (arith, long)) (sym long)

pub placed_small : (ys : List ℤ) → All IsCell ys → length ys ≤ most_window → AreSums (trend_sums ys)
placed_small ys cells few =
    let long = places-long ys in
    within_more (length (places ys)) most_window _ (omega (arith, long)) (sums_within (places ys) ys (places-cells ys (omega (arith, few))) cells)

pub next_small : (ys : List ℤ) → All IsCell ys → length ys ≤ most_window + 1 → AreSums (trend_sums (drop 1 ys))
next_small ys cells few = placed_small (drop 1 ys) (All-drop IsCell 1 ys cells) (omega (arith, length-drop 1 ys))
