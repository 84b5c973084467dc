-- The sums of pairs of two lists, pair by pair.
use Rattle.std.proofs.Common.{◌≡◌, ℕ, subst, suc, ◌+◌, ◌-◌, ◌*◌, ◌<◌, ◌≤◌, Bool, true, false, ℤ, pos, ◌+ℤ◌, ◌-ℤ◌, ◌*ℤ◌, List, [], ◌∷◌, ◌++◌, length, map, take, drop, get_or, unsigned_abs, arith, refl, ap, ap₂, sym, ◌∙◌, ◌||◌, ◌^◌, ◌⊎◌, inl, inr, FitsSigned, w64, to_z, of_z}
use Rattle.std.specs.Int.{w128}
use Rattle.pl_fixed.proofs.CellLemmas.{is_missing-not}
use Rattle.std.specs.List.{All}
use Rattle.std.proofs.lemmas.Int.{ints, to_z-of_z, unsigned_abs-mul}
use Rattle.std.proofs.lemmas.Nat.{mul-le}
use Rattle.std.proofs.lemmas.List.Elements.{All-take, All-drop}
use Rattle.std.proofs.lemmas.List.{take_more, length-take, length-drop}
use Rattle.std.proofs.Math.Seq.{take-length}
use Rattle.pl_spec.specs.Rounding.{LIMIT, IsCell, is_missing}
use Rattle.pl_spec.specs.Limits.{most_window}
use Rattle.pl_pipeline.specs.Formula.{PairSums, present_pairs, pair_total, sums_of_pairs, pair_sums}
use Rattle.pl_lanes.proofs.Cells.{total-cons, is_within, is_gone}
use Rattle.pl_regression.specs.Sums.{AreWithin, with_pair, without_pair, added, removed}

pub same_sums : (s t : PairSums) → s.number ≡ t.number → s.x ≡ t.x → s.y ≡ t.y → s.xx ≡ t.xx → s.yy ≡ t.yy → s.xy ≡ t.xy → s ≡ t
same_sums s t a b c d e f = λ i. record { number = a i; x = b i; y = c i; xx = d i; yy = e i; xy = f i }

-- ---- one pair more at the front

total_more : (f : ℤ → ℤ → ℤ) (x y : ℤ) (ps : List (ℤ × ℤ)) → pair_total f ((x, y) ∷ ps) ≡ pair_total f ps +ℤ f x y
total_more f x y ps = omega (arith, ints, total-cons (f x y) (map (λ (p : ℤ × ℤ). f p.0 p.1) ps))

pair_front : (x y : ℤ) (ps : List (ℤ × ℤ)) → sums_of_pairs ((x, y) ∷ ps) ≡ with_pair (sums_of_pairs ps) x y
pair_front x y ps =
    same_sums _ _ (omega arith) (total_more (λ a b. a) x y ps) (total_more (λ a b. b) x y ps) (total_more (λ a b. a *ℤ a) x y ps) (total_more (λ a b. b *ℤ b) x y ps) (total_more (λ a b. a *ℤ b) x y ps)

front_by : (x y : ℤ) (xs ys : List ℤ) (a b : Bool) → is_missing x ≡ a → is_missing y ≡ b → pair_sums (x ∷ xs) (y ∷ ys) ≡ added (pair_sums xs ys) x y
unfolding added
front_by x y xs ys true b e f = rw e refl
front_by x y xs ys false true e f = rw (e, f) refl
front_by x y xs ys false false e f = rw (e, f) (pair_front x y (present_pairs xs ys))

pub added_front : (x y : ℤ) (xs ys : List ℤ) → pair_sums (x ∷ xs) (y ∷ ys) ≡ added (pair_sums xs ys) x y
added_front x y xs ys = front_by x y xs ys (is_missing x) (is_missing y) refl refl

-- ---- in any order

swap_pairs : (s : PairSums) (x y u v : ℤ) → with_pair (with_pair s x y) u v ≡ with_pair (with_pair s u v) x y
swap_pairs s x y u v = same_sums _ _ (omega arith) (omega (arith, ints)) (omega (arith, ints)) (omega (arith, ints)) (omega (arith, ints)) (omega (arith, ints))

swap_by : (s : PairSums) (x y u v : ℤ) (a b d e : Bool) → is_missing x ≡ a → is_missing y ≡ b → is_missing u ≡ d → is_missing v ≡ e
    → added (added s x y) u v ≡ added (added s u v) x y
unfolding added
swap_by s x y u v true b d e p q r t = rw p refl
swap_by s x y u v false true d e p q r t = rw (p, q) refl
swap_by s x y u v false false true e p q r t = rw (p, q, r) refl
swap_by s x y u v false false false true p q r t = rw (p, q, r, t) refl
swap_by s x y u v false false false false p q r t = rw (p, q, r, t) (swap_pairs s x y u v)

swapped : (s : PairSums) (x y u v : ℤ) → added (added s x y) u v ≡ added (added s u v) x y
swapped s x y u v = swap_by s x y u v _ _ _ _ refl refl refl refl

-- ---- one pair more at the end

pub added_end : (xs ys : List ℤ) (x y : ℤ) → length ys ≡ length xs → pair_sums (xs ++ x ∷ []) (ys ++ y ∷ []) ≡ added (pair_sums xs ys) x y
added_end [] [] x y e = added_front x y [] []
added_end [] (v ∷ ys) x y e = absurd (omega arith)
added_end (u ∷ xs) [] x y e = absurd (omega arith)
added_end (u ∷ xs) (v ∷ ys) x y e =
    let rest = added_end xs ys x y (omega arith) in
    added_front u v (xs ++ x ∷ []) (ys ++ y ∷ []) ∙ ap (λ (s : PairSums). added s u v) rest ∙ swapped (pair_sums xs ys) x y u v
    ∙ ap (λ (s : PairSums). added s x y) (sym (added_front u v xs ys))

pub added_next : (xs ys : List ℤ) (i : ℕ) → i < length xs → length ys ≡ length xs
    → pair_sums (take (i + 1) xs) (take (i + 1) ys) ≡ added (pair_sums (take i xs) (take i ys)) (get_or xs i (pos 0)) (get_or ys i (pos 0))
added_next xs ys i h e =
    let a = take_more xs i (pos 0) h in
    let b = take_more ys i (pos 0) (omega arith) in
    let long : length (take i ys) ≡ length (take i xs) = omega (arith, length-take i xs, length-take i ys) in
    rw (a, b) (added_end (take i xs) (take i ys) (get_or xs i (pos 0)) (get_or ys i (pos 0)) long)

-- ---- one pair less

less_by : (s : PairSums) (x y : ℤ) (a b : Bool) → is_missing x ≡ a → is_missing y ≡ b → removed (added s x y) x y ≡ s
unfolding added removed
less_by s x y true b e f = rw e refl
less_by s x y false true e f = rw (e, f) refl
less_by s x y false false e f =
    rw (e, f) (same_sums _ _ (omega arith) (omega (arith, ints)) (omega (arith, ints)) (omega (arith, ints)) (omega (arith, ints)) (omega (arith, ints)))

pub removed_added : (s : PairSums) (x y : ℤ) → removed (added s x y) x y ≡ s
removed_added s x y = less_by s x y _ _ refl refl

-- ---- cells that are there, or not, as the code tests it

pub one_gone : (x y : ℤ) → FitsSigned w64 x → FitsSigned w64 y → (of_z w64 x ≡ 2 ^ 63) ⊎ ((of_z w64 x ≡ 2 ^ 63 → ⊥) × (of_z w64 y ≡ 2 ^ 63)) → (is_missing x || is_missing y) ≡ true
one_gone x y f g (inl e) = rw (is_gone x f e) refl
one_gone x y f g (inr e) = both (is_missing x) (is_missing y) (is_gone y g e.1)
  where
    both : (a b : Bool) → b ≡ true → (a || b) ≡ true
    both true b e = refl
    both false b e = e

pub both_there : (x y : ℤ) → FitsSigned w64 x → FitsSigned w64 y → (of_z w64 x ≡ 2 ^ 63 → ⊥) × (of_z w64 y ≡ 2 ^ 63 → ⊥) → (is_missing x ≡ false) × (is_missing y ≡ false)
both_there x y f g h = (is_missing-not x f h.0, is_missing-not y g h.1)

pub added_none : (s : PairSums) (x y : ℤ) → (is_missing x || is_missing y) ≡ true → s ≡ added s x y
unfolding added
added_none s x y e = rw e refl

pub removed_none : (s : PairSums) (x y : ℤ) → (is_missing x || is_missing y) ≡ true → s ≡ removed s x y
unfolding removed
removed_none s x y e = rw e refl

-- what the code computes of two cells that are there
pub record IsWithPair (s : PairSums) (x y : ℤ) (t : PairSums) : Type 0 where
  pub there_x : is_missing x ≡ false
  pub there_y : is_missing y ≡ false
  pub number : t.number ≡ s.number + 1
  pub sx : t.x ≡ s.x +ℤ x
  pub sy : t.y ≡ s.y +ℤ y
  pub sxx : t.xx ≡ s.xx +ℤ (x *ℤ x)
  pub syy : t.yy ≡ s.yy +ℤ (y *ℤ y)
  pub sxy : t.xy ≡ s.xy +ℤ (x *ℤ y)

pub added_is : (s : PairSums) (x y : ℤ) (t : PairSums) → IsWithPair s x y t → t ≡ added s x y
unfolding added
added_is s x y t h = rw (h.there_x, h.there_y) (same_sums t (with_pair s x y) h.number h.sx h.sy h.sxx h.syy h.sxy)

pub record IsWithoutPair (s : PairSums) (x y : ℤ) (t : PairSums) : Type 0 where
  pub there_x : is_missing x ≡ false
  pub there_y : is_missing y ≡ false
  pub number : t.number ≡ s.number - 1
  pub sx : t.x ≡ s.x -ℤ x
  pub sy : t.y ≡ s.y -ℤ y
  pub sxx : t.xx ≡ s.xx -ℤ (x *ℤ x)
  pub syy : t.yy ≡ s.yy -ℤ (y *ℤ y)
  pub sxy : t.xy ≡ s.xy -ℤ (x *ℤ y)

pub removed_is : (s : PairSums) (x y : ℤ) (t : PairSums) → IsWithoutPair s x y t → t ≡ removed s x y
unfolding removed
removed_is s x y t h = rw (h.there_x, h.there_y) (same_sums t (without_pair s x y) h.number h.sx h.sy h.sxx h.syy h.sxy)

-- ---- how large sums are

product_size : (x y : ℤ) → unsigned_abs x ≤ LIMIT → unsigned_abs y ≤ LIMIT → unsigned_abs (x *ℤ y) ≤ LIMIT * LIMIT
product_size x y h k = rw (unsigned_abs-mul x y) (mul-le (unsigned_abs x) (unsigned_abs y) LIMIT LIMIT h k)

sum_size : (n limit : ℕ) (s x : ℤ) → unsigned_abs s ≤ n * limit → unsigned_abs x ≤ limit → unsigned_abs (s +ℤ x) ≤ (n + 1) * limit
sum_size n limit s x h k = omega (arith, ints)

longer : (n : ℕ) (s : PairSums) → AreWithin n s → AreWithin (n + 1) s
longer n s h = record { number = omega (arith, h.number); x = omega (arith, h.x); y = omega (arith, h.y); xx = omega (arith, h.xx); yy = omega (arith, h.yy); xy = omega (arith, h.xy) }

more_by : (n : ℕ) (s : PairSums) (x y : ℤ) (a b : Bool) → is_missing x ≡ a → is_missing y ≡ b → IsCell x → IsCell y → AreWithin n s → AreWithin (n + 1) (added s x y)
unfolding added
more_by n s x y true b e f p q h = rw e (longer n s h)
more_by n s x y false true e f p q h = rw (e, f) (longer n s h)
more_by n s x y false false e f p q h =
    let small_x = is_within x p e in
    let small_y = is_within y q f in
    rw (e, f) (record {
      number = omega (arith, h.number);
      x = sum_size n LIMIT s.x x h.x small_x;
      y = sum_size n LIMIT s.y y h.y small_y;
      xx = sum_size n (LIMIT * LIMIT) s.xx (x *ℤ x) h.xx (product_size x x small_x small_x);
      yy = sum_size n (LIMIT * LIMIT) s.yy (y *ℤ y) h.yy (product_size y y small_y small_y);
      xy = sum_size n (LIMIT * LIMIT) s.xy (x *ℤ y) h.xy (product_size x y small_x small_y);
    })

pub added_within : (n : ℕ) (s : PairSums) (x y : ℤ) → IsCell x → IsCell y → AreWithin n s → AreWithin (n + 1) (added s x y)
added_within n s x y p q h = more_by n s x y _ _ refl refl p q h

pub sums_within : (xs ys : List ℤ) → All IsCell xs → All IsCell ys → AreWithin (length xs) (pair_sums xs ys)
sums_within [] ys p q = record { number = omega arith; x = omega arith; y = omega arith; xx = omega arith; yy = omega arith; xy = omega arith }
sums_within (x ∷ xs) [] p q = record { number = omega arith; x = omega arith; y = omega arith; xx = omega arith; yy = omega arith; xy = omega arith }
sums_within (x ∷ xs) (y ∷ ys) p q =
    let e : suc (length xs) ≡ length xs + 1 = omega arith in
    rw (e, added_front x y xs ys) (added_within (length xs) (pair_sums xs ys) x y (p 0 (pos 0) (omega arith)) (q 0 (pos 0) (omega arith)) (sums_within xs ys (λ k d h. p (suc k) d (omega arith)) (λ k d h. q (suc k) d (omega arith))))

-- as many as there may be at most
pub within_more : (m n : ℕ) (s : PairSums) → m ≤ n → AreWithin m s → AreWithin n s
within_more m n s h k = record {
  number = omega (arith, k.number);
  x = omega (arith, k.x, mul-le m LIMIT n LIMIT h (omega arith));
  y = omega (arith, k.y, mul-le m LIMIT n LIMIT h (omega arith));
  xx = omega (arith, k.xx, mul-le m (LIMIT * LIMIT) n (LIMIT * LIMIT) h (omega arith));
  yy = omega (arith, k.yy, mul-le m (LIMIT * LIMIT) n (LIMIT * LIMIT) h (omega arith));
  xy = omega (arith, k.xy, mul-le m (LIMIT * LIMIT) n (LIMIT * LIMIT) h (omega arith));
}

-- ---- sums in 128 bits

pub plus_is : (s t m x r : ℤ) → FitsSigned w128 s → FitsSigned w128 m → FitsSigned w128 r → s ≡ t → m ≡ x
    → r ≡ to_z w128 (of_z w128 s) +ℤ to_z w128 (of_z w128 m) → to_z w128 (of_z w128 r) ≡ t +ℤ x
plus_is s t m x r fs fm fr e f g =
    to_z-of_z w128 r fr ∙ g ∙ ap₂ (λ (a b : ℤ). a +ℤ b) (to_z-of_z w128 s fs ∙ e) (to_z-of_z w128 m fm ∙ f)

pub minus_is : (s t m x r : ℤ) → FitsSigned w128 s → FitsSigned w128 m → FitsSigned w128 r → s ≡ t → m ≡ x
    → r ≡ to_z w128 (of_z w128 s) -ℤ to_z w128 (of_z w128 m) → to_z w128 (of_z w128 r) ≡ t -ℤ x
minus_is s t m x r fs fm fr e f g =
    to_z-of_z w128 r fr ∙ g ∙ ap₂ (λ (a b : ℤ). a -ℤ b) (to_z-of_z w128 s fs ∙ e) (to_z-of_z w128 m fm ∙ f)

pub front_within : (xs ys : List ℤ) (i : ℕ) → All IsCell xs → All IsCell ys → i ≤ most_window → AreWithin most_window (pair_sums (take i xs) (take i ys))
front_within xs ys i p q h =
    within_more (length (take i xs)) most_window _ (omega (arith, length-take i xs)) (sums_within (take i xs) (take i ys) (All-take IsCell i xs p) (All-take IsCell i ys q))

-- ---- whole windows, and the next ones

pub all_pairs : (xs ys : List ℤ) (i : ℕ) → length xs ≤ i → i ≤ length xs → length ys ≡ length xs → pair_sums (take i xs) (take i ys) ≡ pair_sums xs ys
all_pairs xs ys i low high long =
    let a : i ≡ length xs = omega arith in
    let b : i ≡ length ys = omega arith in
    ap₂ pair_sums (ap (λ (k : ℕ). take k xs) a ∙ take-length xs) (ap (λ (k : ℕ). take k ys) b ∙ take-length ys)

-- the windows before and the cells that enter are all pairs of the two lists
pub all_by_last : (xs ys : List ℤ) → 1 ≤ length xs → length ys ≡ length xs
    → added (pair_sums (take (length xs - 1) xs) (take (length ys - 1) ys)) (get_or xs (length xs - 1) (pos 0)) (get_or ys (length xs - 1) (pos 0)) ≡ pair_sums xs ys
all_by_last xs ys some long =
    let n = length xs - 1 in
    let m : length ys - 1 ≡ n = omega arith in
    let step = added_next xs ys n (omega arith) long in
    rw m (sym step ∙ all_pairs xs ys (n + 1) (omega arith) (omega arith) long)

-- and so are those after and the cells that leave
pub all_by_first : (xs ys : List ℤ) → 1 ≤ length xs → length ys ≡ length xs
    → pair_sums xs ys ≡ added (pair_sums (drop 1 xs) (drop 1 ys)) (get_or xs 0 (pos 0)) (get_or ys 0 (pos 0))
all_by_first [] ys some long = absurd (omega arith)
all_by_first (x ∷ xs) [] some long = absurd (omega arith)
all_by_first (x ∷ xs) (y ∷ ys) some long = added_front x y xs ys

pub next_pairs : (xs ys : List ℤ) → 1 ≤ length xs → length ys ≡ length xs
    → removed (pair_sums xs ys) (get_or xs 0 (pos 0)) (get_or ys 0 (pos 0)) ≡ pair_sums (drop 1 xs) (drop 1 ys)
next_pairs xs ys some long =
    ap (λ (s : PairSums). removed s (get_or xs 0 (pos 0)) (get_or ys 0 (pos 0))) (all_by_first xs ys some long)
    ∙ removed_added (pair_sums (drop 1 xs) (drop 1 ys)) (get_or xs 0 (pos 0)) (get_or ys 0 (pos 0))

some_added : (s : PairSums) (x y : ℤ) → is_missing x ≡ false → is_missing y ≡ false → 1 ≤ (added s x y).number
unfolding added
some_added s x y e f = rw (e, f) (omega arith)

pub some_pair : (xs ys : List ℤ) → 1 ≤ length xs → length ys ≡ length xs → is_missing (get_or xs 0 (pos 0)) ≡ false → is_missing (get_or ys 0 (pos 0)) ≡ false
    → 1 ≤ (pair_sums xs ys).number
some_pair xs ys some long e f =
    let P : PairSums → Type 0 = λ s. 1 ≤ s.number in
    subst P (sym (all_by_first xs ys some long)) (some_added (pair_sums (drop 1 xs) (drop 1 ys)) _ _ e f)

pub after_within : (xs ys : List ℤ) → All IsCell xs → All IsCell ys → length xs ≤ most_window + 1 → AreWithin most_window (pair_sums (drop 1 xs) (drop 1 ys))
after_within xs ys p q few =
    within_more (length (drop 1 xs)) most_window _ (omega (arith, length-drop 1 xs)) (sums_within (drop 1 xs) (drop 1 ys) (All-drop IsCell 1 xs p) (All-drop IsCell 1 ys q))
