-- Ranks of cells, and of the values of pairs.
use Rattle.std.proofs.Common.{◌≡◌, ℕ, ◌+◌, ◌*◌, ◌<◌, ◌≤◌, Bool, true, false, ◌&&◌, cond, ℤ, pos, List, [], ◌∷◌, ◌++◌, length, map, filter, take, set, get_or, sum_by, refl, sym, ap, ap₂, ◌∙◌, arith, append-nil, unsigned_abs, inl, inr, get_or-set_same, get_or-set_other}
use Rattle.std.specs.List.{All, zip}
use Rattle.std.specs.Int.RustNames.{int_lt}
use Rattle.std.specs.Ordering.{int_eq}
use Rattle.std.proofs.lemmas.Bool.{cases_eq}
use Rattle.std.proofs.lemmas.Int.{ints}
use Rattle.std.proofs.lemmas.List.{take_more, take_more_set, map-append, length-take, length-map, get_or-map, get_or-take, ext_get_or}
use Rattle.std.proofs.lemmas.List.Elements.{filter-append, All-cons, All-nil, All-tail, All-map}
use Rattle.std.proofs.lemmas.List.Sums.{count_by-le-length, sum_by-cons}
use Rattle.pl_spec.specs.Limits.{most_window}
use Rattle.pl_spec.specs.Rounding.{LIMIT, IsCell, is_missing, is_present}
use Rattle.pl_spec.specs.Cells.{present_values}
use Rattle.pl_spec.proofs.Counts.{count-cons}
use Rattle.pl_pipeline.specs.Formula.{present_pairs, ranked, pair_sums, sums_of_pairs}
use Rattle.pl_pipeline.specs.Order.{twice_rank}
use Rattle.pl_regression.specs.Ranks.{share, twice_ranks, firsts, seconds}

-- ---- a rank, cell by cell

part : (x y : ℤ) (ys : List ℤ) (a b d : Bool) → is_missing y ≡ a → int_lt y x ≡ b → int_eq x y ≡ d
    → twice_rank x (present_values (y ∷ ys)) ≡ share x y + twice_rank x (present_values ys)
unfolding share
part x y ys true b d e f g = rw e (omega arith)
part x y ys false true true e f g = absurd (let bad : int_lt y x ≡ false = grind (arith, ints) in cc)
part x y ys false true false e f g =
    rw (e, count-cons (λ v. int_lt v x) y (present_values ys), count-cons (int_eq x) y (present_values ys), g, f) (omega arith)
part x y ys false false true e f g =
    rw (e, count-cons (λ v. int_lt v x) y (present_values ys), count-cons (int_eq x) y (present_values ys), g, f) (omega arith)
part x y ys false false false e f g =
    rw (e, count-cons (λ v. int_lt v x) y (present_values ys), count-cons (int_eq x) y (present_values ys), g, f) (omega arith)

pub shares : (x : ℤ) (ys : List ℤ) → twice_rank x (present_values ys) ≡ 1 + sum_by (share x) ys
shares x [] = refl
shares x (y ∷ ys) = part x y ys _ _ _ refl refl refl ∙ omega (arith, shares x ys, sum_by-cons (share x) y ys)

share_by : (a b d : Bool) → cond a 0 (cond b 2 (cond d 1 0)) ≤ 2
share_by true b d = omega arith
share_by false true d = omega arith
share_by false false true = omega arith
share_by false false false = omega arith

share_few : (x y : ℤ) → share x y ≤ 2
unfolding share
share_few x y = share_by (is_missing y) (int_lt y x) (int_eq x y)

pub shares_few : (x : ℤ) (ys : List ℤ) → sum_by (share x) ys ≤ 2 * length ys
shares_few x [] = omega arith
shares_few x (y ∷ ys) = omega (arith, share_few x y, shares_few x ys, sum_by-cons (share x) y ys)

-- ---- the pairs so far

pair_end : (xs ys : List ℤ) (x y : ℤ) → length ys ≡ length xs → zip (xs ++ x ∷ []) (ys ++ y ∷ []) ≡ zip xs ys ++ (x, y) ∷ []
pair_end [] [] x y e = refl
pair_end [] (v ∷ ys) x y e = absurd (omega arith)
pair_end (u ∷ xs) [] x y e = absurd (omega arith)
pair_end (u ∷ xs) (v ∷ ys) x y e = ap (λ l. (u, v) ∷ l) (pair_end xs ys x y (omega arith))

both : ℤ × ℤ → Bool
both p = is_present p.0 && is_present p.1

pairs_next : (xs ys : List ℤ) (i : ℕ) (x y : ℤ) (b : Bool) → i < length xs → length ys ≡ length xs → x ≡ get_or xs i (pos 0) → y ≡ get_or ys i (pos 0)
    → (is_present x && is_present y) ≡ b
    → present_pairs (take (i + 1) xs) (take (i + 1) ys) ≡ present_pairs (take i xs) (take i ys) ++ cond b ((x, y) ∷ []) []
unfolding both
pairs_next xs ys i x y b h e f g t =
    let a : take (i + 1) xs ≡ take i xs ++ x ∷ [] = take_more xs i (pos 0) h ∙ ap (λ v. take i xs ++ v ∷ []) (sym f) in
    let d : take (i + 1) ys ≡ take i ys ++ y ∷ [] = take_more ys i (pos 0) (omega arith) ∙ ap (λ v. take i ys ++ v ∷ []) (sym g) in
    let long : length (take i ys) ≡ length (take i xs) = omega (arith, length-take i xs, length-take i ys) in
    ap₂ present_pairs a d ∙ ap (filter both) (pair_end (take i xs) (take i ys) x y long) ∙ filter-append both (zip (take i xs) (take i ys)) ((x, y) ∷ [])
    ∙ ap (λ c. present_pairs (take i xs) (take i ys) ++ cond c ((x, y) ∷ []) []) t

module _ (xs ys : List ℤ) (i count : ℕ) (x y : ℤ) (h : i < length xs) (e : length ys ≡ length xs) (f : x ≡ get_or xs i (pos 0)) (g : y ≡ get_or ys i (pos 0)) where
  so_far : List (ℤ × ℤ)
  so_far = present_pairs (take i xs) (take i ys)

  pub first_yes : (l : List ℤ) (z : ℤ) → z ≡ x → (is_present x && is_present y) ≡ true → count < length l → take count l ≡ firsts (present_pairs (take i xs) (take i ys))
      → take (count + 1) (set l count z) ≡ firsts (present_pairs (take (i + 1) xs) (take (i + 1) ys))
  unfolding so_far
  first_yes l z zx t inside so =
      take_more_set l count z inside ∙ ap₂ (λ (u : List ℤ) v. u ++ v ∷ []) so zx
      ∙ sym (ap firsts (pairs_next xs ys i x y true h e f g t) ∙ map-append (λ (p : ℤ × ℤ). p.0) so_far ((x, y) ∷ []))

  pub second_yes : (l : List ℤ) (z : ℤ) → z ≡ y → (is_present x && is_present y) ≡ true → count < length l → take count l ≡ seconds (present_pairs (take i xs) (take i ys))
      → take (count + 1) (set l count z) ≡ seconds (present_pairs (take (i + 1) xs) (take (i + 1) ys))
  unfolding so_far
  second_yes l z zy t inside so =
      take_more_set l count z inside ∙ ap₂ (λ (u : List ℤ) v. u ++ v ∷ []) so zy
      ∙ sym (ap seconds (pairs_next xs ys i x y true h e f g t) ∙ map-append (λ (p : ℤ × ℤ). p.1) so_far ((x, y) ∷ []))

  pub pairs_no : (is_present x && is_present y) ≡ false → present_pairs (take i xs) (take i ys) ≡ present_pairs (take (i + 1) xs) (take (i + 1) ys)
  unfolding so_far
  pairs_no t = sym (pairs_next xs ys i x y false h e f g t ∙ append-nil so_far)

-- ---- the ranks of the values of pairs

paired_by : (f g : ℤ → ℕ) (ps : List (ℤ × ℤ)) → present_pairs (map (λ v. pos (f v)) (firsts ps)) (map (λ v. pos (g v)) (seconds ps)) ≡ map (λ p. (pos (f p.0), pos (g p.1))) ps
paired_by f g [] = refl
paired_by f g (p ∷ ps) = ap (λ l. (pos (f p.0), pos (g p.1)) ∷ l) (paired_by f g ps)

pub ranks_of_pairs : (ps : List (ℤ × ℤ)) → pair_sums (twice_ranks (firsts ps)) (twice_ranks (seconds ps)) ≡ sums_of_pairs (ranked ps)
unfolding twice_ranks
ranks_of_pairs ps = ap sums_of_pairs (paired_by (λ v. twice_rank v (firsts ps)) (λ v. twice_rank v (seconds ps)) ps)

-- the values of pairs are there
there_by : (x y : ℤ) (xs ys : List ℤ) (a b : Bool) → is_missing x ≡ a → is_missing y ≡ b
    → (present_values (firsts (present_pairs xs ys)) ≡ firsts (present_pairs xs ys)) × (present_values (seconds (present_pairs xs ys)) ≡ seconds (present_pairs xs ys))
    → (present_values (firsts (present_pairs (x ∷ xs) (y ∷ ys))) ≡ firsts (present_pairs (x ∷ xs) (y ∷ ys)))
    × (present_values (seconds (present_pairs (x ∷ xs) (y ∷ ys))) ≡ seconds (present_pairs (x ∷ xs) (y ∷ ys)))
there_by x y xs ys true b e f h = rw e h
there_by x y xs ys false true e f h = rw (e, f) h
there_by x y xs ys false false e f h = rw (e, f, e, f) (ap (λ l. x ∷ l) h.0, ap (λ l. y ∷ l) h.1)

pub pairs_there : (xs ys : List ℤ)
    → (present_values (firsts (present_pairs xs ys)) ≡ firsts (present_pairs xs ys)) × (present_values (seconds (present_pairs xs ys)) ≡ seconds (present_pairs xs ys))
pairs_there [] ys = (refl, refl)
pairs_there (x ∷ xs) [] = (refl, refl)
pairs_there (x ∷ xs) (y ∷ ys) = there_by x y xs ys _ _ refl refl (pairs_there xs ys)

cells_by : (x y : ℤ) (xs ys : List ℤ) (a b : Bool) → is_missing x ≡ a → is_missing y ≡ b → IsCell x → IsCell y
    → All IsCell (firsts (present_pairs xs ys)) × All IsCell (seconds (present_pairs xs ys))
    → All IsCell (firsts (present_pairs (x ∷ xs) (y ∷ ys))) × All IsCell (seconds (present_pairs (x ∷ xs) (y ∷ ys)))
cells_by x y xs ys true b e f p q h = rw e h
cells_by x y xs ys false true e f p q h = rw (e, f) h
cells_by x y xs ys false false e f p q h =
    rw (e, f) (All-cons IsCell x (firsts (present_pairs xs ys)) p h.0, All-cons IsCell y (seconds (present_pairs xs ys)) q h.1)

pub pairs_cells : (xs ys : List ℤ) → All IsCell xs → All IsCell ys → All IsCell (firsts (present_pairs xs ys)) × All IsCell (seconds (present_pairs xs ys))
pairs_cells [] ys p q = (All-nil IsCell, All-nil IsCell)
pairs_cells (x ∷ xs) [] p q = (All-nil IsCell, All-nil IsCell)
pairs_cells (x ∷ xs) (y ∷ ys) p q =
    cells_by x y xs ys _ _ refl refl (p 0 x (omega arith)) (q 0 y (omega arith)) (pairs_cells xs ys (All-tail IsCell x xs p) (All-tail IsCell y ys q))

-- twice the ranks are cells
pub ranks_cells : (vs : List ℤ) → length vs ≤ most_window → All IsCell (twice_ranks vs)
unfolding twice_ranks
ranks_cells vs few = All-map IsCell (λ v. pos (twice_rank v vs)) vs (λ k d h. inr (small (get_or vs k d)))
  where
    small : (v : ℤ) → unsigned_abs (pos (twice_rank v vs)) ≤ LIMIT
    small v = omega (arith, few, count_by-le-length (λ u. int_lt u v) vs, count_by-le-length (int_eq v) vs)

pub rank_at : (vs : List ℤ) (i : ℕ) → i < length vs → get_or (twice_ranks vs) i (pos 0) ≡ pos (twice_rank (get_or vs i (pos 0)) vs)
unfolding twice_ranks
rank_at vs i h = get_or-map (λ v. pos (twice_rank v vs)) vs i (pos 0) (pos 0) h

ranks_long : (vs : List ℤ) → length (twice_ranks vs) ≡ length vs
unfolding twice_ranks
ranks_long vs = length-map vs (λ v. pos (twice_rank v vs))

pub all_ranked : (vs out : List ℤ) (done : ℕ) → length vs ≤ done → length vs ≤ length out → ((j : ℕ) → j < done → get_or out j (pos 0) ≡ get_or (twice_ranks vs) j (pos 0))
    → take (length vs) out ≡ twice_ranks vs
all_ranked vs out done most room each =
    let t = length-take (length vs) out in
    let r = ranks_long vs in
    ext_get_or (pos 0) (take (length vs) out) (twice_ranks vs) (omega (arith, t, r, room))
    (λ i h. get_or-take (length vs) out i (pos 0) (omega (arith, t, h, room)) ∙ each i (omega (arith, t, h, room, most)))

pub one_ranked : (vs out : List ℤ) (done : ℕ) (x : ℤ) → done < length out → x ≡ get_or (twice_ranks vs) done (pos 0)
    → ((j : ℕ) → j < done → get_or out j (pos 0) ≡ get_or (twice_ranks vs) j (pos 0))
    → (j : ℕ) → j < done + 1 → get_or (set out done x) j (pos 0) ≡ get_or (twice_ranks vs) j (pos 0)
one_ranked vs out done x room e each j h = elim (cases_eq j done) [
  | inl p ↦ ap (λ k. get_or (set out done x) k (pos 0)) p ∙ get_or-set_same out done x (pos 0) room ∙ e ∙ ap (λ k. get_or (twice_ranks vs) k (pos 0)) (sym p)
  | inr p ↦ get_or-set_other out done j x (pos 0) p ∙ each j (omega (arith, h, p))
]
