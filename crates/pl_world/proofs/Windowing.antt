-- Windows and rows, cell by cell.
use Rattle.std.proofs.Common.{◌≡◌, ℕ, zero, suc, ◌+◌, ◌-◌, ◌<◌, ◌≤◌, ◌++◌, ℤ, List, [], ◌∷◌, map, take, length, get_or, sum_by, All, refl, sym, ◌∙◌, ap, subst, arith}
use Rattle.std.specs.List.{range_with_len}
use Rattle.std.proofs.lemmas.List.{take_more, take_all, map-append}
use Rattle.std.proofs.lemmas.List.FromFn.{map-range_with_len_more}
use Rattle.std.proofs.lemmas.List.Sums.{sum_by_push}
use Rattle.std.proofs.lemmas.List.Elements.{All-append}
use Rattle.pl_spec.specs.declared.AssetRow.{AssetRow}
use Rattle.pl_spec.specs.Window.{downward}
use Rattle.pl_spec.proofs.Ranges.{range-more}
use Rattle.pl_cross.proofs.Centers.{sum-map}
use Rattle.pl_values.specs.Arrays.{window_up_to}

-- the sessions up to one by how many ago, and by number
up-to : {X : Type 0} (f : ℕ → X) (size s : ℕ) → size ≤ s + 1 → map (λ n. f (s - n)) (downward size) ≡ map f (range_with_len (s + 1 - size) size)
up-to f zero s h = refl
up-to f (suc size) s h =
    let first : s - size ≡ s + 1 - suc size = omega arith in
    let next : s + 1 - size ≡ (s + 1 - suc size) + 1 = omega arith in
    ap (λ l. f (s - size) ∷ l) (up-to f size s (omega arith))
    ∙ ap (λ k. f k ∷ map f (range_with_len (s + 1 - size) size)) first
    ∙ ap (λ k. f (s + 1 - suc size) ∷ map f (range_with_len k size)) next

sum-up-to : (f : ℕ → ℕ) (size s : ℕ) → size ≤ s + 1 → sum_by (λ n. f (s - n)) (downward size) ≡ sum_by f (range_with_len (s + 1 - size) size)
sum-up-to f size s h =
    sym (sum-map (λ n. n) (λ n. f (s - n)) (downward size)) ∙ ap (sum_by (λ n. n)) (up-to f size s h) ∙ sum-map (λ n. n) f (range_with_len (s + 1 - size) size)

sum-range-more : (f : ℕ → ℕ) (first n : ℕ) → sum_by f (range_with_len first (n + 1)) ≡ sum_by f (range_with_len first n) + f (first + n)
sum-range-more f first n = ap (sum_by f) (range-more first n) ∙ sum_by_push f (range_with_len first n) (first + n)

-- one cell more
pub all-more : (P : ℤ → Type 0) (xs new : List ℤ) (x : ℤ) → new ≡ xs ++ x ∷ [] → All P xs → P x → All P new
all-more P xs new x e all h = subst (All P) (sym e) (All-append P xs (x ∷ []) all (λ k d l. let z : k ≡ 0 = omega (arith, l) in subst (λ i. P (get_or (x ∷ []) i d)) (sym z) h))

module _ (f : ℕ → ℤ) (g : ℕ → ℕ) (first s : ℕ) (from : first ≤ s) where
  at : first + (s - first) ≡ s
  at = omega arith

  next : (s + 1) - first ≡ (s - first) + 1
  next = omega arith

  pub cells-more : (xs new : List ℤ) (x : ℤ) → new ≡ xs ++ x ∷ [] → xs ≡ map f (range_with_len first (s - first)) → x ≡ f s → new ≡ map f (range_with_len first ((s + 1) - first))
  cells-more xs new x e so_far is =
      e ∙ ap (λ l. l ++ x ∷ []) so_far ∙ ap (λ y. map f (range_with_len first (s - first)) ++ y ∷ []) is
      ∙ sym (map-range_with_len_more f first (s - first) s at) ∙ ap (λ n. map f (range_with_len first n)) (sym next)

  pub steps-more : (old now new : ℕ) → now ≡ old + sum_by g (range_with_len first (s - first)) → new ≡ now + g s → new ≡ old + sum_by g (range_with_len first ((s + 1) - first))
  steps-more old now new so_far is =
      let more = sum-range-more g first (s - first) in
      let k : g (first + (s - first)) ≡ g s = ap g at in
      let n : sum_by g (range_with_len first ((s + 1) - first)) ≡ sum_by g (range_with_len first ((s - first) + 1)) = ap (λ n. sum_by g (range_with_len first n)) next in
      omega (arith, so_far, is, more, k, n)

-- at the end all are there
pub cells-all : (f : ℕ → ℤ) (size s at : ℕ) (xs : List ℤ) → size ≤ s + 1 → at ≡ s + 1 → xs ≡ map f (range_with_len (s + 1 - size) (at - (s + 1 - size))) → xs ≡ window_up_to f size s
cells-all f size s at xs h e so_far =
    let all : at - (s + 1 - size) ≡ size = omega arith in
    so_far ∙ ap (λ n. map f (range_with_len (s + 1 - size) n)) all ∙ sym (up-to f size s h)

pub steps-all : (g : ℕ → ℕ) (size s at old now : ℕ) → size ≤ s + 1 → at ≡ s + 1 → now ≡ old + sum_by g (range_with_len (s + 1 - size) (at - (s + 1 - size))) → now ≡ old + sum_by (λ n. g (s - n)) (downward size)
steps-all g size s at old now h e so_far =
    let all : at - (s + 1 - size) ≡ size = omega arith in
    let k : sum_by g (range_with_len (s + 1 - size) (at - (s + 1 - size))) ≡ sum_by g (range_with_len (s + 1 - size) size) = ap (λ n. sum_by g (range_with_len (s + 1 - size) n)) all in
    let u = sum-up-to g size s h in
    omega (arith, so_far, k, u)

-- ---- rows

module _ (f : AssetRow → ℤ) (g : AssetRow → ℕ) (assets : List AssetRow) (i : ℕ) (d : AssetRow) (inside : i < length assets) where
  pub row-more : (xs new : List ℤ) (x : ℤ) → new ≡ xs ++ x ∷ [] → xs ≡ map f (take i assets) → x ≡ f (get_or assets i d) → new ≡ map f (take (i + 1) assets)
  row-more xs new x e so_far is =
      e ∙ ap (λ l. l ++ x ∷ []) so_far ∙ ap (λ y. map f (take i assets) ++ y ∷ []) is
      ∙ sym (ap (map f) (take_more assets i d inside) ∙ map-append f (take i assets) (get_or assets i d ∷ []))

  pub row-steps-more : (old now new : ℕ) → now ≡ old + sum_by g (take i assets) → new ≡ now + g (get_or assets i d) → new ≡ old + sum_by g (take (i + 1) assets)
  row-steps-more old now new so_far is =
      let more : sum_by g (take (i + 1) assets) ≡ sum_by g (take i assets) + g (get_or assets i d) =
      ap (sum_by g) (take_more assets i d inside) ∙ sum_by_push g (take i assets) (get_or assets i d) in
      omega (arith, so_far, is, more)

pub row-all : (f : AssetRow → ℤ) (assets : List AssetRow) (i : ℕ) (xs : List ℤ) → length assets ≤ i → xs ≡ map f (take i assets) → xs ≡ map f assets
row-all f assets i xs h e = e ∙ ap (map f) (take_all i assets h)

pub row-steps-all : (g : AssetRow → ℕ) (assets : List AssetRow) (i old now : ℕ) → length assets ≤ i → now ≡ old + sum_by g (take i assets) → now ≡ old + sum_by g assets
row-steps-all g assets i old now h e = e ∙ ap (λ l. old + sum_by g l) (take_all i assets h)
