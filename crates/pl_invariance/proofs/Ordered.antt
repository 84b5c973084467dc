-- Percentiles lie between the values, and ranks of windows are ranks.
use Rattle.std.proofs.Common.{◌≡◌, ℕ, zero, suc, ◌+◌, ◌-◌, ◌*◌, ◌/◌, ◌<◌, ◌≤◌, ℤ, pos, neg_ℤ, ◌+ℤ◌, ◌*ℤ◌, ◌≤ℤ◌, List, [], ◌∷◌, length, fold, unwrap_or, nat_eq, ne_eqb, unsigned_abs, refl, sym, ap, ap₂, ◌∙◌, arith, false, inl, inr}
use Rattle.std.specs.List.{All, reduce}
use Rattle.std.specs.Int.{int_max, int_min}
use Rattle.std.proofs.lemmas.Bool.{cases_lt}
use Rattle.std.proofs.lemmas.Int.{ints, fold-int_max_bounds, fold-int_min_bounds}
use Rattle.std.proofs.lemmas.List.{length-map}
use Rattle.std.proofs.lemmas.List.Elements.{All-filter, filter_passes, All-cons, All-contains}
use Rattle.std.proofs.lemmas.Nat.{mul-le}
use Rattle.std.proofs.Math.Nat.{mul-div-mul_left}
use Rattle.pl_spec.specs.Rounding.{IsNearest, MISSING, MILLION, LIMIT, IsCell, is_present, div_round, to_cell, quot}
use Rattle.pl_spec.specs.Cells.{present_values, count, greatest, least}
use Rattle.pl_spec.proofs.Nearest.{div_round-is_nearest}
use Rattle.pl_spec.proofs.Within.{to_cell-within, present-within}
use Rattle.pl_pipeline.specs.Cross.{cross}
use Rattle.pl_pipeline.specs.declared.WindowKind.TheVariants.{WindowPercentile}
use Rattle.pl_pipeline.specs.Formula.{formula, newest}
use Rattle.pl_pipeline.specs.Order.{count_less, count_equal, twice_rank, value_at, edge, percentile}
use Rattle.pl_pipeline.proofs.Bins.{times-le}
use Rattle.pl_pipeline.proofs.Edges.{edge-on}
use Rattle.pl_pipeline.proofs.SortedValues.{value_at-counted}
use Rattle.pl_invariance.specs.Ordered.{PercentilesAreBetween, MediansAreMiddles, WindowRanksAreRanks, RankCorrelationsAreBounded}
use Rattle.pl_invariance.proofs.Bounded.{bounded-pairs}
use Rattle.pl_invariance.proofs.Ring.{times-sum}

-- ---- a point between values lies above what all of them do, and below

module _ (vs : List ℤ) (percent : ℕ) (some : 0 < length vs) (few : percent ≤ 10000) where
  way : ℕ
  way = percent * (length vs - 1)

  inside : (i r : ℕ) → i ≡ way / 10000 → r ≡ way - way / 10000 * 10000 → (i < length vs) × (0 < r → i + 1 < length vs) × (r < 10000)
  unfolding way
  inside i r e f =
      let most : percent * (length vs - 1) ≤ 10000 * (length vs - 1) = mul-le percent (length vs - 1) 10000 (length vs - 1) few (omega arith) in
      (omega (arith, most, e, some), λ h. omega (arith, most, e, f, h), omega (arith, f))

  value-has : (P : ℤ → Type 0) → All P vs → (i : ℕ) → i < length vs → P (value_at vs i)
  value-has P all i h = All-contains P vs (value_at vs i) all (value_at-counted vs i h).own

  weights : (c : ℤ) (r : ℕ) → r < 10000 → ((c *ℤ pos (10000 - r)) +ℤ (c *ℤ pos r)) ≡ c *ℤ pos 10000
  weights c r h =
      let all : pos (10000 - r) +ℤ pos r ≡ pos 10000 = omega (arith, ints, h) in
      sym (times-sum c (pos (10000 - r)) (pos r)) ∙ ap (λ z. c *ℤ z) all

  edge-from : (c : ℤ) → All (λ x. c ≤ℤ x) vs → (c *ℤ pos 10000) ≤ℤ edge vs (percent * (length vs - 1)) 10000
  unfolding way
  edge-from c all =
      let i = way / 10000 in
      let r = way - way / 10000 * 10000 in
      let in_list = inside i r refl refl in
      let low = times-le c (value_at vs i) (10000 - r) (value-has (λ x. c ≤ℤ x) all i in_list.0) in
      let next : (c *ℤ pos r) ≤ℤ (value_at vs (i + 1) *ℤ pos r) = elim (cases_lt 0 r) [
        | inl h ↦ times-le c (value_at vs (i + 1)) r (value-has (λ x. c ≤ℤ x) all (i + 1) (in_list.1 h))
        | inr z ↦ (let none : r ≡ 0 = omega (arith, z) in rw none (omega (arith, ints)))
      ] in
      omega (arith, ints, weights c r in_list.2, low, next)

  edge-to : (c : ℤ) → All (λ x. x ≤ℤ c) vs → edge vs (percent * (length vs - 1)) 10000 ≤ℤ (c *ℤ pos 10000)
  unfolding way
  edge-to c all =
      let i = way / 10000 in
      let r = way - way / 10000 * 10000 in
      let in_list = inside i r refl refl in
      let low = times-le (value_at vs i) c (10000 - r) (value-has (λ x. x ≤ℤ c) all i in_list.0) in
      let next : (value_at vs (i + 1) *ℤ pos r) ≤ℤ (c *ℤ pos r) = elim (cases_lt 0 r) [
        | inl h ↦ times-le (value_at vs (i + 1)) c r (value-has (λ x. x ≤ℤ c) all (i + 1) (in_list.1 h))
        | inr z ↦ (let none : r ≡ 0 = omega (arith, z) in rw none (omega (arith, ints)))
      ] in
      omega (arith, ints, weights c r in_list.2, low, next)

  module _ (small : All (λ v. unsigned_abs v ≤ LIMIT) vs) where
    rounded : ℤ
    rounded = div_round (edge vs (percent * (length vs - 1)) 10000) 10000

    near : IsNearest (edge vs (percent * (length vs - 1)) 10000) 10000 rounded
    unfolding rounded
    near = div_round-is_nearest (edge vs (percent * (length vs - 1)) 10000) 10000 (omega arith)

    from : (c : ℤ) → All (λ x. c ≤ℤ x) vs → c ≤ℤ rounded
    from c all = omega (arith, ints, near.near, edge-from c all)

    to : (c : ℤ) → All (λ x. x ≤ℤ c) vs → rounded ≤ℤ c
    to c all = omega (arith, ints, near.near, edge-to c all)

    percentile-is : percentile percent vs ≡ rounded
    unfolding quot rounded
    percentile-is =
        let low = from (neg_ℤ (pos LIMIT)) (λ k d h. (let s = small k d h in omega (arith, ints, s))) in
        let high = to (pos LIMIT) (λ k d h. (let s = small k d h in omega (arith, ints, s))) in
        to_cell-within rounded (omega (arith, ints, low, high))

    pub percentile-between : (l g : ℤ) → All (λ x. l ≤ℤ x) vs → All (λ x. x ≤ℤ g) vs → (l ≤ℤ percentile percent vs) × (percentile percent vs ≤ℤ g)
    percentile-between l g lows highs = let p = percentile-is in (omega (arith, ints, p, from l lows), omega (arith, ints, p, to g highs))

least-of : (vs : List ℤ) → 0 < length vs → All (λ x. unwrap_or (reduce int_min vs) MISSING ≤ℤ x) vs
least-of [] h = absurd (omega arith)
least-of (y ∷ ys) h = let low = fold-int_min_bounds y ys (fold int_min y ys) refl in All-cons (λ x. fold int_min y ys ≤ℤ x) y ys low.0 low.1

greatest-of : (vs : List ℤ) → 0 < length vs → All (λ x. x ≤ℤ unwrap_or (reduce int_max vs) MISSING) vs
greatest-of [] h = absurd (omega arith)
greatest-of (y ∷ ys) h = let high = fold-int_max_bounds y ys (fold int_max y ys) refl in All-cons (λ x. x ≤ℤ fold int_max y ys) y ys high.0 high.1

present-small : (xs : List ℤ) → All IsCell xs → All (λ v. unsigned_abs v ≤ LIMIT) (present_values xs)
present-small xs cells k d h = present-within _ (All-filter is_present IsCell xs cells k d h) (filter_passes is_present xs k d h)

formula-is : (percent : ℕ) (xs ys zs : List ℤ) → 0 < count xs → formula (WindowPercentile percent) xs ys zs ≡ percentile percent (present_values xs)
unfolding formula
formula-is percent xs ys zs some = let no : nat_eq (count xs) 0 ≡ false = ne_eqb _ _ (λ e. omega (arith, e, some)) in rw no refl

pub percentiles-are-between : PercentilesAreBetween
percentiles-are-between percent xs ys zs cells few some =
    rw (formula-is percent xs ys zs some)
    (percentile-between (present_values xs) percent some few (present-small xs cells) (least xs) (greatest xs) (least-of (present_values xs) some) (greatest-of (present_values xs) some))

-- ---- the middle

whole-quot : (v t : ℤ) → unsigned_abs v ≤ LIMIT → t ≡ v *ℤ pos 10000 → quot t (pos 10000) ≡ v
unfolding quot
whole-quot v t small e =
    let n = div_round-is_nearest t 10000 (omega arith) in
    let q : div_round t 10000 ≡ v = omega (arith, ints, n.near, e) in
    ap to_cell q ∙ to_cell-within v small

pub medians-are-middles : MediansAreMiddles
medians-are-middles n xs ys zs cells odd =
    let vs = present_values xs in
    let some : 0 < count xs = omega (arith, odd) in
    let way : 5000 * (length vs - 1) ≡ n * 10000 + 0 = omega (arith, odd) in
    let v : unsigned_abs (value_at vs n) ≤ LIMIT =
    All-contains (λ x. unsigned_abs x ≤ LIMIT) vs (value_at vs n) (present-small xs cells) (value_at-counted vs n (omega (arith, odd))).own in
    formula-is 5000 xs ys zs some ∙ whole-quot (value_at vs n) (edge vs (5000 * (length vs - 1)) 10000) v (edge-on vs 10000 n (5000 * (length vs - 1)) (omega arith) way)

-- ---- ranks

doubled : (a n : ℕ) → quot (pos (2 * a)) (pos (2 * n)) ≡ quot (pos a) (pos n)
unfolding quot div_round
doubled a zero = refl
doubled a (suc n) =
    let twice : 2 * suc n ≡ suc (2 * n + 1) = omega arith in
    let top : 2 * (2 * a) + 2 * suc n ≡ 2 * (2 * a + suc n) = omega arith in
    let same : (2 * (2 * a) + 2 * suc n) / (2 * (2 * suc n)) ≡ (2 * a + suc n) / (2 * suc n) =
    ap (λ t. t / (2 * (2 * suc n))) top ∙ mul-div-mul_left (2 * a + suc n) (2 * suc n) (omega arith) in
    ap (λ m. quot (pos (2 * a)) (pos m)) twice ∙ ap (λ q. to_cell (pos q)) (ap (λ m. (2 * (2 * a) + m) / (2 * m)) (sym twice) ∙ same)

pub window-ranks-are-ranks : WindowRanksAreRanks
unfolding formula cross
window-ranks-are-ranks list a xs ys zs same there =
    let x = newest xs in
    let vs = present_values xs in
    let half : twice_rank x vs * MILLION ≡ 2 * (count_less x vs * MILLION + (count_equal x vs + 1) * MILLION / 2) = omega arith in
    let long : length vs ≡ length list = ap length (sym same) ∙ length-map list (λ e. e.1) in
    rw there (ap (λ n. quot (pos n) (pos (2 * length vs))) half ∙ doubled (count_less x vs * MILLION + (count_equal x vs + 1) * MILLION / 2) (length vs)
    ∙ ap₂ (λ (us : List ℤ) (n : ℕ). quot (pos (count_less x us * MILLION + (count_equal x us + 1) * MILLION / 2)) (pos n)) (sym same) long)

pub rank-correlations-are-bounded : RankCorrelationsAreBounded
unfolding formula
rank-correlations-are-bounded xs ys zs = bounded-pairs _
