-- What a cross-section gives is a cell.
use Rattle.std.proofs.Common.{◌≡◌, ℕ, suc, ◌+◌, ◌-◌, ◌*◌, ◌/◌, ◌≤◌, ◌==◌, Bool, true, false, ◌&&◌, ◌||◌, if◌then◌else◌, nat_lt, ℤ, pos, List, [], ◌∷◌, length, filter, refl, sym, ap, subst, ◌∙◌, ◌<◌, arith, inl, inr}
use Rattle.std.specs.List.{All, list_any, range_with_len}
use Rattle.std.specs.Int.{int_max, int_min}
use Rattle.std.specs.Int.RustNames.{int_lt}
use Rattle.std.proofs.lemmas.Bool.{cases_lt}
use Rattle.std.specs.Ordering.{int_eq}
use Rattle.std.proofs.lemmas.List.{length-map}
use Rattle.std.proofs.lemmas.List.Sums.{count_by-le-length, length-filter}
use Rattle.std.proofs.lemmas.List.FromFn.{length-range_with_len}
use Rattle.pl_spec.specs.Limits.{most_assets}
use Rattle.pl_spec.specs.Rounding.{MISSING, MILLION, LIMIT, IsCell}
use Rattle.pl_pipeline.specs.Kind.{CrossKind}
use Rattle.pl_pipeline.specs.Kind.CrossKind.{Rank, Demean, ZScore, Quantiles, PeerCount, Winsorize, Scale, Summarize}
use Rattle.pl_pipeline.specs.declared.Summary.{Summary}
use Rattle.pl_pipeline.specs.declared.Summary.TheVariants.{Mean, StdDev, Sum, Least, Greatest, Median, Percentile, NotNullCount}
use Rattle.pl_spec.specs.Cells.{is_true}
use Rattle.pl_pipeline.specs.declared.RankMethod.{RankMethod}
use Rattle.pl_pipeline.specs.declared.RankMethod.TheVariants.{Ordinal, Min, Max, Dense, Average}
use Rattle.pl_pipeline.specs.declared.RankOrder.{RankOrder}
use Rattle.pl_pipeline.specs.Cross.{Entry, values, earlier_same, distinct_values, rank, bin_of, cross, counts_at, entries_for, array_at, if_some, summary, is_for_all}
use Rattle.pl_pipeline.specs.Order.{precedes, preceding, count_equal, value_at}
use Rattle.pl_pipeline.specs.Value.{is_cross_filter}
use Rattle.pl_pipeline.proofs.Cells.{truth-cell, chosen-has, quot-cell, sub-cell, to_cell-cell}
use Rattle.pl_pipeline.proofs.SortedValues.{value_at-counted}
use Rattle.pl_spec.proofs.Members.{In, contains-in, in-map}
use Rattle.pl_cross.proofs.Members.{in-filter, in-range}
use Rattle.pl_cross.proofs.Sums.{past-end}
use Rattle.pl_cross.specs.Section.{IsRight}
use Rattle.pl_cross.specs.Listing.{labels_for}
use Rattle.pl_cross.specs.Arrays.{section_at, empty_number}

small-cell : (n : ℕ) → n ≤ LIMIT → IsCell (pos n)
small-cell n h = inr h

distinct-few : (vs : List ℤ) → length (distinct_values vs) ≤ length vs
distinct-few [] = omega arith
distinct-few (v ∷ vs) = here (list_any (int_eq v) vs) (distinct-few vs)
  where
    here : (b : Bool) → length (distinct_values vs) ≤ length vs → length (if b then distinct_values vs else v ∷ distinct_values vs) ≤ suc (length vs)
    here true h = omega arith
    here false h = omega arith

module _ (list : List Entry) (a : ℕ) (x : ℤ) (few : length list ≤ most_assets) where
  long : length (values list) ≡ length list
  long = length-map list (λ (e : Entry). e.1)

  before-few : (order : RankOrder) → preceding order x (values list) ≤ most_assets
  before-few order = let c = count_by-le-length (λ v. precedes order v x) (values list) in let l = long in omega arith

  same-few : count_equal x (values list) ≤ most_assets
  same-few = let c = count_by-le-length (int_eq x) (values list) in let l = long in omega arith

  rank-cell : (m : RankMethod) (order : RankOrder) → IsCell (pos (rank m order list a x))
  rank-cell Ordinal order =
      let b = before-few order in
      let c : earlier_same a x list ≤ length list = count_by-le-length (λ (e : Entry). int_eq x e.1 && nat_lt e.0 a) list in
      let l : (preceding order x (values list) + earlier_same a x list + 1) * MILLION ≤ LIMIT = omega arith in
      small-cell _ l
  rank-cell Min order = let b = before-few order in let l : (preceding order x (values list) + 1) * MILLION ≤ LIMIT = omega arith in small-cell _ l
  rank-cell Max order = let b = before-few order in let c = same-few in let l : (preceding order x (values list) + count_equal x (values list)) * MILLION ≤ LIMIT = omega arith in small-cell _ l
  rank-cell Dense order =
      let b = count_by-le-length (λ v. precedes order v x) (distinct_values (values list)) in
      let c = distinct-few (values list) in
      let e = long in
      let l : (preceding order x (distinct_values (values list)) + 1) * MILLION ≤ LIMIT = omega arith in
      small-cell _ l
  rank-cell Average order =
      let b = before-few order in
      let c = same-few in
      let l : preceding order x (values list) * MILLION + (count_equal x (values list) + 1) * MILLION / 2 ≤ LIMIT = omega arith in
      small-cell _ l

  bin-cell : (bins : ℕ) → bins ≤ 100 → IsCell (pos (bin_of bins (values list) x))
  bin-cell bins h =
      let c : bin_of bins (values list) x ≤ length (range_with_len 1 (bins - 1)) = count_by-le-length _ (range_with_len 1 (bins - 1)) in
      let r = length-range_with_len 1 (bins - 1) in
      let l : bin_of bins (values list) x ≤ LIMIT = omega arith in
      small-cell _ l

-- the value in a place of cells
value_at-cell : (vs : List ℤ) (i : ℕ) → ((v : ℤ) → In v vs → IsCell v) → IsCell (value_at vs i)
value_at-cell vs i cells = elim (cases_lt i (length vs)) [
  | inl l ↦ cells (value_at vs i) (contains-in vs (value_at vs i) (value_at-counted vs i l).own)
  | inr g ↦ subst IsCell (sym (past-end vs i g)) (inr (omega arith))
]

-- the greater and the lesser of two are one of them
most-has : (P : ℤ → Type 0) (x y : ℤ) → P x → P y → P (int_max x y)
most-has P x y h k = chosen-has P (int_lt y x) x y h k

least-has : (P : ℤ → Type 0) (x y : ℤ) → P x → P y → P (int_min x y)
least-has P x y h k = chosen-has P (int_lt y x) y x k h

some-cell : (vs : List ℤ) (v : ℤ) → IsCell v → IsCell (if_some vs v)
some-cell [] v h = inl refl
some-cell (x ∷ xs) v h = h

summary-cell : (told : Summary) (vs : List ℤ) → length vs ≤ most_assets → ((v : ℤ) → In v vs → IsCell v) → IsCell (summary told vs)
unfolding summary
summary-cell Mean vs few cells = quot-cell _ _
summary-cell StdDev vs few cells = some-cell vs _ (to_cell-cell _)
summary-cell Sum vs few cells = some-cell vs _ (to_cell-cell _)
summary-cell Least vs few cells = some-cell vs _ (value_at-cell vs 0 cells)
summary-cell Greatest vs few cells = some-cell vs _ (value_at-cell vs (length vs - 1) cells)
summary-cell Median vs few cells = some-cell vs _ (quot-cell _ _)
summary-cell (Percentile percent) vs few cells = some-cell vs _ (quot-cell _ _)
summary-cell NotNullCount vs few cells = let l : length vs * MILLION ≤ LIMIT = omega arith in small-cell _ l

cross-cell : (k : CrossKind) (list : List Entry) (a : ℕ) (x : ℤ) → IsRight k → length list ≤ most_assets → ((v : ℤ) → In v (values list) → IsCell v) → IsCell x → IsCell (cross k list a x)
unfolding cross
cross-cell (Rank m order) list a x r few cells own = rank-cell list a x few m order
cross-cell Demean list a x r few cells own = sub-cell _ _
cross-cell ZScore list a x r few cells own = quot-cell _ _
cross-cell (Quantiles bins) list a x r few cells own = bin-cell list a x few bins r.1
cross-cell PeerCount list a x r few cells own = let l : length list * MILLION ≤ LIMIT = omega arith in small-cell _ l
cross-cell (Winsorize low high) list a x r few cells own =
    let vs : List ℤ = values list in
    let under : IsCell (int_min (value_at vs ((high * length vs + MILLION - 1) / MILLION - 1)) x) = least-has IsCell _ x (value_at-cell vs ((high * length vs + MILLION - 1) / MILLION - 1) cells) own in
    most-has IsCell _ _ (value_at-cell vs (low * length vs / MILLION) cells) under
cross-cell Scale list a x r few cells own = quot-cell _ _
cross-cell (Summarize told) list a x r few cells own = summary-cell told (values list) (omega (arith, length-map list (λ (e : Entry). e.1))) cells
cross-cell k list a x r few cells own = truth-cell _

empty-cell : (k : CrossKind) → IsCell (empty_number k)
empty-cell k = let l : 0 ≤ LIMIT = omega arith in chosen-has IsCell (is_cross_filter k) (pos 0) MISSING (inr l) (inl refl)

entries-few : (vs keep : List ℤ) (labels : _) (i : ℕ) → length (entries_for vs keep labels i) ≤ length vs
entries-few vs keep labels i =
    let m = length-map (filter (counts_at vs keep labels i) (range_with_len 0 (length vs))) (λ j. (let e : Entry = (j, array_at vs j) in e)) in
    let f = length-filter (counts_at vs keep labels i) (range_with_len 0 (length vs)) in
    let c = count_by-le-length (counts_at vs keep labels i) (range_with_len 0 (length vs)) in
    let r = length-range_with_len 0 (length vs) in
    omega (arith, m, f, c, r)

pub section-is-cell : (k : CrossKind) (vs keep : List ℤ) (labels : _) (i : ℕ) → IsRight k → length vs ≤ most_assets → All IsCell vs → i < length vs → IsCell (section_at k vs keep labels i)
section-is-cell k vs keep labels i r few cells inside =
    let js = filter (counts_at vs keep (labels_for k vs labels) i) (range_with_len 0 (length vs)) in
    let l = entries-few vs keep (labels_for k vs labels) i in
    let m : length (entries_for vs keep (labels_for k vs labels) i) ≤ most_assets = omega arith in
    let all : (v : ℤ) → In v (values (entries_for vs keep (labels_for k vs labels) i)) → IsCell v = λ v h.
    let e = in-map (λ (f : Entry). f.1) (entries_for vs keep (labels_for k vs labels) i) v h in
    let j = in-map (λ j. (let f : Entry = (j, array_at vs j) in f)) js e.0 e.1 in
    let within = in-range 0 (length vs) j.0 (in-filter (counts_at vs keep (labels_for k vs labels) i) (range_with_len 0 (length vs)) j.0 j.1).0 in
    let is : v ≡ array_at vs j.0 = e.2 ∙ ap (λ (f : Entry). f.1) j.2 in
    subst IsCell (sym is) (cells j.0 MISSING (omega (arith, within.1))) in
    chosen-has IsCell ((is_for_all k && is_true (array_at keep i)) || list_any (λ (e : Entry). e.0 == i) (entries_for vs keep (labels_for k vs labels) i)) _ (empty_number k)
    (cross-cell k (entries_for vs keep (labels_for k vs labels) i) i (array_at vs i) r m all (cells i MISSING inside)) (empty-cell k)
