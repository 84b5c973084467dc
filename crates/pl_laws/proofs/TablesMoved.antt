-- Rows of adjustment tables in another order are the same adjustments of each asset.
use Rattle.std.proofs.Common.{◌≡◌, ◌≢◌, ℕ, ◌≤◌, ◌==◌, Bool, true, ℤ, ◌≤ℤ◌, List, [], ◌∷◌, ◌++◌, length, filter, All, AllPairs, IsPermutation, refl, sym, ◌∙◌, ap, arith}
use Rattle.std.proofs.lemmas.Bool.{eqb-true}
use Rattle.std.proofs.lemmas.List.Elements.{All-filter, filter-append, filter_passes}
use Rattle.std.proofs.lemmas.List.Kept.{AllPairs-filter}
use Rattle.std.proofs.lemmas.List.Sorted.{IsPermutation-map}
use Rattle.pl_spec.specs.declared.AdjustmentKind.{AdjustmentKind}
use Rattle.pl_spec.specs.declared.AdjustmentKind.TheVariants.{Split, Merger, Dividend}
use Rattle.pl_spec.specs.declared.AssetRow.{AssetRow}
use Rattle.pl_spec.specs.declared.RawAdjust.{RawAdjust}
use Rattle.pl_spec.specs.World.{Adjustment}
use Rattle.pl_spec.specs.Order.{IsByDay, acts_at, adjustment_in, by_day, is_of, of_table}
use Rattle.pl_spec.proofs.ByDay.{by_day-is_by_day, by_day_is_one}
use Rattle.pl_spec.proofs.Permuted.{filter-permuted, one-permuted}
use Rattle.pl_spec.proofs.Signed.{int_eq-true}
use Rattle.pl_spec.proofs.Lists.{filter-swap}
use Rattle.pl_laws.specs.PermutedLaws.{RowsHaveOwnDays, TableRowsInAnyOrder}

module _ (a : ℕ) where
  abbrev own : Adjustment → Bool
  own x = x.sid == a

  -- the adjustments of the asset on a day
  abbrev acting : ℤ → List Adjustment → List Adjustment
  acting day xs = filter (acts_at day) (filter own xs)

  abbrev Apart : Adjustment → Adjustment → Type 0
  Apart x y = x.sid ≡ y.sid → x.event.day ≢ y.event.day

  at_most_one : (day : ℤ) (xs : List Adjustment) → AllPairs Apart xs → All (λ x. own x ≡ true) xs → All (λ x. acts_at day x ≡ true) xs → length xs ≤ 1
  at_most_one day [] apart ours on = omega arith
  at_most_one day (x ∷ []) apart ours on = omega arith
  at_most_one day (x ∷ y ∷ xs) apart ours on =
      let same_sid : x.sid ≡ y.sid = eqb-true x.sid a (ours 0 x (omega arith)) ∙ sym (eqb-true y.sid a (ours 1 x (omega arith))) in
      let same_day : x.event.day ≡ y.event.day = int_eq-true x.event.day day (on 0 x (omega arith)) ∙ sym (int_eq-true y.event.day day (on 1 x (omega arith))) in
      absurd (apart 0 1 x (omega arith) (omega arith) same_sid same_day)

  table_same : (assets : List AssetRow) (kind : AdjustmentKind) (rows others : List RawAdjust) → RowsHaveOwnDays assets kind rows → IsPermutation rows others
      → (day : ℤ) → acting day (of_table assets kind rows) ≡ acting day (of_table assets kind others)
  table_same assets kind rows others apart moved day =
      let xs = of_table assets kind rows in
      let ys = of_table assets kind others in
      let still : IsPermutation xs ys = IsPermutation-map (adjustment_in kind) (filter (is_of assets) rows) (filter (is_of assets) others) (filter-permuted (is_of assets) rows others moved) in
      one-permuted (acting day xs) (acting day ys)
      (at_most_one day (acting day xs) (AllPairs-filter Apart (acts_at day) (filter own xs) (AllPairs-filter Apart own xs apart))
      (All-filter (acts_at day) (λ x. own x ≡ true) (filter own xs) (filter_passes own xs)) (filter_passes (acts_at day) (filter own xs)))
      (filter-permuted (acts_at day) (filter own xs) (filter own ys) (filter-permuted own xs ys still))

  acting-append : (day : ℤ) (xs ys : List Adjustment) → acting day (xs ++ ys) ≡ acting day xs ++ acting day ys
  acting-append day xs ys = ap (filter (acts_at day)) (filter-append own xs ys) ∙ filter-append (acts_at day) (filter own xs) (filter own ys)

  three : (day : ℤ) (xs ys zs : List Adjustment) → acting day (xs ++ ys ++ zs) ≡ acting day xs ++ acting day ys ++ acting day zs
  three day xs ys zs = acting-append day (xs ++ ys) zs ∙ ap (λ l. l ++ acting day zs) (acting-append day xs ys)

  by_day-acting : (day : ℤ) (xs : List Adjustment) → acting day (by_day xs) ≡ acting day xs
  by_day-acting day xs =
      filter-swap (acts_at day) own (by_day xs) ∙ ap (filter own) ((by_day-is_by_day xs).same day) ∙ filter-swap own (acts_at day) xs

  stand : (xs ys : List Adjustment) → ((day : ℤ) → acting day xs ≡ acting day ys) → IsByDay (filter own (by_day ys)) (filter own (by_day xs))
  stand xs ys same = record {
    rising = AllPairs-filter (λ x y. x.event.day ≤ℤ y.event.day) own (by_day xs) (by_day-is_by_day xs).rising;
    same = λ day. by_day-acting day xs ∙ same day ∙ sym (by_day-acting day ys);
  }

  own_same : (xs ys : List Adjustment) → ((day : ℤ) → acting day xs ≡ acting day ys) → filter own (by_day xs) ≡ filter own (by_day ys)
  own_same xs ys same =
      by_day_is_one (filter own (by_day ys)) (filter own (by_day xs)) (stand xs ys same)
      ∙ sym (by_day_is_one (filter own (by_day ys)) (filter own (by_day ys)) (stand ys ys (λ day. refl)))

pub table-rows-in-any-order : TableRowsInAnyOrder
table-rows-in-any-order assets s m d s2 m2 d2 own_s own_m own_d moved_s moved_m moved_d a =
    own_same a (of_table assets Split s ++ of_table assets Merger m ++ of_table assets Dividend d) (of_table assets Split s2 ++ of_table assets Merger m2 ++ of_table assets Dividend d2)
    (λ day. three a day (of_table assets Split s) (of_table assets Merger m) (of_table assets Dividend d)
    ∙ rw (table_same a assets Split s s2 own_s moved_s day, table_same a assets Merger m m2 own_m moved_m day, table_same a assets Dividend d d2 own_d moved_d day) refl
    ∙ sym (three a day (of_table assets Split s2) (of_table assets Merger m2) (of_table assets Dividend d2)))
