-- Adjustments by column and day.
use Rattle.std.proofs.Common.{◌≡◌, ℕ, ◌+◌, ◌≤◌, ◌==◌, nat_lt, Bool, true, false, cond, not, ℤ, ◌≤ℤ◌, List, [], ◌∷◌, ◌++◌, map, filter, length, get_or, AllPairs, refl, sym, ◌∙◌, ap, arith}
use Rattle.std.specs.List.Sorted.{IsPermutation, IsSorted, ties}
use Rattle.std.proofs.lemmas.List.Sorted.{IsPermutation-append_comm, IsPermutation-append_left, IsPermutation-append_right, IsPermutation-refl, IsPermutation-trans}
use Rattle.std.specs.Int.RustNames.{int_lt}
use Rattle.std.specs.declared.cmp.Ordering.TheVariants.{Less, Equal, Greater}
use Rattle.std.specs.Ordering.{is_lt, nat_cmp, int_cmp, int_eq, ordering_then}
use Rattle.std.proofs.lemmas.Bool.{and_parts, not-true}
use Rattle.std.proofs.lemmas.Bool.Decides.{nat_tests}
use Rattle.std.proofs.lemmas.Int.{ints}
use Rattle.std.proofs.lemmas.List.{get_or-map, length-map}
use Rattle.std.proofs.lemmas.List.Elements.{filter-append, filter_passes}
use Rattle.std.proofs.lemmas.List.Kept.{AllPairs-filter, IsSortedBy-filter}
use Rattle.pl_spec.specs.declared.AssetRow.{AssetRow}
use Rattle.pl_spec.specs.World.{Adjustment}
use Rattle.pl_spec.specs.Order.{acts_at, by_day}
use Rattle.pl_spec.specs.Parts.{ColumnAdjustment}
use Rattle.pl_spec.proofs.ByDay.{by_day-is_by_day}
use Rattle.pl_spec.proofs.Lists.{filter-map, filter-filter, filter-swap}
use Rattle.pl_adjust.specs.Columns.{IsByPlace, by_place, in_column, insert_at_place, place_cmp}
use Rattle.pl_adjust.proofs.Kept.{in_front, front_order, not_in_front}
use Rattle.pl_adjust.proofs.OneOrder.{NoneBelow, Rises, none_below_lower, one_order, sorted_from_rises}

-- ---- what ties has one column and one day

one_place : (a b : ℕ) (p q : ℤ) → is_lt (ordering_then (nat_cmp b a) (int_cmp q p)) ≡ false → is_lt (ordering_then (nat_cmp a b) (int_cmp p q)) ≡ false → (a ≡ b) × (p ≡ q)
one_place a b p q e f =
    let g = not_in_front a b p q e in
    let h = not_in_front b a q p f in
    let col : a ≡ b = omega (arith, g.0, h.0) in
    let low : p ≤ℤ q = g.1 col in
    let high : q ≤ℤ p = h.1 (sym col) in
    (col, omega (arith, ints))

pub tied : (z x : ColumnAdjustment) → ties in_front z x ≡ true → (z.col ≡ x.col) × (z.event.day ≡ x.event.day)
tied z x t =
    let both = and_parts (not (in_front z x)) (not (in_front x z)) t in
    one_place z.col x.col z.event.day x.event.day (not-true (in_front x z) both.1) (not-true (in_front z x) both.0)

stays_behind : (a b : ℕ) (p q : ℤ) → a ≤ b → p ≤ℤ q → is_lt (ordering_then (nat_cmp b a) (int_cmp q p)) ≡ false
stays_behind a b p q h l = here (nat_lt b a) (b == a) (int_lt q p) refl refl refl
  where
    here : (x y z : Bool) → nat_lt b a ≡ x → (b == a) ≡ y → int_lt q p ≡ z → is_lt (ordering_then (cond x Less (cond y Equal Greater)) (cond z Less (cond (int_lt p q) Greater Equal))) ≡ false
    here true y z e f g = absurd (grind (arith, nat_tests))
    here false false z e f g = refl
    here false true true e f g = absurd (grind (arith, ints))
    here false true false e f g = equal (int_lt p q)
      where
        equal : (w : Bool) → is_lt (cond w Greater Equal) ≡ false
        equal true = refl
        equal false = refl

module _ (assets : List AssetRow) where
  pub by_day-ties : (z : ColumnAdjustment) (ws : List Adjustment) → filter (ties in_front z) (map (in_column assets) (by_day ws)) ≡ filter (ties in_front z) (map (in_column assets) ws)
  by_day-ties z ws =
      filter-map (ties in_front z) (in_column assets) (by_day ws)
      ∙ ap (map (in_column assets)) (sym (filter-filter kept (acts_at z.event.day) on_day (by_day ws)) ∙ ap (filter kept) ((by_day-is_by_day ws).same z.event.day) ∙ filter-filter kept (acts_at z.event.day) on_day ws)
      ∙ sym (filter-map (ties in_front z) (in_column assets) ws)
    where
      kept : Adjustment → Bool
      kept x = ties in_front z (in_column assets x)

      on_day : (x : Adjustment) → ties in_front z (in_column assets x) ≡ true → acts_at z.event.day x ≡ true
      on_day x t = let same : z.event.day ≡ x.event.day = (tied z (in_column assets x) t).1 in same_day x.event.day z.event.day (sym same)
        where
          same_day : (p q : ℤ) → p ≡ q → int_eq p q ≡ true
          same_day p q e = grind (arith, ints)

-- ---- rows by place, computed

-- none that ties with z is before another
apart : (z x y : ColumnAdjustment) → ties in_front z x ≡ true → ties in_front z y ≡ true → in_front y x ≡ false
apart z x y e f =
    let p = tied z x e in
    let q = tied z y f in
    let col : x.col ≤ y.col = omega (arith, sym p.0 ∙ q.0) in
    let day : x.event.day ≤ℤ y.event.day = (let same : x.event.day ≡ y.event.day = sym p.1 ∙ q.1 in omega (arith, ints)) in
    stays_behind x.col y.col x.event.day y.event.day col day

place-ties : (z x : ColumnAdjustment) (ys : List ColumnAdjustment) → filter (ties in_front z) (insert_at_place x ys) ≡ filter (ties in_front z) (x ∷ ys)
place-ties z x [] = refl
place-ties z x (y ∷ ys) = here (in_front y x) refl (place-ties z x ys)
  where
    t : ColumnAdjustment → Bool
    t = ties in_front z

    here : (b : Bool) → in_front y x ≡ b → filter t (insert_at_place x ys) ≡ filter t (x ∷ ys) → filter t (cond b (y ∷ insert_at_place x ys) (x ∷ y ∷ ys)) ≡ filter t (x ∷ y ∷ ys)
    here false e rest = refl
    here true e rest = swap (t x) (t y) refl refl rest
      where
        swap : (b c : Bool) → t x ≡ b → t y ≡ c → filter t (insert_at_place x ys) ≡ filter t (x ∷ ys)
            → cond c (y ∷ filter t (insert_at_place x ys)) (filter t (insert_at_place x ys)) ≡ cond b (x ∷ cond c (y ∷ filter t ys) (filter t ys)) (cond c (y ∷ filter t ys) (filter t ys))
        swap true true p q rest = let bad : true ≡ false = sym e ∙ apart z x y p q in absurd (cc)
        swap true false p q rest = rw p at rest
        swap false true p q rest = ap (λ l. y ∷ l) (rw p at rest)
        swap false false p q rest = rw p at rest

pub by_place-ties : (z : ColumnAdjustment) (xs : List ColumnAdjustment) → filter (ties in_front z) (by_place xs) ≡ filter (ties in_front z) xs
unfolding by_place
by_place-ties z [] = refl
by_place-ties z (x ∷ xs) = place-ties z x (by_place xs) ∙ ap (λ l. cond (ties in_front z x) (x ∷ l) l) (by_place-ties z xs)

rises-place : (x : ColumnAdjustment) (ys : List ColumnAdjustment) → Rises in_front front_order ys → Rises in_front front_order (insert_at_place x ys)
rises-place x [] r = (tt, tt)
rises-place x (y ∷ ys) r = here (in_front y x) refl (rises-place x ys r.1)
  where
    not_below : (zs : List ColumnAdjustment) → NoneBelow in_front front_order y zs → in_front x y ≡ false → NoneBelow in_front front_order y (insert_at_place x zs)
    not_below [] n e = (e, tt)
    not_below (z ∷ zs) n e = place (in_front z x) (not_below zs n.1 e)
      where
        place : (b : Bool) → NoneBelow in_front front_order y (insert_at_place x zs) → NoneBelow in_front front_order y (cond b (z ∷ insert_at_place x zs) (x ∷ z ∷ zs))
        place true rest = (n.0, rest)
        place false rest = (e, n)

    here : (b : Bool) → in_front y x ≡ b → Rises in_front front_order (insert_at_place x ys) → Rises in_front front_order (cond b (y ∷ insert_at_place x ys) (x ∷ y ∷ ys))
    here true t rest = (not_below ys r.0 (front_order.one_way y x t), rest)
    here false t rest = ((t, none_below_lower in_front front_order x y ys t r.0), r)

rises-by_place : (xs : List ColumnAdjustment) → Rises in_front front_order (by_place xs)
unfolding by_place
rises-by_place [] = tt
rises-by_place (x ∷ xs) = rises-place x (by_place xs) (rises-by_place xs)

pub sorted-by_place : (xs : List ColumnAdjustment) → IsSorted place_cmp (by_place xs)
sorted-by_place xs = sorted_from_rises in_front front_order (by_place xs) (rises-by_place xs)

-- the order has one answer
pub by_place_is : (xs ys : List ColumnAdjustment) → IsByPlace xs ys → ys ≡ by_place xs
by_place_is xs ys h = one_order in_front front_order ys (by_place xs) h.sorted (sorted-by_place xs) (λ z. h.stable z ∙ sym (by_place-ties z xs))

pub by_place-kept : (xs more : List ColumnAdjustment) → by_place (by_place xs ++ more) ≡ by_place (xs ++ more)
by_place-kept xs more =
    one_order in_front front_order _ _ (sorted-by_place (by_place xs ++ more)) (sorted-by_place (xs ++ more)) (λ z.
    by_place-ties z (by_place xs ++ more)
    ∙ filter-append (ties in_front z) (by_place xs) more
    ∙ ap (λ l. l ++ filter (ties in_front z) more) (by_place-ties z xs)
    ∙ sym (filter-append (ties in_front z) xs more)
    ∙ sym (by_place-ties z (xs ++ more)))

-- in one column it is the order by day
module _ (assets : List AssetRow) (q : ColumnAdjustment → Bool) (one : (x y : ColumnAdjustment) → q x ≡ true → q y ≡ true → x.col ≡ y.col) (ws : List Adjustment) where
  abbrev columns : List ColumnAdjustment
  columns = map (in_column assets) ws

  abbrev days : List ColumnAdjustment
  days = map (in_column assets) (by_day ws)

  rising : AllPairs (λ x y. x.event.day ≤ℤ y.event.day) days
  rising i j d h l =
      let none : Adjustment = record { sid = 0; event = d.event } in
      let many : length (map (in_column assets) (by_day ws)) ≡ length (by_day ws) = length-map (by_day ws) (in_column assets) in
      rw (get_or-map (in_column assets) (by_day ws) i none d (omega arith), get_or-map (in_column assets) (by_day ws) j none d (omega arith))
      ((by_day-is_by_day ws).rising i j none h (omega arith))

  days_rise : IsSorted place_cmp (filter q days)
  days_rise k d low h =
      let first = filter_passes q days k d (omega arith) in
      let next = filter_passes q days (k + 1) d h in
      let x : ColumnAdjustment = get_or (filter q days) k d in
      let y : ColumnAdjustment = get_or (filter q days) (k + 1) d in
      stays_behind x.col y.col x.event.day y.event.day (omega (arith, one x y first next)) (AllPairs-filter (λ x y. x.event.day ≤ℤ y.event.day) q days rising k (k + 1) d (omega arith) h)

  pub by_place-column : filter q (by_place columns) ≡ filter q days
  by_place-column =
      one_order in_front front_order (filter q (by_place columns)) (filter q days) (IsSortedBy-filter in_front front_order q (by_place columns) (sorted-by_place columns)) days_rise (λ z.
      filter-swap (ties in_front z) q (by_place columns)
      ∙ ap (filter q) (by_place-ties z columns ∙ sym (by_day-ties assets z ws))
      ∙ sym (filter-swap (ties in_front z) q days))

-- nothing is lost by it
place-permutes : (x : ColumnAdjustment) (ys : List ColumnAdjustment) → IsPermutation (x ∷ ys) (insert_at_place x ys)
place-permutes x [] = IsPermutation-refl (x ∷ [])
place-permutes x (y ∷ ys) = here (in_front y x) (place-permutes x ys)
  where
    here : (b : Bool) → IsPermutation (x ∷ ys) (insert_at_place x ys) → IsPermutation (x ∷ y ∷ ys) (cond b (y ∷ insert_at_place x ys) (x ∷ y ∷ ys))
    here true rest =
        IsPermutation-trans (x ∷ y ∷ ys) (y ∷ x ∷ ys) (y ∷ insert_at_place x ys) (IsPermutation-append_left ys (x ∷ y ∷ []) (y ∷ x ∷ []) (IsPermutation-append_comm (x ∷ []) (y ∷ [])))
        (IsPermutation-append_right (y ∷ []) (x ∷ ys) (insert_at_place x ys) rest)
    here false rest = IsPermutation-refl (x ∷ y ∷ ys)

pub by_place-permutes : (xs : List ColumnAdjustment) → IsPermutation xs (by_place xs)
unfolding by_place
by_place-permutes [] = IsPermutation-refl []
by_place-permutes (x ∷ xs) =
    IsPermutation-trans (x ∷ xs) (x ∷ by_place xs) (insert_at_place x (by_place xs)) (IsPermutation-append_right (x ∷ []) xs (by_place xs) (by_place-permutes xs)) (place-permutes x (by_place xs))
