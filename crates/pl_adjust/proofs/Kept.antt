-- Adjustments by column.
use Rattle.std.proofs.Common.{◌≡◌, ℕ, ◌+◌, ◌-◌, ◌<◌, ◌≤◌, ◌==◌, nat_lt, nat_le, min, Bool, true, false, ℤ, pos, ◌≤ℤ◌, List, [], ◌∷◌, map, filter, length, get_or, take, drop, All, AllPairs, refl, sym, ◌∙◌, ap, arith, inl, inr}
use Rattle.std.specs.Cmp.{IsStrictWeakOrder}
use Rattle.std.specs.Int.RustNames.{int_lt}
use Rattle.std.specs.List.Sorted.{IsNonDecreasing, IsPartitionPoint}
use Rattle.std.specs.Ordering.{is_lt, nat_cmp, int_cmp, ordering_then}
use Rattle.std.proofs.lemmas.Bool.{cases_lt}
use Rattle.std.proofs.lemmas.Bool.Decides.{nat_tests}
use Rattle.std.proofs.lemmas.Cmp.{nat_cmp_total, int_cmp_total, on_total, then_total}
use Rattle.std.proofs.lemmas.Int.{ints}
use Rattle.std.proofs.lemmas.List.{length-drop, length-take, get_or-drop, get_or-take, take-map, drop-map}
use Rattle.std.proofs.lemmas.List.Elements.{All-filter, All-map}
use Rattle.std.proofs.lemmas.List.Sorted.{ranks_by, sorted_far}
use Rattle.std.proofs.lemmas.Simd.{get_or-zip2, length-zip2}
use Rattle.pl_spec.specs.declared.AdjustmentKind.TheVariants.{Split}
use Rattle.pl_spec.specs.Parts.{ColumnAdjustment}
use Rattle.pl_adjust.specs.declared.adjust.Adjust.{Adjust}
use Rattle.pl_adjust.specs.declared.adjust.Change.TheVariants.{Scale}
use Rattle.pl_adjust.specs.Events.{PutCells, PutsCell, event_of}
use Rattle.pl_adjust.specs.Columns.{AreKept, events_at, in_columns, place_cmp}
use Rattle.pl_adjust.proofs.Runs.{filter-run}

-- one adjustment stands before another
abbrev pub in_front : ColumnAdjustment → ColumnAdjustment → Bool
in_front x y = is_lt (place_cmp x y)

pub front_order : IsStrictWeakOrder in_front
front_order = ranks_by (then_total (on_total (λ (x : ColumnAdjustment). x.col) nat_cmp_total) (on_total (λ (x : ColumnAdjustment). x.event.day) int_cmp_total)) (λ x. x)

pub not_in_front : (a b : ℕ) (p q : ℤ) → is_lt (ordering_then (nat_cmp b a) (int_cmp q p)) ≡ false → (a ≤ b) × (a ≡ b → p ≤ℤ q)
not_in_front a b p q h = here (nat_lt b a) (b == a) (int_lt q p) refl refl refl
  where
    here : (l e d : Bool) → nat_lt b a ≡ l → (b == a) ≡ e → int_lt q p ≡ d → (a ≤ b) × (a ≡ b → p ≤ℤ q)
    here true e d u v w = let bad : true ≡ false = rw u at h in absurd (cc)
    here false false d u v w = (grind (arith, nat_tests), λ same. absurd (grind (arith, nat_tests)))
    here false true true u v w = let bad : true ≡ false = rw (u, v, w) at h in absurd (cc)
    here false true false u v w = (grind (arith, nat_tests), λ same. grind (arith, ints))

pub length-in_columns : (cols : List ℕ) (xs : List Adjust) → length xs ≡ length cols → length (in_columns cols xs) ≡ length cols
length-in_columns cols xs h = length-zip2 (λ col x. record { col = col; event = event_of x }) cols xs (sym h)

-- any adjustment
blank : Adjust
blank = record { kind = Split; day = pos 0; change = Scale (record { num = 1; den = 1 }) }

placed_at : (cols : List ℕ) (xs : List Adjust) → length xs ≡ length cols → (k : ℕ) (d : ColumnAdjustment) (c : ℕ) (e : Adjust) → k < length cols
    → get_or (in_columns cols xs) k d ≡ record { col = get_or cols k c; event = event_of (get_or xs k e) }
placed_at cols xs h k d c e l = get_or-zip2 (λ col x. record { col = col; event = event_of x }) cols xs k c e d l (omega arith)

col_at : (cols : List ℕ) (xs : List Adjust) → length xs ≡ length cols → (k : ℕ) (d : ColumnAdjustment) (e : ℕ) → k < length cols → (get_or (in_columns cols xs) k d).col ≡ get_or cols k e
col_at cols xs h k d e l = ap (λ (x : ColumnAdjustment). x.col) (placed_at cols xs h k d e blank l)

day_at : (cols : List ℕ) (xs : List Adjust) → length xs ≡ length cols → (k : ℕ) (d : ColumnAdjustment) (e : Adjust) → k < length cols → (get_or (in_columns cols xs) k d).event.day ≡ (get_or xs k e).day
day_at cols xs h k d e l = ap (λ (x : ColumnAdjustment). x.event.day) (placed_at cols xs h k d 0 e l)

events-in_columns : (cols : List ℕ) (xs : List Adjust) → length xs ≡ length cols → map (λ (x : ColumnAdjustment). x.event) (in_columns cols xs) ≡ map event_of xs
events-in_columns [] [] h = refl
events-in_columns [] (x ∷ xs) h = absurd (omega arith)
events-in_columns (c ∷ cs) [] h = absurd (omega arith)
events-in_columns (c ∷ cs) (x ∷ xs) h = ap (λ l. event_of x ∷ l) (events-in_columns cs xs (omega arith))

-- what overwrites a cell is one, in each column
pub cells_at : (xs : List ColumnAdjustment) (col : ℕ) → All (λ x. PutsCell x.event) xs → PutCells (events_at xs col)
cells_at xs col all =
    All-map PutsCell (λ (x : ColumnAdjustment). x.event) (filter (λ x. x.col == col) xs) (All-filter (λ x. x.col == col) (λ (x : ColumnAdjustment). PutsCell x.event) xs all)

-- any adjustment of a column
any_of : ℕ → ColumnAdjustment
any_of col = record { col = col; event = event_of blank }

module _ (cols : List ℕ) (xs : List Adjust) (kept : AreKept cols xs) where
  in_turn : (i j : ℕ) (d : ColumnAdjustment) → i ≤ j → j < length cols
      → ((get_or (in_columns cols xs) i d).col ≤ (get_or (in_columns cols xs) j d).col)
      × ((get_or (in_columns cols xs) i d).col ≡ (get_or (in_columns cols xs) j d).col → (get_or (in_columns cols xs) i d).event.day ≤ℤ (get_or (in_columns cols xs) j d).event.day)
  in_turn i j d h l =
      let long : length (in_columns cols xs) ≡ length cols = length-in_columns cols xs kept.as_many in
      not_in_front _ _ _ _ (sorted_far in_front front_order (in_columns cols xs) kept.sorted i j d h (omega arith))

  pub cols_rise : IsNonDecreasing cols
  cols_rise i j e h l =
      let first = col_at cols xs kept.as_many i (any_of e) e (omega arith) in
      let second = col_at cols xs kept.as_many j (any_of e) e l in
      omega (arith, (in_turn i j (any_of e) h l).0)

  -- the adjustments of a column stand from one place up to another
  module _ (col from to : ℕ) (start : IsPartitionPoint (λ c. nat_lt c col ≡ true) (λ c. nat_lt c col ≡ false) cols from)
      (end : IsPartitionPoint (λ c. nat_le c col ≡ true) (λ c. nat_le c col ≡ false) cols to) (from_in : from ≤ length cols) (to_in : to ≤ length cols) where
    pub start_first : from ≤ to
    start_first = elim (cases_lt to from) [ inl l ↦ absurd (both (start.0 to 0 (omega arith) l) (end.1 to 0 (omega arith) (omega arith))) | inr g ↦ g ]
      where
        both : nat_lt (get_or cols to 0) col ≡ true → nat_le (get_or cols to 0) col ≡ false → ⊥
        both t u = grind (arith, nat_tests)

    below : (k : ℕ) (d : ColumnAdjustment) → k < from → ((get_or (in_columns cols xs) k d).col == col) ≡ false
    below k d h = rw (col_at cols xs kept.as_many k d 0 (omega arith)) (other (get_or cols k 0) (start.0 k 0 (omega arith) h))
      where
        other : (c : ℕ) → nat_lt c col ≡ true → (c == col) ≡ false
        other c t = grind (arith, nat_tests)

    above : (k : ℕ) (d : ColumnAdjustment) → to ≤ k → k < length cols → ((get_or (in_columns cols xs) k d).col == col) ≡ false
    above k d h l = rw (col_at cols xs kept.as_many k d 0 l) (other (get_or cols k 0) (end.1 k 0 h l))
      where
        other : (c : ℕ) → nat_le c col ≡ false → (c == col) ≡ false
        other c t = grind (arith, nat_tests)

    inside : (k e : ℕ) → from ≤ k → k < to → get_or cols k e ≡ col
    inside k e h l = same (get_or cols k e) (start.1 k e h (omega arith)) (end.0 k e (omega arith) l)
      where
        same : (c : ℕ) → nat_lt c col ≡ false → nat_le c col ≡ true → c ≡ col
        same c t u = grind (arith, nat_tests)

    within : (k : ℕ) (d : ColumnAdjustment) → from ≤ k → k < to → ((get_or (in_columns cols xs) k d).col == col) ≡ true
    within k d h l = rw (col_at cols xs kept.as_many k d 0 (omega arith), inside k 0 h l) (grind (arith, nat_tests))

    pub events_run : map event_of (take (to - from) (drop from xs)) ≡ events_at (in_columns cols xs) col
    events_run =
        let view = in_columns cols xs in
        let long : length view ≡ length cols = length-in_columns cols xs kept.as_many in
        let behind : length (drop from view) ≡ length view - from = length-drop from view in
        let run : filter (λ x. x.col == col) view ≡ take (to - from) (drop from view) = filter-run (λ x. x.col == col) from (to - from) view (omega arith) (omega arith)
        (λ k d h. below k d h)
        (λ k d h. rw (get_or-drop from view k d) (within (from + k) d (omega arith) (omega arith)))
        (λ k d h l. rw (get_or-drop from view k d) (above (from + k) d (omega arith) (omega arith))) in
        sym (take-map event_of (to - from) (drop from xs))
        ∙ ap (take (to - from)) (sym (drop-map event_of from xs) ∙ ap (drop from) (sym (events-in_columns cols xs kept.as_many)) ∙ drop-map (λ (x : ColumnAdjustment). x.event) from view)
        ∙ take-map (λ (x : ColumnAdjustment). x.event) (to - from) (drop from view)
        ∙ ap (map (λ (x : ColumnAdjustment). x.event)) (sym run)

    pub days_run : AllPairs (λ a b. a.day ≤ℤ b.day) (take (to - from) (drop from xs))
    days_run i j d h l =
        let behind : length (drop from xs) ≡ length xs - from = length-drop from xs in
        let long : length (take (to - from) (drop from xs)) ≡ min (to - from) (length (drop from xs)) = length-take (to - from) (drop from xs) in
        let many : length xs ≡ length cols = kept.as_many in
        let j_in : j < to - from = omega arith in
        let i_in : i < to - from = omega arith in
        let first : get_or (take (to - from) (drop from xs)) i d ≡ get_or xs (from + i) d = get_or-take (to - from) (drop from xs) i d i_in ∙ get_or-drop from xs i d in
        let second : get_or (take (to - from) (drop from xs)) j d ≡ get_or xs (from + j) d = get_or-take (to - from) (drop from xs) j d j_in ∙ get_or-drop from xs j d in
        let view = in_columns cols xs in
        let same : (get_or view (from + i) (any_of 0)).col ≡ (get_or view (from + j) (any_of 0)).col
        = col_at cols xs many (from + i) (any_of 0) 0 (omega arith) ∙ inside (from + i) 0 (omega arith) (omega arith)
        ∙ sym (col_at cols xs many (from + j) (any_of 0) 0 (omega arith) ∙ inside (from + j) 0 (omega arith) (omega arith)) in
        let days : (get_or view (from + i) (any_of 0)).event.day ≤ℤ (get_or view (from + j) (any_of 0)).event.day = (in_turn (from + i) (from + j) (any_of 0) (omega arith) (omega arith)).1 same in
        let days' : (get_or xs (from + i) d).day ≤ℤ (get_or xs (from + j) d).day
        = rw (day_at cols xs many (from + i) (any_of 0) d (omega arith), day_at cols xs many (from + j) (any_of 0) d (omega arith)) at days in
        rw (first, second) days'
