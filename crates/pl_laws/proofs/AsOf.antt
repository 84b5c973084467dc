-- The world as of a session agrees with the whole.
use Rattle.std.proofs.Common.{◌≡◌, ℕ, zero, suc, ◌<◌, Bool, true, false, ◌&&◌, cond, ℤ, pos, negsuc, ◌<ℤ◌, ◌≤ℤ◌, List, [], ◌∷◌, length, map, filter, find, take, get_or, AllPairs, Option, Some, None, option_map, option_and_then, unwrap_or, refl, sym, ◌∙◌, ap, arith, slice_get, ◌==◌, nat_lt, min, ltb-true}
use Rattle.std.specs.Int.RustNames.{int_le}
use Rattle.std.proofs.lemmas.Bool.Decides.{nat_tests}
use Rattle.std.proofs.lemmas.Int.{ints}
use Rattle.std.proofs.lemmas.List.{get_or-take, length-take}
use Rattle.std.proofs.lemmas.List.Elements.{All-filter, filter_passes}
use Rattle.std.proofs.lemmas.List.Kept.{AllPairs-filter}
use Rattle.std.proofs.lemmas.Option.{slice_get_within}
use Rattle.pl_spec.specs.declared.AssetRow.{AssetRow}
use Rattle.pl_spec.specs.declared.BarRow.{BarRow}
use Rattle.pl_spec.specs.declared.Column.{Column}
use Rattle.pl_spec.specs.Rounding.{MISSING}
use Rattle.pl_spec.specs.World.{World, IsWorld, Bar, LabelRow, Adjustment, events_of, day_of, bar_cell, cell_of, exists, nonempty, last_started, is_label_of, label_at}
use Rattle.pl_spec.specs.Agree.{Agree, is_known}
use Rattle.pl_spec.specs.Numbers.{NumberRow}
use Rattle.pl_spec.specs.Parts.{ColumnLabel, ColumnAdjustment, ColumnNumber, bar_of, label_of, adjustment_of, number_of}
use Rattle.pl_spec.specs.AsOf.{as_of, has_started, bars_before, adjustments_by, column_numbers_by}
use Rattle.pl_spec.proofs.Lists.{filter-map, filter-filter, filter-swap}
use Rattle.pl_spec.proofs.Numbers.{numbers_look_back}
use Rattle.pl_laws.specs.AsOfLaws.{PartsOf}
use Rattle.pl_laws.proofs.Law.{day_by}
use Rattle.pl_spec.proofs.Labels.{labels-of_days}

-- ---- lists

-- what is sought passes the test, so it doesn't matter whether that was tested first
find-filter : {X : Type 0} (p q : X → Bool) → ((x : X) → p x ≡ true → q x ≡ true) → (xs : List X) → find p (filter q xs) ≡ find p xs
find-filter p q h [] = refl
find-filter p q h (x ∷ xs) = here (p x) (q x) refl refl (find-filter p q h xs)
  where
    here : (b c : Bool) → p x ≡ b → q x ≡ c → find p (filter q xs) ≡ find p xs → find p (cond c (x ∷ filter q xs) (filter q xs)) ≡ find p (x ∷ xs)
    here true true e f rest = rw e refl
    here true false e f rest = let t : q x ≡ true = h x e in let bad : true ≡ false = sym t ∙ f in cc
    here false true e f rest = rw e rest
    here false false e f rest = rw e rest

pub slice_get-take : {X : Type 0} (xs : List X) (n i : ℕ) → i < n → slice_get (take n xs) i ≡ slice_get xs i
slice_get-take [] zero i h = absurd (omega arith)
slice_get-take [] (suc n) i h = refl
slice_get-take (x ∷ xs) zero i h = absurd (omega arith)
slice_get-take (x ∷ xs) (suc n) zero h = refl
slice_get-take (x ∷ xs) (suc n) (suc i) h = slice_get-take xs n i (omega arith)

days_kept : (days : List ℤ) (n : ℕ) → AllPairs (λ a b. a <ℤ b) days → AllPairs (λ a b. a <ℤ b) (take n days)
days_kept days n rise i j d h l =
    let long : length (take n days) ≡ min n (length days) = length-take n days in
    rw (get_or-take n days i d (omega arith), get_or-take n days j d (omega arith)) (rise i j d h (omega arith))

-- ---- the world

asked_before : (a s d : ℕ) → s < d → (b : Bar) → (b.sid == a && b.session == s) ≡ true → nat_lt b.session d ≡ true
asked_before a s d h b e = grind (arith, nat_tests)

asked_started : (name : List ℕ) (a : ℕ) (x day : ℤ) → x ≤ℤ day → (r : LabelRow) → is_label_of name a x r ≡ true → has_started day r ≡ true
asked_started name a x day h r p = grind (arith, ints)

module _ (w : World) (d : ℕ) (day : ℤ) where
  events-by : (a : ℕ) → events_of (as_of w d day) a ≡ filter (is_known day) (events_of w a)
  events-by a =
      ap (map (λ (x : Adjustment). x.event)) (filter-swap (λ x. x.sid == a) (λ x. is_known day x.event) w.adjustments)
      ∙ sym (filter-map (is_known day) (λ (x : Adjustment). x.event) (filter (λ x. x.sid == a) w.adjustments))

  day_of-kept : (s : ℤ) → s ≤ℤ pos d → day_of (as_of w d day) s ≡ day_of w s
  day_of-kept (pos s) h = slice_get-take w.days (suc d) s (omega (arith, ints))
  day_of-kept (negsuc s) h = refl

  bar_cell-kept : (a : ℕ) (c : Column) (s : ℤ) → s <ℤ pos d → bar_cell (as_of w d day) a c s ≡ bar_cell w a c s
  bar_cell-kept a c (pos s) h =
      ap (λ o. unwrap_or (option_map (cell_of c) o) MISSING)
      (find-filter (λ b. b.sid == a && b.session == s) (λ b. nat_lt b.session d) (asked_before a s d (omega (arith, ints))) w.bars)
  bar_cell-kept a c (negsuc s) h = refl

  exists-kept : (a : ℕ) (s : ℤ) → s ≤ℤ pos d → exists (as_of w d day) a s ≡ exists w a s
  exists-kept a s h = rw (day_of-kept s h) refl

  -- on a day that is no later the label rows that have not started by then do not count
  label_on : Option ℤ → List LabelRow → List ℕ → ℕ → Option (List ℕ)
  label_on o rows name a = option_and_then (λ x. option_and_then (λ r. nonempty r.text) (last_started (filter (is_label_of name a x) rows))) o

  label_on-kept : (name : List ℕ) (a : ℕ) (o : Option ℤ) → ((x : ℤ) → o ≡ Some x → x ≤ℤ day) → label_on o (filter (has_started day) w.labels) name a ≡ label_on o w.labels name a
  unfolding label_on
  label_on-kept name a None h = refl
  label_on-kept name a (Some x) h =
      ap (λ rows. option_and_then (λ r. nonempty r.text) (last_started rows))
      (filter-filter (is_label_of name a x) (has_started day) (asked_started name a x day (h x refl)) w.labels)

  label_at-kept : IsWorld w → slice_get w.days d ≡ Some day → (name : List ℕ) (a : ℕ) (s : ℤ) → s ≤ℤ pos d → label_at (as_of w d day) name a s ≡ label_at w name a s
  unfolding label_on
  label_at-kept ok at_d name a s h =
      labels-of_days (as_of w d day) (record w { labels = filter (has_started day) w.labels }) refl name a s (day_of-kept s h)
      ∙ label_on-kept name a (day_of w s) (λ x e. day_by w ok s (pos d) x day h e at_d)

  pub is-world : IsWorld w → IsWorld (as_of w d day)
  is-world ok = record {
    days_ascend = days_kept w.days (suc d) ok.days_ascend;
    sids_ascend = ok.sids_ascend;
    events_in_order = λ a. rw (events-by a) (AllPairs-filter (λ e f. e.day ≤ℤ f.day) (is_known day) (events_of w a) (ok.events_in_order a));
  }

  pub agrees : IsWorld w → slice_get w.days d ≡ Some day → Agree (as_of w d day) w (pos d) day
  agrees ok at_d = record {
    is_day = day_of-kept (pos d) (omega (arith, ints)) ∙ at_d;
    days = day_of-kept;
    bars = bar_cell-kept;
    adjustments = λ a. ap (filter (is_known day)) (events-by a) ∙ filter-filter (is_known day) (is_known day) (λ e p. p) (events_of w a);
    lifetimes = exists-kept;
    labels = label_at-kept ok at_d;
    numbers = λ f name a x h. numbers_look_back.without w.numbers day f name a x h;
  }

-- ---- the parts

module _ (days : List ℤ) (assets : List AssetRow) (labels : List ColumnLabel) (texts : List (List ℕ)) (bars : List BarRow) (adjustments : List ColumnAdjustment) (numbers : List ColumnNumber) (d : ℕ) (day : ℤ) where
  abbrev Made : List LabelRow → List Bar → List Adjustment → List NumberRow → World
  Made ls bs xs ns = record { days = take (suc d) days; assets = assets; labels = ls; texts = texts; bars = bs; adjustments = xs; numbers = ns }

  pub parts-of : PartsOf days assets labels texts bars adjustments numbers d day
  parts-of = record {
    world =
        ap (λ ls. Made ls (map (bar_of assets) (bars_before d bars)) (map (adjustment_of assets) (adjustments_by day adjustments)) (map (number_of assets) (column_numbers_by day numbers)))
        (sym (filter-map (has_started day) (label_of assets) labels))
        ∙ ap (λ bs. Made (filter (has_started day) (map (label_of assets) labels)) bs (map (adjustment_of assets) (adjustments_by day adjustments)) (map (number_of assets) (column_numbers_by day numbers)))
        (sym (filter-map (λ b. nat_lt b.session d) (bar_of assets) bars))
        ∙ ap (λ xs. Made (filter (has_started day) (map (label_of assets) labels)) (filter (λ b. nat_lt b.session d) (map (bar_of assets) bars)) xs (map (number_of assets) (column_numbers_by day numbers)))
        (sym (filter-map (λ (x : Adjustment). is_known day x.event) (adjustment_of assets) adjustments))
        ∙ ap (λ ns. Made (filter (has_started day) (map (label_of assets) labels)) (filter (λ b. nat_lt b.session d) (map (bar_of assets) bars)) (filter (λ x. is_known day x.event) (map (adjustment_of assets) adjustments)) ns)
        (sym (filter-map (λ (r : NumberRow). int_le r.known day) (number_of assets) numbers));
    parts = λ made at_d. record {
      days_ascend = days_kept days (suc d) made.days_ascend;
      sids_ascend = made.sids_ascend;
      labels_in = All-filter (λ r. int_le r.start day) (λ r. r.col < length assets) labels made.labels_in;
      bars_in = All-filter (λ b. nat_lt b.session d) (λ b. b.col < length assets) bars made.bars_in;
      sessions_in = λ k e l.
          let before_d : (get_or (bars_before d bars) k e).session < d = ltb-true _ d (filter_passes (λ (b : BarRow). nat_lt b.session d) bars k e l) in
          let long : length (take (suc d) days) ≡ min (suc d) (length days) = length-take (suc d) days in
          let there : d < length days = slice_get_within days d day at_d in
          omega (arith, before_d, long, there);
      adjustments_in = All-filter (λ x. int_le x.event.day day) (λ x. x.col < length assets) adjustments made.adjustments_in;
      events_in_order = λ col.
          rw (filter-swap (λ x. x.col == col) (λ x. int_le x.event.day day) adjustments)
          (AllPairs-filter (λ x y. x.event.day ≤ℤ y.event.day) (λ x. int_le x.event.day day) (filter (λ x. x.col == col) adjustments) (made.events_in_order col));
      numbers_in = All-filter (λ r. int_le r.known day) (λ r. r.col < length assets) numbers made.numbers_in;
    };
  }
