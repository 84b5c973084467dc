-- Rows in another order change nothing that is looked up.
use Rattle.std.proofs.Common.{◌≡◌, ◌≢◌, ℕ, ◌≤◌, Bool, true, ◌&&◌, ◌==◌, ℤ, pos, negsuc, ◌≤ℤ◌, List, [], ◌∷◌, length, map, filter, find, Option, Some, None, option_map, option_and_then, unwrap_or, All, AllPairs, Contains, IsPermutation, refl, sym, ◌∙◌, ap, arith}
use Rattle.std.specs.List.{list_any, list_all}
use Rattle.std.specs.Int.RustNames.{int_le}
use Rattle.std.specs.Ordering.{int_eq}
use Rattle.std.proofs.Math.Path.{fun_ext}
use Rattle.std.proofs.lemmas.Bool.{and_parts, eqb-true}
use Rattle.std.proofs.lemmas.List.{get_or-map, length-map}
use Rattle.std.proofs.lemmas.List.Kept.{AllPairs-filter}
use Rattle.std.proofs.lemmas.List.Sorted.{IsPermutation-map, list_any-IsPermutation}
use Rattle.std.proofs.lemmas.List.Elements.{filter_passes}
use Rattle.pl_spec.specs.declared.Column.{Column}
use Rattle.pl_spec.specs.Rounding.{MISSING}
use Rattle.pl_spec.specs.World.{World, IsWorld, Bar, LabelRow, Event, Adjustment, events_of, day_of, lives_on, exists, cell_of, bar_cell, last_started, nonempty, is_label_of, label_at}
use Rattle.pl_spec.specs.declared.AssetRow.{AssetRow}
use Rattle.pl_spec.specs.Lookups.{BarsOnce, LabelsOnce}
use Rattle.pl_spec.specs.Order.{IsByDay, acts_at}
use Rattle.pl_spec.specs.Permuted.{EventsHaveOwnDays, events_on}
use Rattle.pl_spec.proofs.ByDay.{by_day_is_one}
use Rattle.pl_spec.proofs.Finds as finds
use Rattle.pl_spec.proofs.Permuted.{filter-permuted, find-permuted, list_all-permuted, one-permuted}
use Rattle.pl_spec.proofs.Signed.{int_eq-true, int_le-true, le-both}
use Rattle.pl_spec.proofs.Lists.{filter-map}
use Rattle.pl_spec.proofs.Numbers.{numbers_look_back}
use Rattle.pl_laws.specs.PermutedLaws.{OrderChangesNothing}
use Rattle.pl_laws.proofs.Alike.{day_of-days}

-- ---- labels

abbrev is_last : List LabelRow → LabelRow → Bool
is_last rows r = list_all (λ q. int_le q.start r.start) rows

module _ (w v : World) (once : LabelsOnce w) (moved : IsPermutation w.labels v.labels) (name : List ℕ) (a : ℕ) where
  abbrev us : ℤ → List LabelRow
  us day = filter (is_label_of name a day) w.labels

  abbrev vs : ℤ → List LabelRow
  vs day = filter (is_label_of name a day) v.labels

  -- the same row started last, in whatever order they stand
  last_same : (day : ℤ) → last_started (filter (is_label_of name a day) w.labels) ≡ last_started (filter (is_label_of name a day) v.labels)
  last_same day =
      find-permuted (is_last (us day)) (us day) (vs day) still one
      ∙ ap (λ p. find p (vs day)) (fun_ext (λ r. list_all-permuted (λ q. int_le q.start r.start) (us day) (vs day) still))
    where
      still : IsPermutation (us day) (vs day)
      still = filter-permuted (is_label_of name a day) w.labels v.labels moved

      one : (x y : LabelRow) → Contains (us day) x → Contains (us day) y → is_last (us day) x ≡ true → is_last (us day) y ≡ true → x ≡ y
      one x y in_x in_y last_x last_y =
          let row_x = finds.filter-contains (is_label_of name a day) w.labels x in_x in
          let row_y = finds.filter-contains (is_label_of name a day) w.labels y in_y in
          let of_x = finds.label_of name a day x row_x.1 in
          let of_y = finds.label_of name a day y row_y.1 in
          let below : y.start ≤ℤ x.start = int_le-true y.start x.start (finds.all-contains (λ q. int_le q.start x.start) (us day) last_x y in_y) in
          let above : x.start ≤ℤ y.start = int_le-true x.start y.start (finds.all-contains (λ q. int_le q.start y.start) (us day) last_y x in_x) in
          once x y row_x.0 row_y.0 (of_x.0 ∙ sym of_y.0) (of_x.1 ∙ sym of_y.1) (le-both x.start y.start above below)

  label_same : w.days ≡ v.days → (s : ℤ) → label_at w name a s ≡ label_at v name a s
  label_same days s =
      ap (option_and_then (λ day. option_and_then (λ r. nonempty r.text) (last_started (filter (is_label_of name a day) w.labels)))) (day_of-days w v days s)
      ∙ ap (λ f. option_and_then f (day_of v s)) (fun_ext (λ day. ap (option_and_then (λ (r : LabelRow). nonempty r.text)) (last_same day)))

-- ---- bars

bar_same : (w v : World) → BarsOnce w → IsPermutation w.bars v.bars → (a : ℕ) (c : Column) (s : ℤ) → bar_cell w a c s ≡ bar_cell v a c s
bar_same w v once moved a c (negsuc s) = refl
bar_same w v once moved a c (pos s) =
    ap (λ o. unwrap_or (option_map (cell_of c) o) MISSING) (find-permuted (λ b. b.sid == a && b.session == s) w.bars v.bars moved one)
  where
    one : (x y : Bar) → Contains w.bars x → Contains w.bars y → (x.sid == a && x.session == s) ≡ true → (y.sid == a && y.session == s) ≡ true → x ≡ y
    one x y in_x in_y at_x at_y =
        let of_x = and_parts (x.sid == a) (x.session == s) at_x in
        let of_y = and_parts (y.sid == a) (y.session == s) at_y in
        once x y in_x in_y (eqb-true x.sid a of_x.0 ∙ sym (eqb-true y.sid a of_y.0)) (eqb-true x.session s of_x.1 ∙ sym (eqb-true y.session s of_y.1))

-- ---- adjustments

as_adjustment : Event → Adjustment
as_adjustment e = record { sid = 0; event = e }

event_again : (es : List Event) → map (λ (x : Adjustment). x.event) (map as_adjustment es) ≡ es
unfolding as_adjustment
event_again [] = refl
event_again (e ∷ es) = ap (λ l. e ∷ l) (event_again es)

-- events whose days rise stand by day, and by those of each day
stand_by_day : (es fs : List Event) → AllPairs (λ e f. e.day ≤ℤ f.day) es → ((day : ℤ) → filter (λ e. int_eq e.day day) es ≡ filter (λ e. int_eq e.day day) fs)
    → IsByDay (map as_adjustment fs) (map as_adjustment es)
unfolding as_adjustment
stand_by_day es fs rise same = record {
  rising = λ i j d h l.
      let long : length (map as_adjustment es) ≡ length es = length-map es as_adjustment in
      rw (get_or-map as_adjustment es i d.event d (omega (arith, long, h, l)), get_or-map as_adjustment es j d.event d (omega (arith, long, l)))
      (rise i j d.event h (omega (arith, long, l)));
  same = λ day. filter-map (acts_at day) as_adjustment es ∙ ap (map as_adjustment) (same day) ∙ sym (filter-map (acts_at day) as_adjustment fs);
}

events_same : (w v : World) → IsWorld w → IsWorld v → (a : ℕ) → ((day : ℤ) → events_on w a day ≡ events_on v a day) → events_of w a ≡ events_of v a
events_same w v ok ok' a same =
    let es = events_of w a in
    let fs = events_of v a in
    sym (event_again es)
    ∙ ap (map (λ (x : Adjustment). x.event))
    (by_day_is_one (map as_adjustment fs) (map as_adjustment es) (stand_by_day es fs (ok.events_in_order a) same)
    ∙ sym (by_day_is_one (map as_adjustment fs) (map as_adjustment fs) (stand_by_day fs fs (ok'.events_in_order a) (λ day. refl))))
    ∙ event_again fs

one_of_a_day : (day : ℤ) (es : List Event) → AllPairs (λ e f. e.day ≢ f.day) es → All (λ e. int_eq e.day day ≡ true) es → length es ≤ 1
one_of_a_day day [] apart on = omega arith
one_of_a_day day (e ∷ []) apart on = omega arith
one_of_a_day day (e ∷ f ∷ es) apart on =
    absurd (apart 0 1 e (omega arith) (omega arith) (int_eq-true e.day day (on 0 e (omega arith)) ∙ sym (int_eq-true f.day day (on 1 e (omega arith)))))

own_days : (w v : World) → EventsHaveOwnDays w → IsPermutation w.adjustments v.adjustments → (a : ℕ) (day : ℤ) → events_on w a day ≡ events_on v a day
own_days w v apart moved a day =
    let p : Event → Bool = λ e. int_eq e.day day in
    one-permuted (filter p (events_of w a)) (filter p (events_of v a))
    (one_of_a_day day (filter p (events_of w a)) (AllPairs-filter (λ e f. e.day ≢ f.day) p (events_of w a) (apart a)) (filter_passes p (events_of w a)))
    (filter-permuted p (events_of w a) (events_of v a)
    (IsPermutation-map (λ (x : Adjustment). x.event) (filter (λ x. x.sid == a) w.adjustments) (filter (λ x. x.sid == a) v.adjustments)
    (filter-permuted (λ x. x.sid == a) w.adjustments v.adjustments moved)))

-- ---- assets

alive_same : (w v : World) → w.days ≡ v.days → IsPermutation w.assets v.assets → (a : ℕ) (s : ℤ) → exists w a s ≡ exists v a s
alive_same w v days moved a s =
    ap (λ o. list_any (λ x. x == a) (unwrap_or (option_map (λ day. map (λ a. a.sid) (filter (lives_on day) w.assets)) o) [])) (day_of-days w v days s)
    ∙ on (day_of v s)
  where
    on : (o : Option ℤ) → list_any (λ x. x == a) (unwrap_or (option_map (λ day. map (λ a. a.sid) (filter (lives_on day) w.assets)) o) [])
        ≡ list_any (λ x. x == a) (unwrap_or (option_map (λ day. map (λ a. a.sid) (filter (lives_on day) v.assets)) o) [])
    on None = refl
    on (Some day) =
        list_any-IsPermutation (λ x. x == a) (map (λ (a : AssetRow). a.sid) (filter (lives_on day) w.assets)) (map (λ (a : AssetRow). a.sid) (filter (lives_on day) v.assets))
        (IsPermutation-map (λ (a : AssetRow). a.sid) (filter (lives_on day) w.assets) (filter (lives_on day) v.assets) (filter-permuted (lives_on day) w.assets v.assets moved))

pub order-changes-nothing : OrderChangesNothing
order-changes-nothing = record {
  labels = λ w v once days moved name a s. label_same w v once moved name a days s;
  bars = bar_same;
  adjustments = events_same;
  own_days = own_days;
  assets = alive_same;
  numbers = λ w v once moved. numbers_look_back.in_any_order w.numbers v.numbers once moved;
  all = λ w v ok ok' bars_once labels_once numbers_once same. record {
    days = same.days;
    bars = bar_same w v bars_once same.bars;
    adjustments = λ a. events_same w v ok ok' a (same.adjustments a);
    lifetimes = alive_same w v same.days same.assets;
    labels = λ name a s. label_same w v labels_once same.labels name a same.days s;
    numbers = numbers_look_back.in_any_order w.numbers v.numbers numbers_once same.numbers;
  };
}
