-- A ratio that is left out, with the bars before it restated, changes nothing that is seen from its day on.
use Rattle.std.proofs.Common.{◌≡◌, ℕ, suc, ◌+◌, ◌<◌, Bool, true, false, ◌&&◌, if◌then◌else◌, ℤ, pos, negsuc, ◌<ℤ◌, ◌≤ℤ◌, List, [], ◌∷◌, ◌++◌, length, map, filter, filter_map, Option, Some, None, option_map, AllPairs, refl, sym, ◌∙◌, ap, arith, length-append, slice_get}
use Rattle.std.specs.List.{cons_option}
use Rattle.std.specs.Int.RustNames.{int_lt}
use Rattle.std.specs.Ordering.{int_eq}
use Rattle.std.proofs.Math.Path.{fun_ext}
use Rattle.std.proofs.Math.Seq.{get_or-append_seam}
use Rattle.std.proofs.lemmas.Bool.{eqb-true}
use Rattle.std.proofs.lemmas.Int.{ints, by_lt_z}
use Rattle.std.proofs.lemmas.List.{map-id}
use Rattle.std.proofs.lemmas.List.Elements.{filter_map-append}
use Rattle.pl_spec.specs.declared.AdjustmentKind.{AdjustmentKind}
use Rattle.pl_spec.specs.declared.AdjustmentKind.TheVariants.{Split, Merger, Dividend, Revision}
use Rattle.pl_spec.specs.declared.Column.{Column}
use Rattle.pl_spec.specs.declared.Column.TheVariants.{OpenPrice, High, Low, Close, Volume}
use Rattle.pl_spec.specs.Rounding.{Fraction, scaled}
use Rattle.pl_spec.specs.World.{World, IsWorld, Change, Event, day_of, events_of, bar_cell}
use Rattle.pl_spec.specs.Window.{Effect, factor, same_column, change_effect, effect, is_between, effects_in, effects_from, effects, after_all, seen_cell, before, downward, bar_window, changed}
use Rattle.pl_spec.specs.Window.Effect.{Scale, Put}
use Rattle.pl_spec.proofs.Columns.{column_number-one}
use Rattle.pl_spec.proofs.Each.{Each, map_each}
use Rattle.pl_spec.proofs.Lists.{filter-map}
use Rattle.pl_spec.proofs.Signed.{lt-int_lt, le-int_le}
use Rattle.pl_invariance.specs.Exact.{AllDivide}
use Rattle.pl_invariance.specs.Restated.{ratio_for, times, restated_change, restated_event, restated_cell, IsRestated, IsExactAt, SplitsMayBeRestated}
use Rattle.pl_invariance.proofs.Lists.{kept-both, picked-map, picked-after, each-below}
use Rattle.pl_invariance.proofs.Exact.{after_ratio, first_or_last}

-- ---- lists

after-both : (x : ℤ) (fs gs : List Effect) → after_all x (fs ++ gs) ≡ after_all (after_all x fs) gs
after-both x [] gs = refl
after-both x (f ∷ fs) gs = after-both (changed x f) fs gs

ahead : (front : List Event) (e : Event) (back : List Event) → AllPairs (λ f g. f.day ≤ℤ g.day) (front ++ e ∷ back) → Each (λ f. f.day ≤ℤ e.day) front
ahead [] e back h = tt
ahead (x ∷ front) e back h = (
  rw (get_or-append_seam front e back e) at (h 0 (suc (length front)) e (omega arith) (long front)),
  ahead front e back (λ i j d l m. h (suc i) (suc j) d (omega arith) (omega arith)),
)
  where
    long : (xs : List Event) → suc (length xs) < length (x ∷ (xs ++ e ∷ back))
    long xs = let n : length (xs ++ e ∷ back) ≡ length xs + length (e ∷ back) = length-append xs (e ∷ back) in omega arith

-- ---- events

factor-is : (c : Column) (kind : AdjustmentKind) (ratio : Fraction) → factor c kind ratio ≡ ratio_for c kind ratio
factor-is OpenPrice kind ratio = refl
factor-is High kind ratio = refl
factor-is Low kind ratio = refl
factor-is Close kind ratio = refl
factor-is Volume Split ratio = refl
factor-is Volume Merger ratio = refl
factor-is Volume Dividend ratio = refl
factor-is Volume Revision ratio = refl

between : (low high : ℤ) (e : Event) → low <ℤ e.day → e.day ≤ℤ high → is_between low high e ≡ true
between low high e l m = rw (lt-int_lt low e.day l, le-int_le e.day high m) refl

not_between : (low high : ℤ) (e : Event) → e.day ≤ℤ low → is_between low high e ≡ false
not_between low high e l = grind (arith, ints)

none_act : (c : Column) (bar day : ℤ) (es : List Event) → Each (λ e. e.day ≤ℤ bar) es → effects_in c bar bar day es ≡ []
none_act c bar day [] h = refl
none_act c bar day (e ∷ es) h = rw (not_between bar day e h.0) (none_act c bar day es h.1)

effects-both : (c : Column) (bar day : ℤ) (xs ys : List Event) → effects_in c bar bar day (xs ++ ys) ≡ effects_in c bar bar day xs ++ effects_in c bar bar day ys
effects-both c bar day xs ys =
    ap (filter_map (effect c bar)) (kept-both (is_between bar day) xs ys) ∙ filter_map-append (effect c bar) (filter (is_between bar day) xs) (filter (is_between bar day) ys)

-- what the ratio makes of an effect, if it is of any for the column
abbrev turned_by : Option Fraction → Effect → Effect
turned_by None x = x
turned_by (Some f) x = after_ratio f x

module _ (kind : AdjustmentKind) (ratio : Fraction) where
  abbrev restated : Event → Event
  restated = restated_event kind ratio

  restated-later : (es : List Event) (low : ℤ) → Each (λ e. e.day ≤ℤ low) es → Each (λ e. e.day ≤ℤ low) (map restated es)
  restated-later [] low h = tt
  restated-later (e ∷ es) low h = (h.0, restated-later es low h.1)

  scale_same : (o p : Option Fraction) → option_map Scale p ≡ option_map (turned_by o) (option_map Scale p)
  scale_same None None = refl
  scale_same (Some f) None = refl
  scale_same None (Some g) = refl
  scale_same (Some f) (Some g) = refl

  put_same : (o : Option Fraction) (x : ℤ) → Put (times o x) ≡ turned_by o (Put x)
  put_same None x = refl
  put_same (Some f) x = refl

  change_same : (c : Column) (bar : ℤ) (k : AdjustmentKind) (x : Change) → change_effect c bar k (restated_change kind ratio x) ≡ option_map (turned_by (ratio_for c kind ratio)) (change_effect c bar k x)
  change_same c bar k (Change.Scale f) = scale_same (ratio_for c kind ratio) (factor c k f)
  change_same c bar k (Change.Overwrite day column value) = step (int_eq day bar) (same_column column c) refl
    where
      step : (e b : Bool) → same_column column c ≡ b
          → (if e && b then Some (Put (times (ratio_for column kind ratio) value)) else None) ≡ option_map (turned_by (ratio_for c kind ratio)) (if e && b then Some (Put value) else None)
      step true true is =
          let one : column ≡ c = column_number-one column c (eqb-true _ _ is) in
          ap (λ k. Some (Put (times (ratio_for k kind ratio) value))) one ∙ ap Some (put_same (ratio_for c kind ratio) value)
      step true false is = refl
      step false b is = refl

  front_same : (c : Column) (bar day : ℤ) (es : List Event) → effects_in c bar bar day (map restated es) ≡ map (turned_by (ratio_for c kind ratio)) (effects_in c bar bar day es)
  front_same c bar day es =
      ap (filter_map (effect c bar)) (filter-map (is_between bar day) restated es)
      ∙ picked-map (effect c bar) restated (filter (is_between bar day) es)
      ∙ ap (λ g. filter_map g (filter (is_between bar day) es)) (fun_ext (λ (e : Event). change_same c bar e.kind e.change))
      ∙ picked-after (turned_by (ratio_for c kind ratio)) (effect c bar) (filter (is_between bar day) es)

-- the ratio first, or in its place
moved : (o : Option Fraction) (x : ℤ) (fs gs : List Effect) → ((f : Fraction) → o ≡ Some f → AllDivide f x fs)
    → after_all (times o x) (map (turned_by o) fs ++ gs) ≡ after_all x (fs ++ cons_option (option_map Scale o) gs)
moved None x fs gs h = ap (λ l. after_all x (l ++ gs)) (map-id fs)
moved (Some f) x fs gs h =
    after-both (scaled f x) (map (after_ratio f) fs) gs
    ∙ ap (λ y. after_all y gs) (first_or_last f x fs (h f refl))
    ∙ sym (after-both x fs (Scale f ∷ gs))

-- ---- what is seen

module _ (w v : World) (a : ℕ) (ratio : Fraction) (e : Event) (front back : List Event) (ok : IsWorld w) (is : IsRestated w v a ratio e front back) where
  abbrev by : Column → Option Fraction
  by c = ratio_for c e.kind ratio

  before_it : Each (λ f. f.day ≤ℤ e.day) front
  before_it = ahead front e back (rw is.ours at (ok.events_in_order a))

  effect_is : (c : Column) (bar : ℤ) → effect c bar e ≡ option_map Scale (by c)
  effect_is c bar = ap (change_effect c bar e.kind) is.scales ∙ ap (option_map Scale) (factor-is c e.kind ratio)

  -- what the events do to a bar of the day, in the world, and without the event
  ours : (c : Column) (bar day : ℤ) → effects_in c bar bar day (events_of w a) ≡ effects_in c bar bar day front ++ effects_in c bar bar day (e ∷ back)
  ours c bar day = ap (effects_in c bar bar day) is.ours ∙ effects-both c bar day front (e ∷ back)

  theirs : (c : Column) (bar day : ℤ) → effects_in c bar bar day (events_of v a) ≡ effects_in c bar bar day (map (restated_event e.kind ratio) front) ++ effects_in c bar bar day back
  theirs c bar day = ap (effects_in c bar bar day) is.theirs ∙ effects-both c bar day (map (restated_event e.kind ratio) front) back

  -- a bar of an earlier day
  earlier : (c : Column) (bar day x : ℤ) → bar <ℤ e.day → e.day ≤ℤ day → ((f : Fraction) → by c ≡ Some f → AllDivide f x (effects_in c bar bar day front))
      → after_all (times (by c) x) (effects_in c bar bar day (events_of v a)) ≡ after_all x (effects_in c bar bar day (events_of w a))
  earlier c bar day x l m h =
      ap (after_all (times (by c) x)) (theirs c bar day ∙ ap (λ fs. fs ++ effects_in c bar bar day back) (front_same e.kind ratio c bar day front))
      ∙ moved (by c) x (effects_in c bar bar day front) (effects_in c bar bar day back) h
      ∙ sym (ap (after_all x) (ours c bar day ∙ ap (λ fs. effects_in c bar bar day front ++ fs) acts))
    where
      acts : effects_in c bar bar day (e ∷ back) ≡ cons_option (option_map Scale (by c)) (effects_in c bar bar day back)
      acts = rw (between bar day e l m) (ap (λ o. cons_option o (effects_in c bar bar day back)) (effect_is c bar))

  -- a bar of its day or a later one, on which neither it nor what comes before it acts
  later : (c : Column) (bar day x : ℤ) → e.day ≤ℤ bar → after_all x (effects_in c bar bar day (events_of v a)) ≡ after_all x (effects_in c bar bar day (events_of w a))
  later c bar day x l =
      ap (after_all x)
      (theirs c bar day
      ∙ ap (λ fs. fs ++ effects_in c bar bar day back) (none_act c bar day (map (restated_event e.kind ratio) front) (restated-later e.kind ratio front bar (nearer front before_it)))
      ∙ sym (ours c bar day ∙ ap (λ fs. fs ++ effects_in c bar bar day (e ∷ back)) (none_act c bar day front (nearer front before_it)) ∙ rw (not_between bar day e l) refl))
    where
      nearer : (es : List Event) → Each (λ f. f.day ≤ℤ e.day) es → Each (λ f. f.day ≤ℤ bar) es
      nearer [] h = tt
      nearer (f ∷ es) h = (let m : f.day ≤ℤ e.day = h.0 in omega (arith, ints), nearer es h.1)

  seen-same : (c : Column) (s d day : ℤ) → day_of w d ≡ Some day → e.day ≤ℤ day → IsExactAt w a ratio e front c s day → seen_cell v a c s d ≡ seen_cell w a c s d
  unfolding seen_cell
  seen-same c s d day at m h = on (day_of w s) refl
    where
      in_v : (z : ℤ) → day_of v z ≡ day_of w z
      in_v (pos n) = ap (λ days. slice_get days n) is.days
      in_v (negsuc n) = refl

      there : (o : Option ℤ) → day_of w s ≡ o → effects v a c s d ≡ effects_from c o (Some day) (events_of v a)
      there o e = ap (λ p. effects_from c p (day_of v d) (events_of v a)) (in_v s ∙ e) ∙ ap (λ p. effects_from c o p (events_of v a)) (in_v d ∙ at)

      here : (o : Option ℤ) → day_of w s ≡ o → effects w a c s d ≡ effects_from c o (Some day) (events_of w a)
      here o e = ap (λ p. effects_from c p (day_of w d) (events_of w a)) e ∙ ap (λ p. effects_from c o p (events_of w a)) at

      cell : (o : Option ℤ) → day_of w s ≡ o → bar_cell v a c s ≡ restated_cell e.kind ratio e.day c o (bar_cell w a c s)
      cell o k = is.bars c s ∙ ap (λ p. restated_cell e.kind ratio e.day c p (bar_cell w a c s)) k

      not_less : (x y : ℤ) → y ≤ℤ x → int_lt x y ≡ false
      not_less x y l = grind (arith, ints)

      on : (o : Option ℤ) → day_of w s ≡ o → seen_cell v a c s d ≡ seen_cell w a c s d
      on None k = ap (λ fs. after_all (bar_cell v a c s) fs) (there None k) ∙ cell None k ∙ sym (ap (after_all (bar_cell w a c s)) (here None k))
      on (Some bar) k =
          ap (after_all (bar_cell v a c s)) (there (Some bar) k) ∙ ap (λ x. after_all x (effects_in c bar bar day (events_of v a))) (cell (Some bar) k)
          ∙ by_lt_z bar e.day
          (λ l. rw (lt-int_lt bar e.day l) (earlier c bar day (bar_cell w a c s) l m (λ f i. h bar f k l i)))
          (λ g. rw (not_less bar e.day g) (later c bar day (bar_cell w a c s) g))
          ∙ sym (ap (after_all (bar_cell w a c s)) (here (Some bar) k))

  window-same : (c : Column) (size : ℕ) (d day : ℤ) → day_of w d ≡ Some day → e.day ≤ℤ day → ((n : ℕ) → n < size → IsExactAt w a ratio e front c (before d (suc n)) day)
      → bar_window v c size a d ≡ bar_window w c size a d
  window-same c size d day at m h =
      map_each (λ n. seen_cell v a c (before d (suc n)) d) (λ n. seen_cell w a c (before d (suc n)) d) (downward size)
      (each-below (λ n. seen_cell v a c (before d (suc n)) d ≡ seen_cell w a c (before d (suc n)) d) size (λ n l. seen-same c (before d (suc n)) d day at m (h n l)))

pub splits-may-be-restated : SplitsMayBeRestated
splits-may-be-restated = record {
  cells = λ w v a ratio e front back ok is c s d day at m h. seen-same w v a ratio e front back ok is c s d day at m h;
  windows = λ w v a ratio e front back ok is c size d day at m h. window-same w v a ratio e front back ok is c size d day at m h;
}
