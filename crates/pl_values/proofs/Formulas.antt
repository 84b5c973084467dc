-- Formulas and filters over windows.
use Rattle.std.proofs.Common.{◌≡◌, ℕ, zero, suc, ◌+◌, ◌-◌, ◌<◌, ◌≤◌, true, false, ◌&&◌, ℤ, pos, ◌≤ℤ◌, List, Option, Some, None, length, map, refl, sym, ◌∙◌, ap, arith, slice_get, get_or, nat_le, All, subst, inl, inr, IsTrue}
use Rattle.std.specs.List.{list_all}
use Rattle.std.specs.Int.RustNames.{int_lt}
use Rattle.std.proofs.lemmas.Int.{ints}
use Rattle.std.proofs.lemmas.Bool.{and_parts, and_from}
use Rattle.std.proofs.lemmas.Bool.Decides.{nat_tests}
use Rattle.pl_spec.specs.Limits.{most_window}
use Rattle.pl_spec.specs.Rounding.{MILLION, IsCell}
use Rattle.pl_spec.specs.World.{World}
use Rattle.pl_spec.specs.Window.{before, downward, seen_cell}
use Rattle.pl_pipeline.specs.Kind.{Kind}
use Rattle.pl_pipeline.specs.declared.WindowKind.{WindowKind}
use Rattle.pl_pipeline.specs.Kind.Kind.{Window}
use Rattle.pl_pipeline.specs.declared.WindowKind.TheVariants.{Latest, BollingerLower, BollingerUpper, VWAP, AverageDollarVolume, WeightedAverageValue, ExponentialWeightedMovingAverage, Correlation, Covariance, RegressionSlope, RegressionIntercept, RegressionError, All as AllTrue, Any, AtLeastN, AllPresent, TrueRange, WindowPercentile, RankCorrelation, ExponentialWeightedMovingMean, ExponentialWeightedMovingStdDev}
use Rattle.pl_pipeline.specs.Formula.{formula}
use Rattle.pl_pipeline.specs.Term.{Node, Input}
use Rattle.pl_pipeline.specs.Term.Input.{BarColumn, TermInput}
use Rattle.pl_pipeline.specs.Value.{number_of, window_of, kind_value}
use Rattle.pl_pipeline.specs.NodeValue.{input_part}
use Rattle.pl_pipeline.specs.Table.{Pipeline, value_of}
use Rattle.pl_spec.proofs.Windows.{before-pos, map-downward}
use Rattle.pl_terms.specs.Checked.{IsChecked}
use Rattle.pl_terms.proofs.Steady.{checked-steady}
use Rattle.pl_terms.specs.declared.kind.WindowForm.{WindowForm}
use Rattle.pl_terms.specs.declared.kind.WindowForm.TheVariants.{Bar, TwoColumns}
use Rattle.pl_terms.specs.Windows.{row_of}
use Rattle.pl_terms.specs.Sorts.{Place, Filter, sort_at, places, window_places, form_fits, fits, all_fit, has_window, has_parameters, is_limited}
use Rattle.pl_lanes.specs.Flags.{IsFlag}
use Rattle.pl_factors.specs.Kinds.{takes_pairs}
use Rattle.pl_cross.specs.Arrays.{sid_in}
use Rattle.pl_values.specs.Arrays.{cell_of}
use Rattle.pl_values.specs.Inputs.{input_window}
use Rattle.pl_values.specs.Families.{IsWindowed, windowed, TakesWindows}
use Rattle.pl_values.specs.Laws.{IsNode, IsGiven, WindowCells}
use Rattle.pl_values.proofs.Typed.{fit-at, has-input, filter-sort}
use Rattle.pl_values.proofs.Numbers.{plain-number, number_is, IsNumberedTerm}
use Rattle.pl_values.proofs.Cells.{gated, cell-number}
use Rattle.pl_values.proofs.Flags.{filter-flag}
use Rattle.pl_values.proofs.Operations.{plain_place, takes-plain, all-at, limited-cell}

-- ---- lists over the numbers below one, the greatest first

pub length-below : {X : Type 0} (f : ℕ → X) (size : ℕ) → length (map f (downward size)) ≡ size
length-below f zero = refl
length-below f (suc size) = ap suc (length-below f size)

pub all-below : (P : ℤ → Type 0) (f : ℕ → ℤ) (size : ℕ) → ((n : ℕ) → P (f n)) → All P (map f (downward size))
all-below P f zero h = λ k d l. absurd (omega (arith, l))
all-below P f (suc size) h = λ k d l. here k d l (all-below P f size h)
  where
    here : (k : ℕ) (d : ℤ) → k < length (map f (downward (suc size))) → All P (map f (downward size)) → P (get_or (map f (downward (suc size))) k d)
    here zero d l rest = h size
    here (suc k) d l rest = rest k d (omega (arith, l))

-- ---- what stands at the places of a window

pub windows-plain : (f : WindowKind) → list_all plain_place (window_places f) ≡ true
windows-plain Latest = refl
windows-plain f = refl

pub first-place : (f : WindowKind) → (q : Place) × (slice_get (window_places f) 0 ≡ Some q)
first-place Latest = (_, refl)
first-place f = (_, refl)

places-of : (k : Kind) (f : WindowKind) → k ≡ Window f → places k ≡ window_places f
unfolding places
places-of k f e = rw e refl

window-of : (k : Kind) (f : WindowKind) (w : ℕ) → k ≡ Window f → has_window k w ≡ true → form_fits (row_of f).form w ≡ true
unfolding has_window
window-of k f w e h = rw e at h

from-most : (least w : ℕ) → (nat_le least w && nat_le w most_window) ≡ true → w ≤ most_window
from-most least w h = let m : nat_le w most_window ≡ true = (and_parts (nat_le least w) (nat_le w most_window) h).1 in grind (arith, nat_tests)

form-most : (f : WindowForm) (w : ℕ) → form_fits f w ≡ true → w ≤ most_window
form-most Bar w h = let e : w ≡ 1 = grind (arith, nat_tests) in omega arith
form-most TwoColumns w h = let e : w ≡ 2 = grind (arith, nat_tests) in omega arith
form-most f w h = from-most _ w h

-- the window of an input as the definitions have it, sessions below 0 among them
abbrev pub seen_window : World → Pipeline → List ℕ → Node → Option Input → ℕ → ℕ → List ℤ
seen_window w p sids n o i s = window_of w n.window (input_part w p.names p.graph o) (sid_in sids i) (pos s)

-- those of a node's inputs
pub record AreSeen (w : World) (p : Pipeline) (sids : List ℕ) (n : Node) (i s : ℕ) (a b c : List ℤ) : Type 0 where
  pub first : a ≡ seen_window w p sids n (slice_get n.inputs 0) i s
  pub second : b ≡ seen_window w p sids n (slice_get n.inputs 1) i s
  pub third : c ≡ seen_window w p sids n (slice_get n.inputs 2) i s
  pub first_cells : All IsCell a
  pub second_cells : All IsCell b
  pub third_cells : All IsCell c

module _ (w : World) (p : Pipeline) (sids : List ℕ) (ok : IsChecked p) (k : ℕ) (n : Node) (is : slice_get p.graph k ≡ Some n) (f : WindowKind) (e : n.kind ≡ Window f) where
  pub fit : all_fit p.graph (window_places f) n.inputs ≡ true
  fit = ap (λ ps. all_fit p.graph ps n.inputs) (sym (places-of n.kind f e)) ∙ (ok.nodes k n is).inputs

  pub most : n.window ≤ most_window
  most = form-most (row_of f).form n.window (window-of n.kind f n.window e (ok.nodes k n is).window)

  -- there is a first window
  pub first-input : (x : Input) × (slice_get n.inputs 0 ≡ Some x)
  first-input =
      let q = first-place f in
      let x = has-input p.graph (window_places f) n.inputs 0 q.0 fit q.1 in
      (x.0, x.1)

  -- a term in a window is worth numbers
  pub term-numbered : (j t : ℕ) → slice_get n.inputs j ≡ Some (TermInput t) → IsNumberedTerm w p ok t
  term-numbered j t h =
      let q = fit-at p.graph (window_places f) n.inputs j (TermInput t) fit h in
      plain-number w p ok t (sort_at p.graph t) refl (takes-plain q.0 (sort_at p.graph t) (and_from (plain_place q.0) _ (all-at plain_place (window_places f) j q.0 (windows-plain f) q.1) q.2))

  module _ (i s : ℕ) where
    -- an input's cells up to the session
    window-same : n.window ≤ s + 1 → (j : ℕ) (o : Option Input) → slice_get n.inputs j ≡ o → seen_window w p sids n o i s ≡ input_window w p sids n.window o i s
    window-same early j None h = refl
    window-same early j (Some (BarColumn c)) h = refl
    window-same early j (Some (TermInput t)) h =
        map-downward (λ m. number_of (value_of w p t (sid_in sids i) (before (pos s) m))) (λ m. cell_of w p sids t i (s - m)) n.window
        (λ m l. ap (λ d. number_of (value_of w p t (sid_in sids i) d)) (before-pos s m (omega arith)) ∙ cell-number w p sids ok t (term-numbered j t h) i (s - m))

    window-full : (x : Input) → length (seen_window w p sids n (Some x) i s) ≡ n.window
    window-full (BarColumn c) = length-below (λ m. seen_cell w (sid_in sids i) c (before (pos s) (suc m)) (pos s)) n.window
    window-full (TermInput t) = length-below (λ m. number_of (value_of w p t (sid_in sids i) (before (pos s) m))) n.window

    window-long : (o : Option Input) → length (seen_window w p sids n o i s) ≤ n.window
    window-long None = omega arith
    window-long (Some x) = let l = window-full x in omega (arith, l)

    -- the window of a filter
    flags-in : (a : List ℤ) → slice_get (window_places f) 0 ≡ Some Filter → a ≡ seen_window w p sids n (slice_get n.inputs 0) i s → All IsFlag a
    flags-in a h g = let x = has-input p.graph (window_places f) n.inputs 0 Filter fit h in here x.0 x.1 x.2
      where
        here : (x : Input) → slice_get n.inputs 0 ≡ Some x → fits p.graph Filter x ≡ true → All IsFlag a
        here (BarColumn c) u v = absurd (let bad : false ≡ true = v in cc)
        here (TermInput t) u v = subst (All IsFlag) (sym (g ∙ ap (λ o. seen_window w p sids n o i s) u))
            (all-below IsFlag (λ m. number_of (value_of w p t (sid_in sids i) (before (pos s) m))) n.window
            (λ m. subst IsFlag (sym (number_is w p ok t (term-numbered 0 t u) (sid_in sids i) (before (pos s) m)))
            (filter-flag w p t (sid_in sids i) (before (pos s) m) ok (filter-sort (sort_at p.graph t) v))))

    -- two windows are of one length
    two-full : (a b : List ℤ) (q r : Place) → slice_get (window_places f) 0 ≡ Some q → slice_get (window_places f) 1 ≡ Some r
        → a ≡ seen_window w p sids n (slice_get n.inputs 0) i s → b ≡ seen_window w p sids n (slice_get n.inputs 1) i s → length b ≡ length a
    two-full a b q r h g u v =
        let x = has-input p.graph (window_places f) n.inputs 0 q fit h in
        let y = has-input p.graph (window_places f) n.inputs 1 r fit g in
        ap length (v ∙ ap (λ o. seen_window w p sids n o i s) y.1) ∙ window-full y.0
        ∙ sym (ap length (u ∙ ap (λ o. seen_window w p sids n o i s) x.1) ∙ window-full x.0)

-- ---- what the calls ask for

decay-range : (d : ℤ) → (int_lt (pos 0) d && int_lt d (pos MILLION)) ≡ true → (pos 0 ≤ℤ d) × (d ≤ℤ pos MILLION)
decay-range d h =
    let a = and_parts (int_lt (pos 0) d) (int_lt d (pos MILLION)) h in
    let low : int_lt (pos 0) d ≡ true = a.0 in
    let high : int_lt d (pos MILLION) ≡ true = a.1 in
    (grind (arith, ints, nat_tests), grind (arith, ints, nat_tests))

positive-cell : (x : ℤ) → (int_lt (pos 0) x && is_limited x) ≡ true → IsCell x
positive-cell x h = limited-cell x (and_parts (int_lt (pos 0) x) (is_limited x) h).1

pub takes-kind : (f : WindowKind) (w names : ℕ) (a : List ℤ) → has_parameters (Window f) w names ≡ true → (slice_get (window_places f) 0 ≡ Some Filter → All IsFlag a) → All IsCell a → IsWindowed (Window f) a
unfolding has_parameters
takes-kind AllTrue w names a h flags cells = inr (tt, flags refl)
takes-kind Any w names a h flags cells = inr (tt, flags refl)
takes-kind (AtLeastN n) w names a h flags cells = inr (tt, flags refl)
takes-kind AllPresent w names a h flags cells = inr (tt, cells)
takes-kind (BollingerLower k) w names a h flags cells = inl (positive-cell k h)
takes-kind (BollingerUpper k) w names a h flags cells = inl (positive-cell k h)
takes-kind (ExponentialWeightedMovingAverage d) w names a h flags cells = inl (decay-range d h)
takes-kind (WindowPercentile percent) w names a h flags cells = inl (let most : nat_le percent 10000 ≡ true = h in grind (arith, nat_tests))
takes-kind (ExponentialWeightedMovingMean d) w names a h flags cells = inl (decay-range d h)
takes-kind (ExponentialWeightedMovingStdDev d) w names a h flags cells = inl (decay-range d h)
takes-kind f w names a h flags cells = inl tt

-- the kinds that take pairs have two windows
pub paired-places : (f : WindowKind) → IsTrue (takes_pairs (Window f)) → (q : Place) × (r : Place) × (slice_get (window_places f) 0 ≡ Some q) × (slice_get (window_places f) 1 ≡ Some r)
paired-places VWAP h = (_, _, refl, refl)
paired-places AverageDollarVolume h = (_, _, refl, refl)
paired-places WeightedAverageValue h = (_, _, refl, refl)
paired-places Correlation h = (_, _, refl, refl)
paired-places Covariance h = (_, _, refl, refl)
paired-places RegressionSlope h = (_, _, refl, refl)
paired-places RegressionIntercept h = (_, _, refl, refl)
paired-places RegressionError h = (_, _, refl, refl)
paired-places RankCorrelation h = (_, _, refl, refl)
paired-places f h = absurd (let bad : false ≡ true = h in cc)

module _ (w : World) (p : Pipeline) (sids : List ℕ) (k : ℕ) (n : Node) (own : IsNode p k n) (f : WindowKind) (e : n.kind ≡ Window f) (i s : ℕ) (a b c : List ℤ) (g : AreSeen w p sids n i s a b c) where
  pub seen-takes : TakesWindows n.kind a b c
  seen-takes =
      let parameters = subst (λ q. has_parameters q n.window (length p.names) ≡ true) e (own.checked.nodes k n own.node).parameters in
      subst (λ q. TakesWindows q a b c) (sym e) (record {
        kind = takes-kind f n.window (length p.names) a parameters (λ h. flags-in w p sids own.checked k n own.node f e i s a h g.first) g.first_cells;
        first = g.first_cells;
        second = g.second_cells;
        third = g.third_cells;
        few =
            (let long : length a ≤ n.window = subst (λ l. length l ≤ n.window) (sym g.first) (window-long w p sids own.checked k n own.node f e i s (slice_get n.inputs 0)) in
            let m = most w p sids own.checked k n own.node f e in omega (arith, long, m));
        paired = λ h. let q = paired-places f h in two-full w p sids own.checked k n own.node f e i s a b q.0 q.1 q.2 q.3 g.first g.second;
      })

  pub seen-given : IsGiven w p sids k n i s (windowed n.kind a b c)
  unfolding kind_value
  seen-given =
      gated w p sids own.checked k n own.node i s (checked-steady p own.checked k n own.node) (windowed n.kind a b c)
      (rw e
      (ap (λ x. formula f x (seen_window w p sids n (slice_get n.inputs 1) i s) (seen_window w p sids n (slice_get n.inputs 2) i s)) (sym g.first)
      ∙ ap (λ x. formula f a x (seen_window w p sids n (slice_get n.inputs 2) i s)) (sym g.second)
      ∙ ap (λ x. formula f a b x) (sym g.third)))

pub window-cell : WindowCells
window-cell w p sids k n i s own f a b c e early g =
    let same = window-same w p sids own.checked k n own.node f e i s early in
    let seen : AreSeen w p sids n i s a b c = record {
      first = g.first ∙ sym (same 0 (slice_get n.inputs 0) refl);
      second = g.second ∙ sym (same 1 (slice_get n.inputs 1) refl);
      third = g.third ∙ sym (same 2 (slice_get n.inputs 2) refl);
      first_cells = g.first_cells;
      second_cells = g.second_cells;
      third_cells = g.third_cells;
    } in
    (seen-takes w p sids k n own f e i s a b c seen, seen-given w p sids k n own f e i s a b c seen)
