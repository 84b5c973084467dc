-- Formulas and filters over windows that are seen from somewhere and may reach below session 0.
use Rattle.std.proofs.Common.{◌≡◌, ℕ, suc, ◌<◌, ◌≤◌, Bool, true, false, if◌then◌else◌, ℤ, pos, List, Option, Some, None, length, All, refl, sym, subst, ◌∙◌, ap, arith, slice_get}
use Rattle.std.proofs.lemmas.Option.{slice_get_within}
use Rattle.pl_spec.specs.Rounding.{IsCell}
use Rattle.pl_spec.specs.World.{World}
use Rattle.pl_spec.specs.Window.{before, seen_cell}
use Rattle.pl_pipeline.specs.Kind.Kind.{Window}
use Rattle.pl_pipeline.specs.declared.WindowKind.{WindowKind}
use Rattle.pl_pipeline.specs.Term.{Node, Input, input_tree, trees, term_at}
use Rattle.pl_pipeline.specs.Term.Input.{BarColumn, TermInput}
use Rattle.pl_pipeline.specs.Value.{Value, View, seen_from, number_of, window_of, view_of, sort_over, sort_kind, kind_value, empty, seen}
use Rattle.pl_pipeline.specs.NodeValue.{seen_part, seen_node_operands}
use Rattle.pl_pipeline.specs.Table.{Pipeline, in_array}
use Rattle.pl_pipeline.proofs.Unfolds.{seen_at-node, stands}
use Rattle.pl_terms.specs.Checked.{IsChecked}
use Rattle.pl_terms.specs.Sorts.{Place, Filter, sort_at, window_places, fits, has_parameters}
use Rattle.pl_lanes.specs.Flags.{IsFlag}
use Rattle.pl_cross.specs.Arrays.{sid_in}
use Rattle.pl_values.specs.Arrays.{empty_cell, is_kept, chosen}
use Rattle.pl_values.specs.Families.{windowed, TakesWindows}
use Rattle.pl_values.specs.Views.{seen_of}
use Rattle.pl_values.proofs.Typed.{has-input, filter-sort}
use Rattle.pl_values.proofs.Cells.{keeps-is, empty-tree}
use Rattle.pl_values.proofs.Formulas.{fit, most, term-numbered, takes-kind, paired-places, length-below, all-below}
use Rattle.pl_values.proofs.Viewed.{flag-seen, number-is}

module _ (w : World) (p : Pipeline) (sids : List ℕ) (ok : IsChecked p) (k : ℕ) (n : Node) (is : slice_get p.graph k ≡ Some n) (f : WindowKind) (e : n.kind ≡ Window f) (i s : ℕ) (view : View) where
  -- the window of an input as the definitions have it
  abbrev pub window_seen : Option Input → List ℤ
  window_seen o = window_of w n.window (seen_part w p.names p.graph view o) (sid_in sids i) (pos s)

  pub record AreSeenFrom (a b c : List ℤ) : Type 0 where
    pub first : a ≡ window_seen (slice_get n.inputs 0)
    pub second : b ≡ window_seen (slice_get n.inputs 1)
    pub third : c ≡ window_seen (slice_get n.inputs 2)
    pub first_cells : All IsCell a
    pub second_cells : All IsCell b
    pub third_cells : All IsCell c

  input-below : (j t : ℕ) → slice_get n.inputs j ≡ Some (TermInput t) → t < length p.graph
  input-below j t h = let l : t < k = (ok.graph.lower k n is).inputs j t h in let b : k < length p.graph = slice_get_within p.graph k n is in omega arith

  window-full : (x : Input) → length (window_seen (Some x)) ≡ n.window
  window-full (BarColumn c) = length-below (λ m. seen_cell w (sid_in sids i) c (before (pos s) (suc m)) (seen_from view (pos s))) n.window
  window-full (TermInput t) = length-below (λ m. number_of (seen w p.names (term_at p.graph t) view (sid_in sids i) (before (pos s) m))) n.window

  window-long : (o : Option Input) → length (window_seen o) ≤ n.window
  window-long None = omega arith
  window-long (Some x) = let l = window-full x in omega (arith, l)

  -- of a term in a window the array has the numbers
  pub numbers-seen : (j t : ℕ) → slice_get n.inputs j ≡ Some (TermInput t) → (d : ℤ)
      → number_of (seen w p.names (term_at p.graph t) view (sid_in sids i) d) ≡ in_array w.texts (seen w p.names (term_at p.graph t) view (sid_in sids i) d)
  numbers-seen j t h d = let m = stands p.graph t (input-below j t h) in number-is w p ok t m.0 m.1 (term-numbered w p sids ok k n is f e j t h) view (sid_in sids i) d

  flags-in : (a : List ℤ) → slice_get (window_places f) 0 ≡ Some Filter → a ≡ window_seen (slice_get n.inputs 0) → All IsFlag a
  flags-in a h g = let x = has-input p.graph (window_places f) n.inputs 0 Filter (fit w p sids ok k n is f e) h in here x.0 x.1 x.2
    where
      here : (x : Input) → slice_get n.inputs 0 ≡ Some x → fits p.graph Filter x ≡ true → All IsFlag a
      here (BarColumn c) u v = absurd (let bad : false ≡ true = v in cc)
      here (TermInput t) u v = subst (All IsFlag) (sym (g ∙ ap window_seen u))
          (all-below IsFlag (λ m. number_of (seen w p.names (term_at p.graph t) view (sid_in sids i) (before (pos s) m))) n.window
          (λ m. subst IsFlag (sym (numbers-seen 0 t u (before (pos s) m))) (flag-seen w p ok t (filter-sort (sort_at p.graph t) v) view (sid_in sids i) (before (pos s) m))))

  two-full : (a b : List ℤ) (q r : Place) → slice_get (window_places f) 0 ≡ Some q → slice_get (window_places f) 1 ≡ Some r
      → a ≡ window_seen (slice_get n.inputs 0) → b ≡ window_seen (slice_get n.inputs 1) → length b ≡ length a
  two-full a b q r h g u v =
      let x = has-input p.graph (window_places f) n.inputs 0 q (fit w p sids ok k n is f e) h in
      let y = has-input p.graph (window_places f) n.inputs 1 r (fit w p sids ok k n is f e) g in
      ap length (v ∙ ap window_seen y.1) ∙ window-full y.0 ∙ sym (ap length (u ∙ ap window_seen x.1) ∙ window-full x.0)

  -- what the call asks for
  pub seen-takes : (a b c : List ℤ) → AreSeenFrom a b c → TakesWindows n.kind a b c
  seen-takes a b c g =
      let parameters = subst (λ q. has_parameters q n.window (length p.names) ≡ true) e (ok.nodes k n is).parameters in
      subst (λ q. TakesWindows q a b c) (sym e) (record {
        kind = takes-kind f n.window (length p.names) a parameters (λ h. flags-in a h g.first) g.first_cells;
        first = g.first_cells;
        second = g.second_cells;
        third = g.third_cells;
        few =
            (let long : length a ≤ n.window = subst (λ l. length l ≤ n.window) (sym g.first) (window-long (slice_get n.inputs 0)) in
            let m = most w p sids ok k n is f e in omega (arith, long, m));
        paired = λ h. let q = paired-places f h in two-full a b q.0 q.1 q.2 q.3 g.first g.second;
      })

-- a term is what its kind gives over windows that are seen from where it sees them
module _ (w : World) (p : Pipeline) (sids : List ℕ) (ok : IsChecked p) (k : ℕ) (n : Node) (is : slice_get p.graph k ≡ Some n) (f : WindowKind) (e : n.kind ≡ Window f) (i s : ℕ) (view : View) where
  abbrev inner : View
  inner = view_of n.kind view (pos s)

  abbrev given : Value
  given = kind_value w p.names n.kind n.window (seen_node_operands w p.names p.graph n inner) (sid_in sids i) (pos s)

  gated : (x : ℤ) → in_array w.texts given ≡ x → seen_of w p sids k view i s ≡ chosen (is_kept w p sids n.mask i s) x (empty_cell p k)
  unfolding seen_of
  gated x h =
      ap (in_array w.texts) (seen_at-node w p.names p.graph ok.graph k n is view (sid_in sids i) (pos s))
      ∙ ap (λ b. in_array w.texts (if b then given else empty (sort_over n.kind (sort_kind (input_tree (trees p.graph) (slice_get n.inputs 0)))))) (keeps-is w p sids ok k n is i s)
      ∙ here (is_kept w p sids n.mask i s)
    where
      here : (b : Bool) → in_array w.texts (if b then given else empty (sort_over n.kind (sort_kind (input_tree (trees p.graph) (slice_get n.inputs 0))))) ≡ chosen b x (empty_cell p k)
      here true = h
      here false = ap (in_array w.texts) (empty-tree w p sids ok k n is i s)

  pub window-seen-cell : (a b c : List ℤ) → AreSeenFrom w p sids ok k n is f e i s (view_of n.kind view (pos s)) a b c
      → seen_of w p sids k view i s ≡ chosen (is_kept w p sids n.mask i s) (windowed n.kind a b c) (empty_cell p k)
  unfolding kind_value
  window-seen-cell a b c g =
      gated (windowed n.kind a b c)
      (ap (λ q. in_array w.texts (kind_value w p.names q n.window (seen_node_operands w p.names p.graph n inner) (sid_in sids i) (pos s))) e
      ∙ rw (sym g.first, sym g.second, sym g.third) refl
      ∙ ap (λ q. windowed q a b c) (sym e))
