-- What terms are seen as from somewhere.
use Rattle.std.proofs.Common.{◌≡◌, ℕ, suc, ◌+◌, ◌-◌, ◌<◌, ◌≤◌, Bool, true, false, ◌&&◌, if◌then◌else◌, cond, ℤ, pos, List, [], ◌∷◌, Option, Some, None, length, get_or, All, refl, sym, subst, ◌∙◌, ap, arith, slice_get, nat_lt}
use Rattle.std.proofs.lemmas.Bool.{and_from}
use Rattle.std.proofs.lemmas.Option.{slice_get_within}
use Rattle.pl_spec.specs.Rounding.{IsCell}
use Rattle.pl_spec.specs.World.{World, exists}
use Rattle.pl_spec.specs.Window.{before, seen_cell}
use Rattle.pl_spec.proofs.Windows.{before-pos, map-downward}
use Rattle.pl_pipeline.specs.Kind.{Kind, PointKind}
use Rattle.pl_pipeline.specs.Kind.Kind.{Label, Window, Point, Downsample}
use Rattle.pl_pipeline.specs.Kind.PointKind.{IsNull, NotNull, Sign}
use Rattle.pl_pipeline.specs.declared.WindowKind.{WindowKind}
use Rattle.pl_pipeline.specs.Pointwise.{pointwise}
use Rattle.pl_pipeline.specs.Term.{Node, Input, input_tree, trees, term_at}
use Rattle.pl_pipeline.specs.Term.Input.{BarColumn, TermInput}
use Rattle.pl_pipeline.specs.Text.{kind_at}
use Rattle.pl_pipeline.specs.Value.{Value, View, Own, From, seen_from, keeps_window, keeps_point, is_window_filter, is_point_filter, number_of, value_of_part, window_of, passes, view_of, sort_over, sort_kind, kind_value, empty, seen, value}
use Rattle.pl_pipeline.specs.NodeValue.{number_part, seen_part, seen_node_operands, node_seen}
use Rattle.pl_pipeline.specs.Table.{Pipeline, value_of, in_array}
use Rattle.pl_pipeline.proofs.Unfolds.{seen_at-node, stands}
use Rattle.pl_terms.specs.Checked.{IsChecked}
use Rattle.pl_terms.specs.declared.row.Sort.TheVariants.{Factors, Filters}
use Rattle.pl_terms.specs.Sorts.{Place, Filter, sort_of, sort_at, is_downsampled, window_places, point_places, fits, has_parameters}
use Rattle.pl_terms.proofs.TermSorts.{kind-own, sorted-there}
use Rattle.pl_lanes.specs.Flags.{IsFlag}
use Rattle.pl_cross.specs.Arrays.{sid_in}
use Rattle.pl_cross.proofs.Codes.{IsNumber}
use Rattle.pl_pointwise.specs.Operands.{IsOperation, AreOperands, ArePlaced, operation}
use Rattle.pl_values.specs.Arrays.{cell_of, empty_cell, is_kept, chosen}
use Rattle.pl_values.specs.Families.{windowed, TakesWindows}
use Rattle.pl_values.specs.Views.{seen_of, input_seen, operand_seen, keeps_kind, AreWindowsSeen, AreOperandsSeen, KeptCells, OwnCells, UnkeptSeen, SeenWindowCells, SeenPointCells}
use Rattle.pl_values.proofs.KindFamilies.{downsampled_kind}
use Rattle.pl_values.proofs.Typed.{has-input, filter-sort}
use Rattle.pl_values.proofs.Numbers.{gives_numbers, step_number, either_number, empty_is, plain-number, IsNumberedTerm}
use Rattle.pl_values.proofs.Cells.{keeps-is, empty-tree, none-chosen}
use Rattle.pl_values.proofs.Flags.{filter-flag}
use Rattle.pl_values.proofs.Operations.{used, uses-its-own, is_asked, points-plain, place-at, plain_place, takes-plain, all-at, term-at, has-cells}
use Rattle.pl_values.proofs.Formulas.{fit, most, term-numbered, takes-kind, paired-places, length-below, all-below}

-- ---- from where a kind sees what it reads

own : (b : Bool) (view : View) → b ≡ true → cond b Own view ≡ Own
own true view e = refl
own false view e = absurd (let no : false ≡ true = e in cc)

one : (b : Bool) (d u v : ℤ) → b ≡ true → cond b d u ≡ cond b d v
one true d u v e = refl
one false d u v e = absurd (let no : false ≡ true = e in cc)

-- what keeps its values sees from its own session
kept-view : (k : Kind) (view : View) (d : ℤ) → keeps_kind k ≡ true → view_of k view d ≡ view_of k Own d
kept-view (Window f) view d e = ap From (one (keeps_window f) d (seen_from view d) d e)
kept-view (Point f) view d e = own (keeps_point f) view e ∙ sym (own (keeps_point f) Own e)
kept-view k view d e = refl

filters : (b : Bool) → cond b Filters Factors ≡ Filters → b ≡ true
filters true e = refl
filters false e = absurd (let no : Factors ≡ Filters = e in cc)

window-keeps : (f : WindowKind) → is_window_filter f ≡ true → keeps_window f ≡ true
window-keeps f e = rw e refl

point-keeps : (f : PointKind) → is_point_filter f ≡ true → keeps_point f ≡ true
point-keeps Sign e = refl
point-keeps f e = e

pub asked-keeps : (f : PointKind) → is_asked f ≡ true → keeps_point f ≡ true
asked-keeps IsNull e = refl
asked-keeps NotNull e = refl
asked-keeps f e = absurd (let no : false ≡ true = e in cc)

-- filters do
filter-keeps : (k : Kind) → sort_of k ≡ Filters → keeps_kind k ≡ true
unfolding sort_of
filter-keeps (Window f) e = window-keeps f (filters (is_window_filter f) e)
filter-keeps (Point f) e = point-keeps f (filters (is_point_filter f) e)
filter-keeps k e = refl

unnumbered-keeps : (k : Kind) → gives_numbers k ≡ false → keeps_kind k ≡ true
unnumbered-keeps (Label n) e = refl
unnumbered-keeps (Downsample f) e = refl
unnumbered-keeps k e = absurd (let no : true ≡ false = e in cc)

module _ (w : World) (p : Pipeline) (ok : IsChecked p) (k : ℕ) (n : Node) (is : slice_get p.graph k ≡ Some n) where
  -- so it is the same in every view
  pub kept-seen : keeps_kind n.kind ≡ true → (view : View) (a : ℕ) (d : ℤ) → seen w p.names (term_at p.graph k) view a d ≡ value_of w p k a d
  unfolding value
  kept-seen e view a d =
      seen_at-node w p.names p.graph ok.graph k n is view a d
      ∙ ap (λ v. if exists w a d && passes (number_part w p.names p.graph n.mask) a d then kind_value w p.names n.kind n.window (seen_node_operands w p.names p.graph n v) a d
      else empty (sort_over n.kind (sort_kind (input_tree (trees p.graph) (slice_get n.inputs 0))))) (kept-view n.kind view d e)
      ∙ sym (seen_at-node w p.names p.graph ok.graph k n is Own a d)

  -- a numbered term is worth a number in every view
  pub seen-number : IsNumberedTerm w p ok k → (view : View) (a : ℕ) (d : ℤ) → IsNumber (seen w p.names (term_at p.graph k) view a d)
  seen-number numbered view a d = here (gives_numbers n.kind) refl
    where
      here : (b : Bool) → gives_numbers n.kind ≡ b → IsNumber (seen w p.names (term_at p.graph k) view a d)
      here true e =
          let whole : IsNumber (node_seen w p.names p.graph n view a d) = either_number
          (exists w a d && passes (number_part w p.names p.graph n.mask) a d) _ (empty (sort_over n.kind (sort_kind (input_tree (trees p.graph) (slice_get n.inputs 0)))))
          (step_number w p.names n.kind n.window (seen_node_operands w p.names p.graph n (view_of n.kind view d)) a d e)
          (number_of (empty (sort_over n.kind (sort_kind (input_tree (trees p.graph) (slice_get n.inputs 0))))), empty_is (sort_over n.kind (sort_kind (input_tree (trees p.graph) (slice_get n.inputs 0))))) in
          (whole.0, seen_at-node w p.names p.graph ok.graph k n is view a d ∙ whole.1)
      here false e =
          let own_value = numbered a d in
          (own_value.0, kept-seen (unnumbered-keeps n.kind e) view a d ∙ own_value.1)

-- ---- terms by number

module _ (w : World) (p : Pipeline) (ok : IsChecked p) (t : ℕ) where
  -- the number of a term that is worth one
  pub number-is : (m : Node) → slice_get p.graph t ≡ Some m → IsNumberedTerm w p ok t → (view : View) (a : ℕ) (d : ℤ)
      → number_of (seen w p.names (term_at p.graph t) view a d) ≡ in_array w.texts (seen w p.names (term_at p.graph t) view a d)
  number-is m is numbered view a d = let e = (seen-number w p ok t m is numbered view a d).1 in rw e refl

  -- a filter is a flag in every view
  term-keeps : (m : Node) → slice_get p.graph t ≡ Some m → sort_of (kind_at p.graph t) ≡ Filters → keeps_kind m.kind ≡ true
  term-keeps m at q = here (is_downsampled m.kind) refl
    where
      here : (b : Bool) → is_downsampled m.kind ≡ b → keeps_kind m.kind ≡ true
      here false h = filter-keeps m.kind (ap sort_of (sym (kind-own p.graph t m at h)) ∙ q)
      here true h = ap keeps_kind (downsampled_kind m.kind h).1

  pub flag-seen : sort_at p.graph t ≡ Some Filters → (view : View) (a : ℕ) (d : ℤ) → IsFlag (in_array w.texts (seen w p.names (term_at p.graph t) view a d))
  flag-seen s view a d =
      let m = sorted-there p.graph t Filters s in
      subst (λ v. IsFlag (in_array w.texts v)) (sym (kept-seen w p ok t m.0 m.1 (term-keeps m.0 m.1 m.2) view a d)) (filter-flag w p t a d ok s)

-- ---- a node

module _ (w : World) (p : Pipeline) (sids : List ℕ) (ok : IsChecked p) (k : ℕ) (n : Node) (is : slice_get p.graph k ≡ Some n) (i s : ℕ) (view : View) where
  abbrev inner : View
  inner = view_of n.kind view (pos s)

  abbrev given : Value
  given = kind_value w p.names n.kind n.window (seen_node_operands w p.names p.graph n inner) (sid_in sids i) (pos s)

  -- every kind alike: what the kind gives over what it reads as it is seen, where the asset is kept
  seen-gated : (x : ℤ) → in_array w.texts given ≡ x → seen_of w p sids k view i s ≡ chosen (is_kept w p sids n.mask i s) x (empty_cell p k)
  unfolding seen_of
  seen-gated x e =
      ap (in_array w.texts) (seen_at-node w p.names p.graph ok.graph k n is view (sid_in sids i) (pos s))
      ∙ ap (λ b. in_array w.texts (if b then given else empty (sort_over n.kind (sort_kind (input_tree (trees p.graph) (slice_get n.inputs 0)))))) (keeps-is w p sids ok k n is i s)
      ∙ here (is_kept w p sids n.mask i s)
    where
      here : (b : Bool) → in_array w.texts (if b then given else empty (sort_over n.kind (sort_kind (input_tree (trees p.graph) (slice_get n.inputs 0))))) ≡ chosen b x (empty_cell p k)
      here true = e
      here false = ap (in_array w.texts) (empty-tree w p sids ok k n is i s)

pub unkept-seen : UnkeptSeen
unkept-seen w p sids k n i s own view h = seen-gated w p sids own.checked k n own.node i s view _ refl ∙ none-chosen (is_kept w p sids n.mask i s) _ (empty_cell p k) h

-- ---- windows

module _ (w : World) (p : Pipeline) (sids : List ℕ) (ok : IsChecked p) (k : ℕ) (n : Node) (is : slice_get p.graph k ≡ Some n) (f : WindowKind) (e : n.kind ≡ Window f) (i s : ℕ) (view : View) where
  window-seen : n.window ≤ s + 1 → (j : ℕ) (o : Option Input) → slice_get n.inputs j ≡ o
      → window_of w n.window (seen_part w p.names p.graph view o) (sid_in sids i) (pos s) ≡ input_seen w p sids n.window o view i s
  unfolding seen_of
  window-seen early j None h = refl
  window-seen early j (Some (BarColumn c)) h = refl
  window-seen early j (Some (TermInput t)) h =
      let m = stands p.graph t (input-below j t h) in
      map-downward _ _ n.window
      (λ q l. ap (λ d. number_of (seen w p.names (term_at p.graph t) view (sid_in sids i) d)) (before-pos s q (omega arith))
      ∙ number-is w p ok t m.0 m.1 (term-numbered w p sids ok k n is f e j t h) view (sid_in sids i) (pos (s - q)))
    where
      input-below : (j t : ℕ) → slice_get n.inputs j ≡ Some (TermInput t) → t < length p.graph
      input-below j t h = let l : t < k = (ok.graph.lower k n is).inputs j t h in let b : k < length p.graph = slice_get_within p.graph k n is in omega arith

  window-full : (x : Input) → length (input_seen w p sids n.window (Some x) view i s) ≡ n.window
  window-full (BarColumn c) = length-below (λ m. seen_cell w (sid_in sids i) c (before (pos s) (suc m)) (seen_from view (pos s))) n.window
  window-full (TermInput t) = length-below (λ m. seen_of w p sids t view i (s - m)) n.window

  window-long : (o : Option Input) → length (input_seen w p sids n.window o view i s) ≤ n.window
  window-long None = omega arith
  window-long (Some x) = let l = window-full x in omega (arith, l)

  -- the window of a filter
  flags-in : (a : List ℤ) → slice_get (window_places f) 0 ≡ Some Filter → a ≡ input_seen w p sids n.window (slice_get n.inputs 0) view i s → All IsFlag a
  unfolding seen_of
  flags-in a h g = let x = has-input p.graph (window_places f) n.inputs 0 Filter (fit w p sids ok k n is f e) h in here x.0 x.1 x.2
    where
      here : (x : Input) → slice_get n.inputs 0 ≡ Some x → fits p.graph Filter x ≡ true → All IsFlag a
      here (BarColumn c) u v = absurd (let bad : false ≡ true = v in cc)
      here (TermInput t) u v = subst (All IsFlag) (sym (g ∙ ap (λ o. input_seen w p sids n.window o view i s) u))
          (all-below IsFlag (λ m. seen_of w p sids t view i (s - m)) n.window
          (λ m. flag-seen w p ok t (filter-sort (sort_at p.graph t) v) view (sid_in sids i) (pos (s - m))))

  -- two windows are of one length
  two-full : (a b : List ℤ) (q r : Place) → slice_get (window_places f) 0 ≡ Some q → slice_get (window_places f) 1 ≡ Some r
      → a ≡ input_seen w p sids n.window (slice_get n.inputs 0) view i s → b ≡ input_seen w p sids n.window (slice_get n.inputs 1) view i s → length b ≡ length a
  two-full a b q r h g u v =
      let x = has-input p.graph (window_places f) n.inputs 0 q (fit w p sids ok k n is f e) h in
      let y = has-input p.graph (window_places f) n.inputs 1 r (fit w p sids ok k n is f e) g in
      ap length (v ∙ ap (λ o. input_seen w p sids n.window o view i s) y.1) ∙ window-full y.0
      ∙ sym (ap length (u ∙ ap (λ o. input_seen w p sids n.window o view i s) x.1) ∙ window-full x.0)

  -- what the call asks for
  pub view-takes : (a b c : List ℤ) → AreWindowsSeen w p sids n view i s a b c → TakesWindows n.kind a b c
  view-takes a b c g =
      let parameters = subst (λ q. has_parameters q n.window (length p.names) ≡ true) e (ok.nodes k n is).parameters in
      subst (λ q. TakesWindows q a b c) (sym e) (record {
        kind = takes-kind f n.window (length p.names) a parameters (λ h. flags-in a h g.first) g.first_cells;
        first = g.first_cells;
        second = g.second_cells;
        third = g.third_cells;
        few =
            (let long : length a ≤ n.window = subst (λ l. length l ≤ n.window) (sym g.first) (window-long (slice_get n.inputs 0)) in
            let m = most w p sids ok k n is f e in omega (arith, long, m));
        paired = λ h. let q = paired-places f h in two-full a b q.0 q.1 q.2 q.3 g.first g.second;
      })

pub seen-window-cell : SeenWindowCells
unfolding kind_value
seen-window-cell w p sids k n i s own f view a b c e early g =
    let inner = view_of n.kind view (pos s) in
    let same = window-seen w p sids own.checked k n own.node f e i s inner early in (
      view-takes w p sids own.checked k n own.node f e i s inner a b c g,
      seen-gated w p sids own.checked k n own.node i s view (windowed n.kind a b c)
          (ap (λ q. in_array w.texts (kind_value w p.names q n.window (seen_node_operands w p.names p.graph n inner) (sid_in sids i) (pos s))) e
          ∙ rw (same 0 (slice_get n.inputs 0) refl, same 1 (slice_get n.inputs 1) refl, same 2 (slice_get n.inputs 2) refl, sym g.first, sym g.second, sym g.third) refl
          ∙ ap (λ q. windowed q a b c) (sym e)),
    )

-- ---- operations

module _ (w : World) (p : Pipeline) (sids : List ℕ) (ok : IsChecked p) (k : ℕ) (n : Node) (is : slice_get p.graph k ≡ Some n) (f : PointKind) (e : n.kind ≡ Point f) (moves : keeps_point f ≡ false) (i s : ℕ) (view : View) where
  unasked : is_asked f ≡ false
  unasked = here (is_asked f) refl
    where
      here : (b : Bool) → is_asked f ≡ b → b ≡ false
      here false q = refl
      here true q = absurd (let no : true ≡ false = sym (asked-keeps f q) ∙ moves in cc)

  abbrev value-at : ℕ → ℤ
  value-at j = number_of (value_of_part (seen_part w p.names p.graph view (slice_get n.inputs j)) (sid_in sids i) (pos s))

  -- the number of an operand that is used
  operand-same : (j : ℕ) (x : ℤ) → x ≡ operand_seen w p sids (slice_get n.inputs j) view i s → used f j (value-at j) ≡ used f j x
  unfolding seen_of
  operand-same j x h = here (nat_lt j (length (point_places f))) refl
    where
      here : (b : Bool) → nat_lt j (length (point_places f)) ≡ b → used f j (value-at j) ≡ used f j x
      here false g = rw g refl
      here true g =
          let q = place-at (point_places f) j g in
          let t = term-at w p sids ok k n is f e j q.0 q.1 in
          let plain = all-at plain_place (point_places f) j q.0 (points-plain f unasked) q.1 in
          let numbered = plain-number w p ok t.0 (sort_at p.graph t.0) refl (takes-plain q.0 (sort_at p.graph t.0) (and_from _ _ plain t.2)) in
          let below : t.0 < length p.graph = (let l : t.0 < k = (ok.graph.lower k n is).inputs j t.0 t.1 in let b : k < length p.graph = slice_get_within p.graph k n is in omega arith) in
          let m = stands p.graph t.0 below in
          ap (used f j)
          (ap (λ (o : Option Input). number_of (value_of_part (seen_part w p.names p.graph view o) (sid_in sids i) (pos s))) t.1
          ∙ number-is w p ok t.0 m.0 m.1 numbered view (sid_in sids i) (pos s)
          ∙ sym (h ∙ ap (λ o. operand_seen w p sids o view i s) t.1))

  same-point : (x y z : ℤ) → AreOperandsSeen w p sids n view i s x y z → pointwise f (value-at 0) (value-at 1) (value-at 2) ≡ pointwise f x y z
  same-point x y z g =
      uses-its-own f _ _ _
      ∙ ap (λ q. pointwise f q (used f 1 (value-at 1)) (used f 2 (value-at 2))) (operand-same 0 x g.first)
      ∙ ap (λ q. pointwise f (used f 0 x) q (used f 2 (value-at 2))) (operand-same 1 y g.second)
      ∙ ap (λ q. pointwise f (used f 0 x) (used f 1 y) q) (operand-same 2 z g.third)
      ∙ sym (uses-its-own f x y z)

  -- what the call asks for
  single : (P : ℤ → Type 0) (x : ℤ) → P x → All P (x ∷ [])
  single P x h = λ k d l. let z : k ≡ 0 = omega (arith, l) in subst (λ j. P (get_or (x ∷ []) j d)) (sym z) h

  flag-at : (j : ℕ) (x : ℤ) → slice_get (point_places f) j ≡ Some Filter → x ≡ operand_seen w p sids (slice_get n.inputs j) view i s → IsFlag x
  unfolding seen_of
  flag-at j x h g =
      let t = term-at w p sids ok k n is f e j Filter h in
      subst IsFlag (sym (g ∙ ap (λ o. operand_seen w p sids o view i s) t.1)) (flag-seen w p ok t.0 (filter-sort (sort_at p.graph t.0) t.2) view (sid_in sids i) (pos s))

  placed-at : (j : ℕ) (x : ℤ) (o : Option Place) → slice_get (point_places f) j ≡ o → x ≡ operand_seen w p sids (slice_get n.inputs j) view i s → IsCell x → ArePlaced o 1 (x ∷ [])
  placed-at j x None h g c = tt
  placed-at j x (Some Filter) h g c = record { flags = single IsFlag x (flag-at j x h g); many = refl }
  placed-at j x (Some q) h g c = record { cells = single IsCell x c; many = refl }

  pub view-operands : (x y z : ℤ) → AreOperandsSeen w p sids n view i s x y z → IsOperation n.kind × AreOperands n.kind (x ∷ []) (y ∷ []) (z ∷ []) 1
  view-operands x y z g =
      let parameters = subst (λ q. has_parameters q n.window (length p.names) ≡ true) e (ok.nodes k n is).parameters in (
        subst IsOperation (sym e) (has-cells f n.window (length p.names) parameters),
        subst (λ q. AreOperands q (x ∷ []) (y ∷ []) (z ∷ []) 1) (sym e)
            (placed-at 0 x _ refl g.first g.first_cell, placed-at 1 y _ refl g.second g.second_cell, placed-at 2 z _ refl g.third g.third_cell),
      )

-- an operation that moves sees its operands from where it is seen itself
moving-view : (f : PointKind) (view : View) (d : ℤ) → keeps_point f ≡ false → view_of (Point f) view d ≡ view
moving-view f view d e = rw e refl

pub seen-point-cell : SeenPointCells
unfolding kind_value
seen-point-cell w p sids k n i s own f view x y z e moves g =
    let asks = view-operands w p sids own.checked k n own.node f e moves i s view x y z g in
    let inner = ap (λ q. view_of q view (pos s)) e ∙ moving-view f view (pos s) moves in (
      asks.0,
      asks.1,
      seen-gated w p sids own.checked k n own.node i s view (operation n.kind x y z)
          (ap (λ v. in_array w.texts (kind_value w p.names n.kind n.window (seen_node_operands w p.names p.graph n v) (sid_in sids i) (pos s))) inner
          ∙ ap (λ q. in_array w.texts (kind_value w p.names q n.window (seen_node_operands w p.names p.graph n view) (sid_in sids i) (pos s))) e
          ∙ same-point w p sids own.checked k n own.node f e moves i s view x y z g
          ∙ ap (λ q. operation q x y z) (sym e)),
    )

-- ---- what keeps its values

pub kept-cell : KeptCells
unfolding seen_of cell_of
kept-cell w p sids k n i s own view e = ap (in_array w.texts) (kept-seen w p own.checked k n own.node e view (sid_in sids i) (pos s))

pub own-cell : OwnCells
unfolding seen_of cell_of value
own-cell w p sids t i s = refl
