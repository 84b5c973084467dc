-- What the calls of an evaluation give is the value of the term.
use Rattle.std.proofs.Common.{◌≡◌, ℕ, ◌+◌, ◌<◌, ◌≤◌, Bool, true, false, ℤ, pos, List, [], ◌∷◌, length, get_or, Option, Some, None, option_map, slice_get, All, ◌⊎◌, inl, inr, unwrap_or, refl, sym, ◌∙◌, ap, subst, arith}
use Rattle.pl_spec.specs.Rounding.{IsCell}
use Rattle.pl_spec.specs.World.{World as SpecWorld, exists}
use Rattle.pl_spec.specs.Parts.{sid_at}
use Rattle.pl_spec.specs.declared.AssetRow.{AssetRow}
use Rattle.pl_lifetimes.specs.Assets.{sid_of}
use Rattle.pl_spec.specs.declared.Frequency.{Frequency}
use Rattle.pl_spec.specs.Periods.{period_start}
use Rattle.pl_pipeline.specs.Kind as kinds
use Rattle.pl_pipeline.specs.Kind.{Kind}
use Rattle.pl_pipeline.specs.Term as spec
use Rattle.pl_pipeline.specs.Term.{term_at}
use Rattle.pl_pipeline.specs.Value.{number_of as number_in, empty, sort_kind, name_at}
use Rattle.pl_spec.specs.World.{label_at, known_number}
use Rattle.pl_spec.specs.declared.Figure.{Figure}
pub use Rattle.pl_pipeline.proofs.Unfolds.{stands as code-node}
use Rattle.pl_terms.specs.declared.node.TermId.{TermId}
use Rattle.pl_terms.specs.declared.node.Input.{Input}
use Rattle.pl_terms.specs.declared.node.Input.TheVariants as input
use Rattle.pl_terms.specs.declared.node.Node.{Node}
use Rattle.pl_terms.specs.Kinds.{kind_of}
use Rattle.pl_terms.specs.Nodes.{node_of, graph_of, input_of, number_of}
use Rattle.pl_terms.specs.Checked.{Parts, pipeline_of, IsChecked}
use Rattle.pl_terms.specs.Sorts.{is_windowed}
use Rattle.pl_terms.proofs.Graphs.{graph-at}
use Rattle.pl_pointwise.specs.Operands.{IsOperation, AreOperands, operation}
use Rattle.pl_cross.specs.Section.{is_section}
use Rattle.pl_cross.specs.Arrays.{HasTexts}
use Rattle.pl_values.specs.Arrays.{cell_of, empty_cell, is_kept, chosen}
use Rattle.pl_values.specs.Inputs.{input_window, AreWindows, IsInputRow, AreRows}
use Rattle.pl_values.specs.Families.{windowed, TakesWindows, sid_flag, label_code, IsCode, code_flag, is_sids, is_point, is_label_test}
use Rattle.pl_values.specs.Laws.{IsNode}
pub use Rattle.pl_values.proofs.KindFamilies.{window_kind as windowed-is, point_kind as point-is, label_test_kind as label-test-is, sids_kind as sids-is, section_kind as section-is}
use Rattle.pl_values.proofs.Given.{unkept-cell, constant-cell, window-cell, point-cell, point-operands, sid-cell, label-cell, number-cell, label-test-cell, label-input, section-input, window-input, downsampled-cell, downsampled-input}
use Rattle.pl_world.specs.declared.world.World.{World}
use Rattle.pl_world.specs.Worlds.{world_of}
use Rattle.pl_world.specs.Evaluations.{IsAskedInput, IsKept, as_input, lets_pass, cell_in, input_cell_in, window_in}
use Rattle.pl_world.proofs.Asked.{inputs-at}

-- an input of the code that is a term by the definitions
term-input : (o : Option Input) (t : ℕ) → option_map input_of o ≡ Some (spec.TermInput t) → (u : TermId) × (o ≡ Some (input.Term u)) × (u.0 ≡ t)
term-input None t e = absurd (let bad : None ≡ Some (spec.TermInput t) = e in cc)
term-input (Some (input.Column k)) t e = absurd (let bad : Some (spec.BarColumn k) ≡ Some (spec.TermInput t) = e in cc)
term-input (Some (input.Term u)) t e = (u, refl, let same : Some (spec.TermInput u.0) ≡ Some (spec.TermInput t) = e in cc)

-- a world with nothing in it
no_world : SpecWorld
no_world = record { days = []; assets = []; labels = []; texts = []; bars = []; adjustments = []; numbers = [] }

module _ (c : Parts) (ok : IsChecked (pipeline_of c)) (t : ℕ) (n : Node) (is : slice_get c.graph t ≡ Some n) where
  there : slice_get (graph_of c.graph) t ≡ Some (node_of n)
  there = graph-at c.graph t n is

  -- the input of a cross-section, and that of a label's test
  pub section-term : is_section (kind_of n.kind) ≡ true → (u : TermId) × (slice_get n.inputs 0 ≡ Some (input.Term u))
  unfolding node_of
  section-term e =
      let f = section-is (kind_of n.kind) e in
      let x = section-input no_world (pipeline_of c) [] ok t (node_of n) there f.0 f.1 in
      let u = term-input (slice_get n.inputs 0) x.0 (sym (inputs-at n 0) ∙ x.1) in
      (u.0, u.1)

  pub label-term : is_label_test (kind_of n.kind) ≡ true → (u : TermId) × (slice_get n.inputs 0 ≡ Some (input.Term u))
  unfolding node_of
  label-term e =
      let f = label-test-is (kind_of n.kind) e in
      let x = label-input (pipeline_of c) ok t (node_of n) there f.0 f.1 in
      let u = term-input (slice_get n.inputs 0) x.0 (sym (inputs-at n 0) ∙ x.1) in
      (u.0, u.1)

  -- a window is no longer than the sessions up to the one that is asked for
  pub window-early : (w : World) (s : ℕ) → is_windowed (kind_of n.kind) ≡ true → IsAskedInput w c (slice_get n.inputs 0) n.window s → n.window ≤ s + 1
  unfolding node_of
  window-early w s e asked =
      let f = windowed-is (kind_of n.kind) e in
      let x = window-input no_world (pipeline_of c) [] ok t (node_of n) there f.0 f.1 in
      here (slice_get n.inputs 0) x.0 (sym (inputs-at n 0) ∙ x.1) asked
    where
      here : (o : Option Input) (y : spec.Input) → option_map input_of o ≡ Some y → IsAskedInput w c o n.window s → n.window ≤ s + 1
      here None y e asked = absurd (let bad : None ≡ Some y = e in cc)
      here (Some (input.Column k)) y e asked = omega (arith, asked)
      here (Some (input.Term u)) y e asked = asked.0

pub not-windowed : (k : Kind) → (is_label_test k ≡ true) ⊎ (is_point k ≡ true) ⊎ (is_section k ≡ true) → is_windowed k ≡ false
not-windowed (kinds.Window f) (inl e) = absurd (let bad : false ≡ true = e in cc)
not-windowed (kinds.Window f) (inr (inl e)) = absurd (let bad : false ≡ true = e in cc)
not-windowed (kinds.Window f) (inr (inr e)) = absurd (let bad : false ≡ true = e in cc)
not-windowed k e = refl

pub downsampled-plain : (k : Kind) (f : Frequency) → k ≡ kinds.Downsample f → is_windowed k ≡ false
downsampled-plain k f e = ap is_windowed e

module _ (w : World) (c : Parts) (ok : IsChecked (pipeline_of c)) (t : ℕ) (n : Node) (is : slice_get c.graph t ≡ Some n) where
  own : IsNode (pipeline_of c) t (node_of n)
  own = record { checked = ok; node = there c ok t n is }

  module _ (a s : ℕ) where
    -- what stands in the place of a value that is not there
    abbrev none : ℤ
    none = number_in (empty (sort_kind (term_at (graph_of c.graph) t)))

    unkept : is_kept (world_of w) (pipeline_of c) (a ∷ []) (option_map number_of n.mask) 0 s ≡ false → cell_in w c t a s ≡ none
    unfolding cell_of node_of
    unkept e = unkept-cell (world_of w) (pipeline_of c) (a ∷ []) t (node_of n) 0 s own e

    lacks-kept : (o : Option ℕ) → exists (world_of w) a (pos s) ≡ false → is_kept (world_of w) (pipeline_of c) (a ∷ []) o 0 s ≡ false
    lacks-kept None e = e
    lacks-kept (Some m) e = rw e refl

    pub cell-lacks : exists (world_of w) a (pos s) ≡ false → cell_in w c t a s ≡ none
    cell-lacks e = unkept (lacks-kept (option_map number_of n.mask) e)

    pub kept-mask : (o : Option TermId) (b : Bool) → exists (world_of w) a (pos s) ≡ true → lets_pass (as_input o) (input_cell_in w c (as_input o) a s) ≡ b
        → is_kept (world_of w) (pipeline_of c) (a ∷ []) (option_map number_of o) 0 s ≡ b
    unfolding cell_of
    kept-mask None b e h = e ∙ h
    kept-mask (Some u) b e h = rw e h

    pub cell-barred : exists (world_of w) a (pos s) ≡ true → lets_pass (as_input n.mask) (input_cell_in w c (as_input n.mask) a s) ≡ false → cell_in w c t a s ≡ none
    cell-barred e h = unkept (kept-mask n.mask false e h)

    pub cell-kept : exists (world_of w) a (pos s) ≡ true → lets_pass (as_input n.mask) (input_cell_in w c (as_input n.mask) a s) ≡ true → IsKept w c t a s
    cell-kept e h = λ m f. let same : Some n ≡ Some m = sym is ∙ f in let one : n ≡ m = cc in
        subst (λ q. is_kept (world_of w) (pipeline_of c) (a ∷ []) (option_map number_of q.mask) 0 s ≡ true) one (kept-mask n.mask true e h)

    module _ (kept : IsKept w c t a s) where
      held : (x : ℤ) → cell_of (world_of w) (pipeline_of c) (a ∷ []) t 0 s ≡ chosen (is_kept (world_of w) (pipeline_of c) (a ∷ []) (node_of n).mask 0 s) x (empty_cell (pipeline_of c) t) → x ≡ cell_in w c t a s
      unfolding cell_of node_of
      held x e = sym (e ∙ ap (λ b. chosen b x (empty_cell (pipeline_of c) t)) (kept n is))

      pub constant-given : (v : ℤ) → kind_of n.kind ≡ kinds.Constant v → IsCell v × (v ≡ cell_in w c t a s)
      unfolding node_of
      constant-given v e = let l = constant-cell (world_of w) (pipeline_of c) (a ∷ []) t (node_of n) 0 s own v e in (l.0, held v l.1)

      pub sid-given : is_sids (kind_of n.kind) ≡ true → sid_flag (kind_of n.kind) a ≡ cell_in w c t a s
      unfolding node_of
      sid-given e = let f = sids-is (kind_of n.kind) e in held (sid_flag (kind_of n.kind) a) (sid-cell (world_of w) (pipeline_of c) (a ∷ []) t (node_of n) 0 s own f.0 f.1)

      pub label-named : (name : ℕ) → kind_of n.kind ≡ kinds.Label name → name < length (pipeline_of c).names
      unfolding node_of
      label-named name e = (label-cell (world_of w) (pipeline_of c) (a ∷ []) t (node_of n) 0 s own name e).0

      pub label-given : (name : ℕ) → kind_of n.kind ≡ kinds.Label name → label_code (world_of w).texts (label_at (world_of w) (name_at (pipeline_of c).names name) a (pos s)) ≡ cell_in w c t a s
      unfolding node_of
      label-given name e = held _ (label-cell (world_of w) (pipeline_of c) (a ∷ []) t (node_of n) 0 s own name e).1

      pub number-named : (f : Figure) (name : ℕ) → kind_of n.kind ≡ kinds.Number f name → name < length (pipeline_of c).names
      unfolding node_of
      number-named f name e = (number-cell (world_of w) (pipeline_of c) (a ∷ []) t (node_of n) 0 s own f name e).0

      pub number-given : (f : Figure) (name : ℕ) → kind_of n.kind ≡ kinds.Number f name → known_number (world_of w) f (name_at (pipeline_of c).names name) a (pos s) ≡ cell_in w c t a s
      unfolding node_of
      number-given f name e = held _ (number-cell (world_of w) (pipeline_of c) (a ∷ []) t (node_of n) 0 s own f name e).1

      pub label-test-given : HasTexts (world_of w) → is_label_test (kind_of n.kind) ≡ true → (x : ℤ) → x ≡ input_cell_in w c (slice_get n.inputs 0) a s
          → IsCode (world_of w).texts x × (code_flag (world_of w).texts (kind_of n.kind) x ≡ cell_in w c t a s)
      unfolding node_of cell_of
      label-test-given texts e x h =
          let f = label-test-is (kind_of n.kind) e in
          let u = label-term c ok t n is e in
          let l = label-test-cell (world_of w) (pipeline_of c) (a ∷ []) t (node_of n) 0 s own f.0 u.0.0 texts f.1 (inputs-at n 0 ∙ ap (option_map input_of) u.1) in
          let same : x ≡ cell_in w c u.0.0 a s = h ∙ ap (λ o. input_cell_in w c o a s) u.1 in
          (subst (IsCode (world_of w).texts) (sym same) l.0, held _ (subst (λ y. cell_of (world_of w) (pipeline_of c) (a ∷ []) t 0 s ≡ chosen (is_kept (world_of w) (pipeline_of c) (a ∷ []) (node_of n).mask 0 s) (code_flag (world_of w).texts (kind_of n.kind) y) (empty_cell (pipeline_of c) t)) (sym same) l.1))

      -- what the input gives on the first session of the period
      pub start-given : (f : Frequency) (r : ℕ) → kind_of n.kind ≡ kinds.Downsample f → pos r ≡ period_start f w.sessions.now (pos s) → input_cell_in w c (slice_get n.inputs 0) a r ≡ cell_in w c t a s
      unfolding node_of cell_of
      start-given f r e h =
          let x = downsampled-input (pipeline_of c) ok t (node_of n) (there c ok t n is) f e in
          let u = term-input (slice_get n.inputs 0) x.0 (sym (inputs-at n 0) ∙ x.1) in
          ap (λ o. input_cell_in w c o a r) u.1
          ∙ held (cell_in w c u.0.0 a r) (downsampled-cell (world_of w) (pipeline_of c) (a ∷ []) t (node_of n) 0 s own f u.0.0 r e (inputs-at n 0 ∙ ap (option_map input_of) u.1) h)

      -- ---- windows

      pub windows-given : is_windowed (kind_of n.kind) ≡ true → (early : n.window ≤ s + 1) → (x y z : List ℤ) → x ≡ window_in w c n.window (slice_get n.inputs 0) a s → y ≡ window_in w c n.window (slice_get n.inputs 1) a s
          → z ≡ window_in w c n.window (slice_get n.inputs 2) a s → All IsCell x → All IsCell y → All IsCell z
          → TakesWindows (kind_of n.kind) x y z × (windowed (kind_of n.kind) x y z ≡ cell_in w c t a s)
      unfolding node_of
      windows-given e early x y z first second third xs ys zs =
          let f = windowed-is (kind_of n.kind) e in
          let all : AreWindows (world_of w) (pipeline_of c) (a ∷ []) (node_of n) 0 s x y z = record {
            first = first ∙ ap (λ o. input_window (world_of w) (pipeline_of c) (a ∷ []) n.window o 0 s) (sym (inputs-at n 0));
            second = second ∙ ap (λ o. input_window (world_of w) (pipeline_of c) (a ∷ []) n.window o 0 s) (sym (inputs-at n 1));
            third = third ∙ ap (λ o. input_window (world_of w) (pipeline_of c) (a ∷ []) n.window o 0 s) (sym (inputs-at n 2));
            first_cells = xs;
            second_cells = ys;
            third_cells = zs;
          } in
          let l = window-cell (world_of w) (pipeline_of c) (a ∷ []) t (node_of n) 0 s own f.0 x y z f.1 early all in
          (l.0, held _ l.1)

      -- ---- operations

      row-one : (o : Option Input) (x : ℤ) → x ≡ input_cell_in w c o a s → IsCell x → IsInputRow (world_of w) (pipeline_of c) (a ∷ []) 1 (option_map input_of o) s (x ∷ [])
      unfolding cell_of
      row-one None x e h = tt
      row-one (Some (input.Column k)) x e h = tt
      row-one (Some (input.Term u)) x e h = record {
        long = refl;
        each = λ i l. let z : i ≡ 0 = omega (arith, l) in ap (λ j. get_or (x ∷ []) j (pos 0)) z ∙ e ∙ ap (λ j. cell_of (world_of w) (pipeline_of c) (a ∷ []) u.0 j s) (sym z);
        cell = λ i l. let z : i ≡ 0 = omega (arith, l) in subst IsCell (e ∙ ap (λ j. cell_of (world_of w) (pipeline_of c) (a ∷ []) u.0 j s) (sym z)) h;
      }

      point-rows : (x y z : ℤ) → x ≡ input_cell_in w c (slice_get n.inputs 0) a s → y ≡ input_cell_in w c (slice_get n.inputs 1) a s → z ≡ input_cell_in w c (slice_get n.inputs 2) a s
          → IsCell x → IsCell y → IsCell z → AreRows (world_of w) (pipeline_of c) (a ∷ []) (node_of n) s 1 (x ∷ []) (y ∷ []) (z ∷ [])
      point-rows x y z f g h xs ys zs = record {
        first = subst (λ o. IsInputRow (world_of w) (pipeline_of c) (a ∷ []) 1 o s (x ∷ [])) (sym (inputs-at n 0)) (row-one (slice_get n.inputs 0) x f xs);
        second = subst (λ o. IsInputRow (world_of w) (pipeline_of c) (a ∷ []) 1 o s (y ∷ [])) (sym (inputs-at n 1)) (row-one (slice_get n.inputs 1) y g ys);
        third = subst (λ o. IsInputRow (world_of w) (pipeline_of c) (a ∷ []) 1 o s (z ∷ [])) (sym (inputs-at n 2)) (row-one (slice_get n.inputs 2) z h zs);
      }

      pub point-given : is_point (kind_of n.kind) ≡ true → (x y z : ℤ) → x ≡ input_cell_in w c (slice_get n.inputs 0) a s → y ≡ input_cell_in w c (slice_get n.inputs 1) a s → z ≡ input_cell_in w c (slice_get n.inputs 2) a s
          → IsCell x → IsCell y → IsCell z
          → IsOperation (kind_of n.kind) × AreOperands (kind_of n.kind) (x ∷ []) (y ∷ []) (z ∷ []) 1 × (operation (kind_of n.kind) x y z ≡ cell_in w c t a s)
      unfolding node_of
      point-given e x y z f g h xs ys zs =
          let k = point-is (kind_of n.kind) e in
          let rows = point-rows x y z f g h xs ys zs in
          let o = point-operands (world_of w) (pipeline_of c) (a ∷ []) t (node_of n) 0 s own k.0 1 (x ∷ []) (y ∷ []) (z ∷ []) k.1 rows in
          (o.0, o.1, held _ (point-cell (world_of w) (pipeline_of c) (a ∷ []) t (node_of n) 0 s own k.0 1 (x ∷ []) (y ∷ []) (z ∷ []) k.1 rows (omega arith)))

-- an asset that does not exist has the empty value
pub lacks-value : (w : World) (c : Parts) (ok : IsChecked (pipeline_of c)) (t s a : ℕ) (ns : List Node) → ns ≡ c.graph → t < length c.graph → exists (world_of w) a (pos s) ≡ false
    → number_in (empty (sort_kind (term_at (graph_of ns) t))) ≡ cell_in w c t a s
lacks-value w c ok t s a ns e h x =
    let n = code-node c.graph t h in
    ap (λ m. number_in (empty (sort_kind (term_at (graph_of m) t)))) e ∙ sym (cell-lacks w c ok t n.0 n.1 a s x)

-- the sid of a column
pub sid-of : (assets : List AssetRow) (col x : ℕ) → option_map sid_of (slice_get assets col) ≡ Some x → x ≡ sid_at assets col
sid-of assets col x e = sym (ap (λ (o : Option ℕ). unwrap_or o 0) e)
