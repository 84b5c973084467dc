-- What a part of an evaluation may ask for, and what it gives and takes from what it has read.
use Rattle.std.proofs.Common.{◌≡◌, ℕ, ◌+◌, Bool, true, false, ℤ, pos, List, [], ◌∷◌, get_or, Option, None, Some, option_map, slice_get, w64, FitsSigned, to_z, of_z, refl, sym, ap, subst, ◌∙◌, arith, cond, add-zero, ◌==◌, zero, suc, ◌-◌, ◌*◌, ◌<◌, ◌≤◌}
use Rattle.std.proofs.lemmas.Int.{to_z-of_z}
use Rattle.std.specs.List.{list_any}
use Rattle.std.specs.Int.RustNames.{unsigned_abs}
use Rattle.pl_spec.specs.declared.Frequency.{Frequency}
use Rattle.pl_spec.specs.Cells.{is_true, truth}
use Rattle.pl_pipeline.specs.Kind as kinds
use Rattle.pl_pipeline.specs.Kind.{Kind, PointKind}
use Rattle.pl_pipeline.specs.declared.WindowKind.{WindowKind}
use Rattle.pl_spec.specs.Periods.{period_start}
use Rattle.pl_pipeline.specs.Pointwise.{label_test}
use Rattle.pl_spec.specs.Rounding.{IsCell, is_missing}
use Rattle.pl_pipeline.specs.Term.{term_at}
use Rattle.pl_pipeline.specs.Value.{Own, number_of as number_in, empty, sort_kind, name_at}
use Rattle.pl_spec.specs.World.{exists, known_number, label_at}
use Rattle.pl_spec.specs.declared.Figure.{Figure}
use Rattle.pl_pipeline.proofs.Cells.{zero-cell, truth-cell, chosen-cell, empty-cell}
use Rattle.pl_terms.specs.declared.node.TermId.{TermId}
use Rattle.pl_terms.specs.declared.node.Input.{Input}
use Rattle.pl_terms.specs.declared.node.Input.TheVariants as input
use Rattle.pl_terms.specs.declared.node.Node.{Node}
use Rattle.pl_terms.specs.Kinds.{kind_of}
use Rattle.pl_terms.specs.Nodes.{graph_of, node_of, number_of}
use Rattle.pl_terms.specs.Checked.{Parts, pipeline_of, IsChecked}
use Rattle.pl_terms.specs.Sorts.{is_windowed}
use Rattle.pl_pointwise.specs.Operands.{IsOperation, AreOperands, operation}
use Rattle.pl_cross.specs.Arrays.{HasTexts}
use Rattle.pl_cross.specs.Section.{is_section}
use Rattle.pl_values.specs.Arrays.{is_kept}
use Rattle.pl_values.specs.Views.{keeps_kind}
use Rattle.pl_terms.specs.declared.row.Family.TheVariants as family
use Rattle.pl_values.specs.Families.{IsOf, IsCode, TakesWindows, windowed, sid_flag, label_code, code_flag, is_point}
use Rattle.pl_world.specs.declared.world.World.{World}
use Rattle.pl_world.specs.Worlds.{world_of}
use Rattle.pl_world.specs.Evaluations.{IsAsked, HasKind, as_input, lets_pass, cell_in, input_cell_in, IsAskedInput, IsAskedOption, above, above_option}
use Rattle.pl_world.proofs.Asked.{first-asked, second-asked, third-asked, start-asked, mask-asked, group-asked, input-below, mask-below, group-below, window-one}
use Rattle.pl_world.proofs.Evaluated.{windowed-is, point-is, label-test-is, section-is, sids-is, kept-mask, window-early, constant-given, sid-given, label-given, number-given, label-test-given, start-given, downsampled-plain}
use Rattle.pl_model.specs.declared.evaluation.Request.{Request}
use Rattle.pl_model.specs.Costs.{cost_in, input_cost_in, window_cost_in, row_cost_in, input_row_cost_in, optional_cost_in, given_cost_of}
use Rattle.pl_model.specs.Requests.{IsRequestOf, IsKeptFor, asset_of, asked_cell, asked_cost, given_cost, IsRequest}
use Rattle.pl_model.specs.Gives.{IsCellOf, AreCellsOf, IsVerdict}
use Rattle.pl_world.specs.Views.{window_view, operand_view, seen_in, input_seen_in, window_seen_in}
use Rattle.pl_world.proofs.Views.{window-seen-from, operand-seen-from, own-cell, own-input}
use Rattle.pl_world.proofs.Seen.{seen-unkept, seen-stays, seen-windows, seen-point}
use Rattle.pl_model.proofs.Costs.{cost-lacks, cost-barred, cost-kept, start-cost}

-- three inputs are evaluated one after the other
thrice : (old one two new x y z u v q total : ℕ) → one ≡ old + x → two ≡ one + y → new ≡ two + z → x ≡ u → y ≡ v → z ≡ q → total ≡ u + v + q → new ≡ old + total
thrice old one two new x y z u v q total e f g h i j k = omega arith

in-turn : (old first new mask given whole : ℕ) → first ≡ old + mask → new ≡ first + given → whole ≡ mask + given → new ≡ old + whole
in-turn old first new mask given whole e f g = omega arith

-- whether a sid is among a filter's
sid-cell : (k : Kind) (a : ℕ) → IsCell (sid_flag k a)
sid-cell (kinds.StaticSids sids) a = truth-cell (list_any (λ b. b == a) sids)
sid-cell k a = zero-cell

-- whether a label's text passes a test
code-cell : (texts : List (List ℕ)) (k : Kind) (x : ℤ) → IsCell (code_flag texts k x)
code-cell texts (kinds.LabelTest k) x = chosen-cell (is_missing x) (pos 0) (truth (label_test k (get_or texts (unsigned_abs x) []))) zero-cell (truth-cell _)
code-cell texts k x = zero-cell

-- a machine's number that is the cell
pub held : (worth : ℤ) (steps old new : ℕ) (x : ℤ) → FitsSigned w64 x → IsCellOf worth steps old new x → IsCellOf worth steps old new (to_z w64 (of_z w64 x))
held worth steps old new x fits h = subst (IsCellOf worth steps old new) (sym (to_z-of_z w64 x fits)) h

pub asked-of : (r : Request) (n : Node) (ns : List Node) → IsRequest r → ns ≡ r.checked.now.graph → slice_get ns r.term.0 ≡ Some n → IsRequestOf r n
asked-of r n ns h e is = record { request = h; node = ap (λ ms. slice_get ms r.term.0) (sym e) ∙ is }

module _ (r : Request) (n : Node) (h : IsRequestOf r n) where
  abbrev w : World
  w = r.world.now

  abbrev p : Parts
  p = r.checked.now

  abbrev t : ℕ
  t = r.term.0

  abbrev s : ℕ
  s = r.session

  abbrev a : ℕ
  a = asset_of r

  abbrev view : Option ℕ
  view = r.view

  abbrev ok : IsChecked (pipeline_of p)
  ok = h.request.checked

  -- what is seen from the same session, or from where the kind sees what it is of
  window-request : IsRequest (record r { view = Some (window_view (kind_of n.kind) r.view r.session) })
  window-request = record {
    may = h.request.may;
    checked = h.request.checked;
    col = h.request.col;
    seen = window-seen-from w (keeps_kind (kind_of n.kind)) r.view s h.request.may.within h.request.seen;
  }

  pub seen-window : (v : ℕ) → v ≡ window_view (kind_of n.kind) r.view r.session → IsRequest (record r { view = Some v })
  seen-window v e = subst (λ q. IsRequest (record r { view = Some q })) (sym e) window-request

  operand-request : IsRequest (record r { view = operand_view (kind_of n.kind) r.view })
  operand-request = record { may = h.request.may; checked = h.request.checked; col = h.request.col; seen = operand-seen-from w (keeps_kind (kind_of n.kind)) r.view s h.request.seen }

  pub seen-operand : (v : Option ℕ) → v ≡ operand_view (kind_of n.kind) r.view → IsRequest (record r { view = v })
  seen-operand v e = subst (λ q. IsRequest (record r { view = q })) (sym e) operand-request

  pub own-request : IsRequest (record r { view = None })
  own-request = record { may = h.request.may; checked = h.request.checked; col = h.request.col; seen = tt }

  abbrev may : IsAsked w p t s
  may = h.request.may

  -- ---- what may be asked for, and why it ends

  place-asked : (j : ℕ) → j < 3 → IsAskedInput w p (slice_get n.inputs j) n.window s
  place-asked zero l = first-asked w p ok t s may n h.node
  place-asked (suc zero) l = second-asked w p ok t s may n h.node
  place-asked (suc (suc zero)) l = third-asked w p ok t s may n h.node
  place-asked (suc (suc (suc j))) l = absurd (omega (arith, l))

  lower : (j : ℕ) (o : Option Input) → o ≡ slice_get n.inputs j → 16 * above o < 16 * t + 5
  lower j o e =
      let same : above o ≡ above (slice_get n.inputs j) = ap above e in
      let below : above (slice_get n.inputs j) ≤ t = input-below w p ok t s may n h.node j in
      omega (arith, same, below)

  -- an input over its window
  pub window-ready : (j : ℕ) → j < 3 → (o : Option Input) → o ≡ slice_get n.inputs j → IsAskedInput w p o n.window s × (16 * above o < 16 * t + 5)
  window-ready j l o e = (subst (λ q. IsAskedInput w p q n.window s) (sym e) (place-asked j l), lower j o e)

  -- on the session, where the kind is over no window
  pub plain-ready : (j : ℕ) → j < 3 → is_windowed (kind_of n.kind) ≡ false → (o : Option Input) → o ≡ slice_get n.inputs j → IsAskedInput w p o 1 s × (16 * above o < 16 * t + 5)
  plain-ready j l plain o e = (subst (λ k. IsAskedInput w p o k s) (window-one w p ok t s may n h.node plain) (window-ready j l o e).0, lower j o e)

  -- on the first session of the period
  pub start-ready : (f : Frequency) (q : ℕ) (o : Option Input) → IsOf (kind_of n.kind) (family.Downsample f) → q ≤ s → pos q ≡ period_start f w.sessions.now (pos s) → o ≡ slice_get n.inputs 0
      → IsAskedInput w p o 1 q × (16 * above o < 16 * t + 5)
  start-ready f q o kind early first e =
      let one = window-one w p ok t s may n h.node (downsampled-plain (kind_of n.kind) f kind) in (
        subst (λ i. IsAskedInput w p i 1 q) (sym e) (subst (λ k. IsAskedInput w p (slice_get n.inputs 0) k q) one (start-asked w p ok t s may n h.node f q kind early first)),
        lower 0 o e,
      )

  -- the mask, for the asset and for all
  pub mask-ready : (m : TermId) → n.mask ≡ Some m → IsAsked w p m.0 s × (16 * m.0 + 9 < 16 * t + 8)
  mask-ready m e =
      let same : above_option n.mask ≡ suc m.0 = ap above_option e in
      let below : above_option n.mask ≤ t = (mask-below w p ok t s may n h.node).1 in
      (subst (λ o. IsAskedOption w p o s) e (mask-asked w p ok t s may n h.node), omega (arith, same, below))

  pub mask-row-ready : IsAskedOption w p n.mask s × (16 * above_option n.mask < 16 * t + 5)
  mask-row-ready = let below : above_option n.mask ≤ t = (mask-below w p ok t s may n h.node).1 in (mask-asked w p ok t s may n h.node, omega (arith, below))

  pub group-row-ready : IsAskedOption w p n.group s × (16 * above_option n.group < 16 * t + 5)
  group-row-ready = let below : above_option n.group ≤ t = group-below w p ok t s may n h.node in (group-asked w p ok t s may n h.node, omega (arith, below))

  -- the term that a cross-section takes, for all assets
  pub section-ready : (u : TermId) → is_windowed (kind_of n.kind) ≡ false → slice_get n.inputs 0 ≡ Some (input.Term u) → IsAsked w p u.0 s × (16 * u.0 + 10 < 16 * t + 5)
  section-ready u plain own =
      let first = plain-ready 0 (omega arith) plain (Some (input.Term u)) (sym own) in
      let now : s - 0 ≡ s = omega arith in
      let low : 16 * suc u.0 < 16 * t + 5 = first.1 in
      (subst (IsAsked w p u.0) now (first.0.1 0 (omega arith)), omega (arith, low))

  -- what its kind gives, where the asset is kept
  pub kept-ready : is_kept (world_of w) (pipeline_of p) (asset_of r ∷ []) (option_map number_of n.mask) 0 s ≡ true → IsKeptFor r
  kept-ready e = λ m f. let same : Some n ≡ Some m = sym h.node ∙ f in let one : n ≡ m = cc in
      subst (λ q. is_kept (world_of w) (pipeline_of p) (asset_of r ∷ []) (option_map number_of q.mask) 0 s ≡ true) one e

  -- ---- the mask

  lacks-kept : (o : Option ℕ) → exists (world_of w) a (pos s) ≡ false → is_kept (world_of w) (pipeline_of p) (a ∷ []) o 0 s ≡ false
  lacks-kept None e = e
  lacks-kept (Some m) e = rw e refl

  lacks-cost : (o : Option TermId) → exists (world_of w) a (pos s) ≡ false → input_cost_in w p (as_input o) None a s ≡ 0
  lacks-cost None e = refl
  lacks-cost (Some u) e = cost-lacks (world_of w) (pipeline_of p).names (term_at (graph_of p.graph) u.0) Own a (pos s) e

  pub lacks : (old : ℕ) → exists (world_of w) a (pos s) ≡ false → IsVerdict r n old old false
  lacks old e = record {
    value = sym (lacks-kept (option_map number_of n.mask) e);
    cost = sym (ap (λ k. old + k) (lacks-cost n.mask e) ∙ add-zero old);
  }

  abbrev passes : Option TermId → Bool
  passes o = lets_pass (as_input o) (input_cell_in w p (as_input o) a s)

  pub unmasked : (old : ℕ) → exists (world_of w) a (pos s) ≡ true → n.mask ≡ None → IsVerdict r n old old true
  unmasked old e m = record {
    value = sym (kept-mask w p ok t n h.node a s n.mask true e (ap passes m));
    cost = sym (ap (λ o. old + input_cost_in w p (as_input o) None a s) m ∙ add-zero old);
  }

  pub masked : (m : TermId) (x : ℤ) (b : Bool) (old new : ℕ) → exists (world_of w) a (pos s) ≡ true → n.mask ≡ Some m → IsCellOf (seen_in w p m.0 None a s) (cost_in w p m.0 None a s) old new x → b ≡ is_true x
      → IsVerdict r n old new b
  masked m x b old new e is read tells = record {
    value = sym (kept-mask w p ok t n h.node a s n.mask b e (ap passes is ∙ sym (tells ∙ ap is_true (read.value ∙ own-cell w p m.0 a s))));
    cost = read.cost ∙ ap (λ o. old + input_cost_in w p (as_input o) None a s) (sym is);
  }

  abbrev none : ℤ
  none = number_in (empty (sort_kind (term_at (graph_of p.graph) t)))

  -- what keeps its values is seen as it is
  stays : keeps_kind (kind_of n.kind) ≡ true → cell_in w p t a s ≡ asked_cell r
  stays e = seen-stays w p ok t n h.node a s view e

  pub barred : (x : ℤ) (b : Bool) (old new : ℕ) → IsVerdict r n old new b → b ≡ false → x ≡ none → IsCellOf (asked_cell r) (asked_cost r) old new x
  barred x b old new v f e =
      let gone = sym v.value ∙ f in
      record {
        value = e ∙ sym (seen-unkept w p ok t n h.node a s view gone);
        cell = subst IsCell (sym e) (empty-cell (sort_kind (term_at (graph_of p.graph) t)));
        cost = v.cost ∙ ap (λ k. old + k) (sym (cost-barred w p ok t s may n h.node a view gone));
      }

  pub passed : (x : ℤ) (b : Bool) (old first new : ℕ) → IsVerdict r n old first b → b ≡ true → IsCellOf (asked_cell r) (given_cost r n) first new x → IsCellOf (asked_cell r) (asked_cost r) old new x
  passed x b old first new v f read =
      let whole = cost-kept w p ok t s may n h.node a view (sym v.value ∙ f) in
      record { value = read.value; cell = read.cell; cost = in-turn _ _ _ _ _ _ v.cost read.cost whole }

  -- ---- what a kind takes

  abbrev total : ℕ
  total = given_cost r n

  of_kind : (k : Kind) → kind_of n.kind ≡ k → total ≡ given_cost_of w p k n view a s
  of_kind k e = ap (λ k. given_cost_of w p k n view a s) e

  free : (old : ℕ) → total ≡ 0 → old ≡ old + total
  free old e = sym (ap (λ k. old + k) e ∙ add-zero old)

  pub rows-taken : (old one two new : ℕ) (u : TermId) → HasKind p t is_section → slice_get n.inputs 0 ≡ Some (input.Term u)
      → one ≡ old + row_cost_in w p u.0 s → two ≡ one + optional_cost_in w p n.mask s → new ≡ two + optional_cost_in w p n.group s → new ≡ old + total
  rows-taken old one two new u kind own first second third =
      let f = section-is (kind_of n.kind) (kind n h.node) in
      thrice old one two new _ _ _ _ _ _ total first second third (ap (λ o. input_row_cost_in w p o s) (sym own)) refl refl (of_kind (kinds.Cross f.0) f.1)

  pub section-stays : is_section (kind_of n.kind) ≡ true → cell_in w p t a s ≡ asked_cell r
  section-stays e = stays (ap keeps_kind (section-is (kind_of n.kind) e).1)

  -- ---- what it gives

  module _ (kept : IsKeptFor r) where
    pub constant-read : (v : ℤ) (old : ℕ) → IsOf (kind_of n.kind) (family.Constant v) → IsCellOf (asked_cell r) total old old v
    constant-read v old kind =
        let given = constant-given w p ok t n h.node a s kept v kind in
        record { value = given.1 ∙ stays (ap keeps_kind kind); cell = given.0; cost = free old (of_kind (kinds.Constant v) kind) }

    pub label-read : (name : ℕ) (x : ℤ) (old : ℕ) → IsOf (kind_of n.kind) (family.Label name) → x ≡ label_code (world_of w).texts (label_at (world_of w) (name_at (pipeline_of p).names name) a (pos s)) → IsCell x
        → IsCellOf (asked_cell r) total old old x
    label-read name x old kind e c = record { value = e ∙ label-given w p ok t n h.node a s kept name kind ∙ stays (ap keeps_kind kind); cell = c; cost = free old (of_kind (kinds.Label name) kind) }

    pub number-read : (f : Figure) (name : ℕ) (x : ℤ) (old : ℕ) → IsOf (kind_of n.kind) (family.Number f name) → x ≡ known_number (world_of w) f (name_at (pipeline_of p).names name) a (pos s) → IsCell x
        → IsCellOf (asked_cell r) total old old x
    number-read f name x old kind e c = record { value = e ∙ number-given w p ok t n h.node a s kept f name kind ∙ stays (ap keeps_kind kind); cell = c; cost = free old (of_kind (kinds.Number f name) kind) }

    pub sid-read : (b : ℕ) (x : ℤ) (old : ℕ) → IsOf (kind_of n.kind) family.Sids → b ≡ a → x ≡ sid_flag (kind_of n.kind) b → IsCellOf (asked_cell r) total old old x
    sid-read b x old kind sid e =
        let f = sids-is (kind_of n.kind) kind in
        record {
          value = e ∙ ap (sid_flag (kind_of n.kind)) sid ∙ sid-given w p ok t n h.node a s kept kind ∙ stays (ap keeps_kind f.1);
          cell = subst IsCell (sym e) (sid-cell (kind_of n.kind) b);
          cost = free old (of_kind (kinds.StaticSids f.0) f.1);
        }

    module _ (o : Option Input) (is_first : o ≡ slice_get n.inputs 0) (x : ℤ) (old new : ℕ) where
      pub code-read : HasTexts (world_of w) → IsOf (kind_of n.kind) family.LabelTest → x ≡ input_seen_in w p o None a s → IsCode (world_of w).texts x
      code-read texts kind e = (label-test-given w p ok t n h.node a s kept texts kind x (e ∙ own-input w p o a s ∙ ap (λ i. input_cell_in w p i a s) is_first)).0

      pub test-read : (y : ℤ) → HasTexts (world_of w) → IsOf (kind_of n.kind) family.LabelTest → IsCellOf (input_seen_in w p o None a s) (input_cost_in w p o None a s) old new x
          → y ≡ code_flag (world_of w).texts (kind_of n.kind) x → IsCellOf (asked_cell r) total old new y
      test-read y texts kind read e =
          let f = label-test-is (kind_of n.kind) kind in
          record {
            value = e ∙ (label-test-given w p ok t n h.node a s kept texts kind x (read.value ∙ own-input w p o a s ∙ ap (λ i. input_cell_in w p i a s) is_first)).1 ∙ stays (ap keeps_kind f.1);
            cell = subst IsCell (sym e) (code-cell (world_of w).texts (kind_of n.kind) x);
            cost = read.cost ∙ ap (λ i. old + input_cost_in w p i None a s) is_first ∙ ap (λ k. old + k) (sym (of_kind (kinds.LabelTest f.0) f.1));
          }

      pub start-read : (f : Frequency) (q : ℕ) → IsOf (kind_of n.kind) (family.Downsample f) → pos q ≡ period_start f w.sessions.now (pos s)
          → IsCellOf (input_seen_in w p o None a q) (input_cost_in w p o None a q) old new x → IsCellOf (asked_cell r) total old new x
      start-read f q kind first read = record {
        value = read.value ∙ own-input w p o a q ∙ ap (λ i. input_cell_in w p i a q) is_first ∙ start-given w p ok t n h.node a s kept f q kind first ∙ stays (ap keeps_kind kind);
        cell = read.cell;
        cost = read.cost ∙ ap (λ i. old + input_cost_in w p i None a q) is_first ∙ ap (λ k. old + k) (sym (start-cost w p s q a view n f kind first));
      }

    module _ (i j k : Option Input) (first : i ≡ slice_get n.inputs 0) (second : j ≡ slice_get n.inputs 1) (third : k ≡ slice_get n.inputs 2) (old one two new : ℕ) where
      abbrev from : Option ℕ
      from = Some (window_view (kind_of n.kind) view s)

      abbrev of : Option ℕ
      of = operand_view (kind_of n.kind) view

      -- three windows
      windows-read-from : (x y z : List ℤ) → HasKind p t is_windowed → AreCellsOf (window_seen_in w p n.window i from a s) (window_cost_in w p n.window i from a s) old one x
          → AreCellsOf (window_seen_in w p n.window j from a s) (window_cost_in w p n.window j from a s) one two y → AreCellsOf (window_seen_in w p n.window k from a s) (window_cost_in w p n.window k from a s) two new z
          → TakesWindows (kind_of n.kind) x y z × (windowed (kind_of n.kind) x y z ≡ asked_cell r) × (new ≡ old + total)
      unfolding node_of
      windows-read-from x y z has xs ys zs =
          let kind = has n h.node in
          let f = windowed-is (kind_of n.kind) kind in
          let taken = λ (o : Option Input). window_cost_in w p n.window o from a s in
          let early = window-early p ok t n h.node w s kind (first-asked w p ok t s may n h.node) in
          let seen = λ (o : Option Input). window_seen_in w p n.window o from a s in
          let given = seen-windows w p ok t n h.node a s view kept f.0 f.1 (window_view (kind_of n.kind) view s) refl early x y z
          (xs.value ∙ ap seen first) (ys.value ∙ ap seen second) (zs.value ∙ ap seen third) xs.cells ys.cells zs.cells in
          (given.0, given.1, thrice old one two new _ _ _ _ _ _ total xs.cost ys.cost zs.cost (ap taken first) (ap taken second) (ap taken third) (same-cost f.0 f.1))
        where
          same-cost : (f : WindowKind) → kind_of n.kind ≡ kinds.Window f
              → total ≡ window_cost_in w p n.window (slice_get n.inputs 0) from a s + window_cost_in w p n.window (slice_get n.inputs 1) from a s + window_cost_in w p n.window (slice_get n.inputs 2) from a s
          same-cost f e = rw e refl

      pub windows-read : (v : ℕ) → v ≡ window_view (kind_of n.kind) view s → (x y z : List ℤ) → HasKind p t is_windowed
          → AreCellsOf (window_seen_in w p n.window i (Some v) a s) (window_cost_in w p n.window i (Some v) a s) old one x
          → AreCellsOf (window_seen_in w p n.window j (Some v) a s) (window_cost_in w p n.window j (Some v) a s) one two y
          → AreCellsOf (window_seen_in w p n.window k (Some v) a s) (window_cost_in w p n.window k (Some v) a s) two new z
          → TakesWindows (kind_of n.kind) x y z × (windowed (kind_of n.kind) x y z ≡ asked_cell r) × (new ≡ old + total)
      windows-read v e x y z has xs ys zs =
          let read = λ (o : Option Input) (old new : ℕ) (xs : List ℤ) (q : ℕ). AreCellsOf (window_seen_in w p n.window o (Some q) a s) (window_cost_in w p n.window o (Some q) a s) old new xs in
          windows-read-from x y z has (subst (read i old one x) e xs) (subst (read j one two y) e ys) (subst (read k two new z) e zs)

      -- three cells
      points-read-of : (x y z : ℤ) → HasKind p t is_point → IsCellOf (input_seen_in w p i of a s) (input_cost_in w p i of a s) old one x
          → IsCellOf (input_seen_in w p j of a s) (input_cost_in w p j of a s) one two y → IsCellOf (input_seen_in w p k of a s) (input_cost_in w p k of a s) two new z
          → (IsOperation (kind_of n.kind) × AreOperands (kind_of n.kind) (x ∷ []) (y ∷ []) (z ∷ []) 1) × (operation (kind_of n.kind) x y z ≡ asked_cell r) × (new ≡ old + total)
      points-read-of x y z has xs ys zs =
          let kind = has n h.node in
          let f = point-is (kind_of n.kind) kind in
          let taken = λ (o : Option Input). input_cost_in w p o of a s in
          let seen = λ (o : Option Input). input_seen_in w p o of a s in
          let given = seen-point w p ok t n h.node a s view kept f.0 f.1 of refl x y z (xs.value ∙ ap seen first) (ys.value ∙ ap seen second) (zs.value ∙ ap seen third) xs.cell ys.cell zs.cell in
          ((given.0, given.1), given.2, thrice old one two new _ _ _ _ _ _ total xs.cost ys.cost zs.cost (ap taken first) (ap taken second) (ap taken third) (same-cost f.0 f.1))
        where
          same-cost : (f : PointKind) → kind_of n.kind ≡ kinds.Point f
              → total ≡ input_cost_in w p (slice_get n.inputs 0) of a s + input_cost_in w p (slice_get n.inputs 1) of a s + input_cost_in w p (slice_get n.inputs 2) of a s
          same-cost f e = rw e refl

      pub points-read : (v : Option ℕ) → v ≡ operand_view (kind_of n.kind) view → (x y z : ℤ) → HasKind p t is_point
          → IsCellOf (input_seen_in w p i v a s) (input_cost_in w p i v a s) old one x
          → IsCellOf (input_seen_in w p j v a s) (input_cost_in w p j v a s) one two y
          → IsCellOf (input_seen_in w p k v a s) (input_cost_in w p k v a s) two new z
          → (IsOperation (kind_of n.kind) × AreOperands (kind_of n.kind) (x ∷ []) (y ∷ []) (z ∷ []) 1) × (operation (kind_of n.kind) x y z ≡ asked_cell r) × (new ≡ old + total)
      points-read v e x y z has xs ys zs =
          let read = λ (o : Option Input) (old new : ℕ) (x : ℤ) (q : Option ℕ). IsCellOf (input_seen_in w p o q a s) (input_cost_in w p o q a s) old new x in
          points-read-of x y z has (subst (read i old one x) e xs) (subst (read j one two y) e ys) (subst (read k two new z) e zs)
