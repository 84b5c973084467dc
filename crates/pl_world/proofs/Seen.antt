-- What the kind of a term gives over what it sees, from wherever the term is seen.
use Rattle.std.proofs.Common.{◌≡◌, ℕ, ◌+◌, ◌≤◌, Bool, true, false, cond, ℤ, pos, All, List, [], ◌∷◌, Option, None, Some, option_map, slice_get, refl, sym, ◌∙◌, ap}
use Rattle.pl_spec.specs.Rounding.{IsCell}
use Rattle.pl_pipeline.specs.Kind as kinds
use Rattle.pl_pipeline.specs.Kind.{PointKind}
use Rattle.pl_pipeline.specs.declared.WindowKind.{WindowKind}
use Rattle.pl_pipeline.specs.Term.{term_at}
use Rattle.pl_pipeline.specs.Value.{view_of, keeps_point, number_of as number_in, empty, sort_kind}
use Rattle.pl_terms.specs.declared.node.Input.{Input}
use Rattle.pl_terms.specs.declared.node.Input.TheVariants as input
use Rattle.pl_terms.specs.declared.node.Node.{Node}
use Rattle.pl_terms.specs.Kinds.{kind_of}
use Rattle.pl_terms.specs.Nodes.{graph_of, node_of, input_of, number_of}
use Rattle.pl_terms.specs.Checked.{Parts, pipeline_of, IsChecked}
use Rattle.pl_terms.proofs.Graphs.{graph-at}
use Rattle.pl_pointwise.specs.Operands.{IsOperation, AreOperands, operation}
use Rattle.pl_values.specs.Arrays.{cell_of, empty_cell, is_kept, chosen}
use Rattle.pl_values.specs.Views.{seen_of, input_seen, operand_seen, keeps_kind}
use Rattle.pl_values.specs.Families.{TakesWindows, windowed, is_point}
use Rattle.pl_values.specs.Laws.{IsNode}
use Rattle.pl_values.proofs.Viewed.{unkept-seen, kept-cell, seen-window-cell, seen-point-cell}
use Rattle.pl_world.specs.declared.world.World.{World}
use Rattle.pl_world.specs.Worlds.{world_of}
use Rattle.pl_world.specs.Evaluations.{IsKept, cell_in}
use Rattle.pl_world.proofs.Asked.{inputs-at}
use Rattle.pl_world.proofs.Evaluated.{point-given}
use Rattle.pl_world.specs.Views.{view_at, window_view, operand_view, seen_in, input_seen_in, window_seen_in}
use Rattle.pl_world.proofs.Views.{window-view, own-input}

operand-read : (w : World) (p : Parts) (o : Option Input) (from : Option ℕ) (a s : ℕ)
    → input_seen_in w p o from a s ≡ operand_seen (world_of w) (pipeline_of p) (a ∷ []) (option_map input_of o) (view_at from) 0 s
unfolding seen_of
operand-read w p None from a s = refl
operand-read w p (Some (input.Column k)) from a s = refl
operand-read w p (Some (input.Term u)) from a s = refl

module _ (w : World) (p : Parts) (ok : IsChecked (pipeline_of p)) (t : ℕ) (n : Node) (is : slice_get p.graph t ≡ Some n) (a s : ℕ) (view : Option ℕ) where
  own : IsNode (pipeline_of p) t (node_of n)
  own = record { checked = ok; node = graph-at p.graph t n is }

  pub seen-unkept : is_kept (world_of w) (pipeline_of p) (a ∷ []) (option_map number_of n.mask) 0 s ≡ false → seen_in w p t view a s ≡ number_in (empty (sort_kind (term_at (graph_of p.graph) t)))
  unfolding seen_of node_of
  seen-unkept e = unkept-seen (world_of w) (pipeline_of p) (a ∷ []) t (node_of n) 0 s own (view_at view) e

  -- what keeps its values is seen as it is
  pub seen-stays : keeps_kind (kind_of n.kind) ≡ true → cell_in w p t a s ≡ seen_in w p t view a s
  unfolding seen_of cell_of node_of
  seen-stays e = sym (kept-cell (world_of w) (pipeline_of p) (a ∷ []) t (node_of n) 0 s own (view_at view) e)

  module _ (kept : IsKept w p t a s) where
    chosen-is : (x : ℤ) → seen_of (world_of w) (pipeline_of p) (a ∷ []) t (view_at view) 0 s ≡ chosen (is_kept (world_of w) (pipeline_of p) (a ∷ []) (node_of n).mask 0 s) x (empty_cell (pipeline_of p) t) → x ≡ seen_in w p t view a s
    unfolding seen_of node_of
    chosen-is x e = sym (e ∙ ap (λ b. chosen b x (empty_cell (pipeline_of p) t)) (kept n is))

    -- a formula is of windows that are seen from one session
    module _ (f : WindowKind) (e : kind_of n.kind ≡ kinds.Window f) (from : ℕ) (g : from ≡ window_view (kind_of n.kind) view s) where
      inner : view_at (Some from) ≡ view_of (kind_of n.kind) (view_at view) (pos s)
      inner =
          ap (λ v. view_at (Some v)) (g ∙ ap (λ k. window_view k view s) e) ∙ sym (window-view f view s)
          ∙ ap (λ k. view_of k (view_at view) (pos s)) (sym e)

      at : (m : ℕ) → window_seen_in w p n.window (slice_get n.inputs m) (Some from) a s
          ≡ input_seen (world_of w) (pipeline_of p) (a ∷ []) n.window (slice_get (node_of n).inputs m) (view_of (kind_of n.kind) (view_at view) (pos s)) 0 s
      at m =
          ap (λ v. input_seen (world_of w) (pipeline_of p) (a ∷ []) n.window (option_map input_of (slice_get n.inputs m)) v 0 s) inner
          ∙ ap (λ o. input_seen (world_of w) (pipeline_of p) (a ∷ []) n.window o (view_of (kind_of n.kind) (view_at view) (pos s)) 0 s) (sym (inputs-at n m))

      pub seen-windows : n.window ≤ s + 1 → (x y z : List ℤ)
          → x ≡ window_seen_in w p n.window (slice_get n.inputs 0) (Some from) a s
          → y ≡ window_seen_in w p n.window (slice_get n.inputs 1) (Some from) a s
          → z ≡ window_seen_in w p n.window (slice_get n.inputs 2) (Some from) a s
          → All IsCell x → All IsCell y → All IsCell z
          → TakesWindows (kind_of n.kind) x y z × (windowed (kind_of n.kind) x y z ≡ seen_in w p t view a s)
      unfolding node_of
      seen-windows early x y z xe ye ze xc yc zc =
          let l = seen-window-cell (world_of w) (pipeline_of p) (a ∷ []) t (node_of n) 0 s own f (view_at view) x y z e early (record {
            first = xe ∙ at 0;
            second = ye ∙ at 1;
            third = ze ∙ at 2;
            first_cells = xc;
            second_cells = yc;
            third_cells = zc;
          }) in
          (l.0, chosen-is _ l.1)

    -- an operation that keeps its values is of own values, and another of what is seen from where it is seen
    module _ (f : PointKind) (e : kind_of n.kind ≡ kinds.Point f) (from : Option ℕ) (g : from ≡ operand_view (kind_of n.kind) view) where
      pub seen-point : (x y z : ℤ)
          → x ≡ input_seen_in w p (slice_get n.inputs 0) from a s
          → y ≡ input_seen_in w p (slice_get n.inputs 1) from a s
          → z ≡ input_seen_in w p (slice_get n.inputs 2) from a s
          → IsCell x → IsCell y → IsCell z
          → IsOperation (kind_of n.kind) × AreOperands (kind_of n.kind) (x ∷ []) (y ∷ []) (z ∷ []) 1 × (operation (kind_of n.kind) x y z ≡ seen_in w p t view a s)
      unfolding node_of
      seen-point x y z xe ye ze xc yc zc = here (keeps_point f) refl
        where
          from_is : (b : Bool) → keeps_point f ≡ b → from ≡ cond b None view
          from_is b q = g ∙ ap (λ k. operand_view k view) e ∙ ap (λ c. cond c None view) q

          here : (b : Bool) → keeps_point f ≡ b
              → IsOperation (kind_of n.kind) × AreOperands (kind_of n.kind) (x ∷ []) (y ∷ []) (z ∷ []) 1 × (operation (kind_of n.kind) x y z ≡ seen_in w p t view a s)
          here true q =
              let plain = λ (m : ℕ) (v : ℤ) (h : v ≡ input_seen_in w p (slice_get n.inputs m) from a s).
              h ∙ ap (λ c. input_seen_in w p (slice_get n.inputs m) c a s) (from_is true q) ∙ own-input w p (slice_get n.inputs m) a s in
              let l = point-given w p ok t n is a s kept (ap is_point e) x y z (plain 0 x xe) (plain 1 y ye) (plain 2 z ze) xc yc zc in
              (l.0, l.1, l.2 ∙ seen-stays (ap keeps_kind e ∙ q))
          here false q =
              let seen = λ (m : ℕ) (v : ℤ) (h : v ≡ input_seen_in w p (slice_get n.inputs m) from a s).
              h ∙ ap (λ c. input_seen_in w p (slice_get n.inputs m) c a s) (from_is false q) ∙ operand-read w p (slice_get n.inputs m) view a s
              ∙ ap (λ i. operand_seen (world_of w) (pipeline_of p) (a ∷ []) i (view_at view) 0 s) (sym (inputs-at n m)) in
              let l = seen-point-cell (world_of w) (pipeline_of p) (a ∷ []) t (node_of n) 0 s own f (view_at view) x y z e q (record {
                first = seen 0 x xe;
                second = seen 1 y ye;
                third = seen 2 z ze;
                first_cell = xc;
                second_cell = yc;
                third_cell = zc;
              }) in
              (l.0, l.1, chosen-is _ l.2)
