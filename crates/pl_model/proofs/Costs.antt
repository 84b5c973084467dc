-- The steps of an evaluation are those of what it reads.
use Rattle.std.proofs.Common.{◌≡◌, ℕ, zero, suc, ◌+◌, ◌-◌, ◌<◌, true, false, ◌&&◌, if◌then◌else◌, ℤ, pos, List, [], ◌∷◌, length, Option, Some, None, option_map, slice_get, sum_by, refl, sym, ◌∙◌, ap, arith, add-zero}
use Rattle.std.proofs.lemmas.List.Sums.{sum_by-cons}
use Rattle.pl_spec.specs.declared.AssetRow.{AssetRow}
use Rattle.pl_spec.specs.declared.Frequency.{Frequency}
use Rattle.pl_spec.specs.World.{World as SpecWorld, exists}
use Rattle.pl_spec.specs.Window.{before, downward}
use Rattle.pl_spec.specs.Periods.{period_start}
use Rattle.pl_pipeline.specs.Kind as kinds
use Rattle.pl_pipeline.specs.Kind.{Kind}
use Rattle.pl_pipeline.specs.Term as spec
use Rattle.pl_pipeline.specs.Term.{Term, Graph, input_tree, number_tree, trees, term_at, IsGraph}
use Rattle.pl_pipeline.specs.Term.Term.{absent, column, node}
use Rattle.pl_pipeline.specs.Value.{Meaning, Part, View, Own, view_of, part_of, passes, value}
use Rattle.pl_pipeline.specs.NodeValue.{number_part}
use Rattle.pl_pipeline.proofs.Trees.{term_at-node}
use Rattle.pl_spec.proofs.Windows.{before-pos}
use Rattle.pl_terms.specs.declared.node.TermId.{TermId}
use Rattle.pl_terms.specs.declared.node.Input.{Input}
use Rattle.pl_terms.specs.declared.node.Input.TheVariants as input
use Rattle.pl_terms.specs.declared.node.Node.{Node}
use Rattle.pl_terms.specs.Kinds.{kind_of}
use Rattle.pl_terms.specs.Nodes.{node_of, graph_of, input_of, number_of}
use Rattle.pl_terms.specs.Checked.{Parts, pipeline_of, IsChecked}
use Rattle.pl_terms.proofs.Graphs.{graph-long, graph-at}
use Rattle.pl_values.specs.Arrays.{is_kept}
use Rattle.pl_values.proofs.Cells.{keeps-is}
use Rattle.pl_world.specs.declared.world.World.{World}
use Rattle.pl_world.specs.Worlds.{world_of}
use Rattle.pl_world.specs.Evaluations.{as_input, IsAsked, IsAskedInput}
use Rattle.pl_model.specs.Costs.{Cost, cost, window_cost, session_cost, kind_cost, cost_in, input_cost_in, input_cost_at, window_cost_in, input_row_cost_in, optional_cost_in, given_cost_of}
use Rattle.pl_world.specs.Views.{view_at, window_view, operand_view}
use Rattle.pl_world.proofs.Views.{window-view, operand-view}
use Rattle.pl_world.proofs.Asked.{inputs-at, has-node, first-asked, second-asked, third-asked}

-- ---- sums

sum-below : (f g : ℕ → ℕ) (size : ℕ) → ((n : ℕ) → n < size → f n ≡ g n) → sum_by f (downward size) ≡ sum_by g (downward size)
sum-below f g zero h = refl
sum-below f g (suc size) h =
    sum_by-cons f size (downward size)
    ∙ ap (λ n. n + sum_by f (downward size)) (h size (omega arith))
    ∙ ap (λ n. g size + n) (sum-below f g size (λ n l. h n (omega arith)))
    ∙ sym (sum_by-cons g size (downward size))

sum-none : (xs : List AssetRow) → sum_by (λ (b : AssetRow). 0) xs ≡ 0
sum-none [] = refl
sum-none (x ∷ xs) = let c : sum_by (λ (b : AssetRow). 0) (x ∷ xs) ≡ 0 + sum_by (λ (b : AssetRow). 0) xs = sum_by-cons (λ (b : AssetRow). 0) x xs in let r = sum-none xs in omega (arith, c, r)

-- ---- an asset that does not exist takes no steps

pub cost-lacks : (w : SpecWorld) (names : List (List ℕ)) (x : Term) (view : View) (a : ℕ) (d : ℤ) → exists w a d ≡ false → cost w names x view a d ≡ 0
unfolding cost
cost-lacks w names absent view a d e = refl
cost-lacks w names (column k) view a d e = refl
cost-lacks w names (node k size x y z m g) view a d e = let mask = cost-lacks w names m Own a d e in rw (e, mask) refl

-- ---- one node

part-node : (g : Graph) (k : ℕ) (m : spec.Node) (f : Meaning) → IsGraph g → slice_get g k ≡ Some m → part_of (term_at g k) f ≡ Part.Values f
part-node g k m f ok e = rw (term_at-node g k m ok e) refl

window-node : (w : SpecWorld) (view : View) (g : Graph) (k size : ℕ) (m : spec.Node) (f : Cost) (a : ℕ) (d : ℤ) → IsGraph g → slice_get g k ≡ Some m
    → window_cost w view size (term_at g k) f a d ≡ sum_by (λ n. f a (before d n)) (downward size)
window-node w view g k size m f a d ok e = rw (term_at-node g k m ok e) refl

mask-part : (w : SpecWorld) (names : List (List ℕ)) (g : Graph) (o : Option ℕ) → IsGraph g → ((k : ℕ) → o ≡ Some k → k < length g)
    → part_of (number_tree (trees g) o) (value w names (number_tree (trees g) o)) ≡ number_part w names g o
mask-part w names g None ok h = refl
mask-part w names g (Some k) ok h = let m = has-node g k (h k refl) in part-node g k m.0 (value w names (term_at g k)) ok m.1

module _ (w : World) (c : Parts) (ok : IsChecked (pipeline_of c)) (t s : ℕ) (asked : IsAsked w c t s) (n : Node) (is : slice_get c.graph t ≡ Some n) (a : ℕ) where
  there : slice_get (graph_of c.graph) t ≡ Some (node_of n)
  there = graph-at c.graph t n is

  abbrev tree_cost : View → Term → Cost
  tree_cost v x = cost (world_of w) (pipeline_of c).names x v

  -- an input on any session
  input-cost-at : (from : Option ℕ) (o : Option Input) (d : ℤ) → tree_cost (view_at from) (input_tree (trees (graph_of c.graph)) (option_map input_of o)) a d ≡ input_cost_at w c o from a d
  unfolding cost
  input-cost-at from (Some (input.Column k)) d = refl
  input-cost-at from o d = refl

  -- over a window
  window-cost : (from : Option ℕ) (size : ℕ) (o : Option Input) → ((u : TermId) → o ≡ Some (input.Term u) → u.0 < length (graph_of c.graph)) → IsAskedInput w c o size s
      → window_cost (world_of w) (view_at from) size (input_tree (trees (graph_of c.graph)) (option_map input_of o)) (tree_cost (view_at from) (input_tree (trees (graph_of c.graph)) (option_map input_of o))) a (pos s) ≡ window_cost_in w c size o from a s
  window-cost from size None h asks = refl
  window-cost from size (Some (input.Column k)) h asks = refl
  window-cost from size (Some (input.Term u)) h asks =
      let m = has-node (graph_of c.graph) u.0 (h u refl) in
      window-node (world_of w) (view_at from) (graph_of c.graph) u.0 size m.0 (tree_cost (view_at from) (term_at (graph_of c.graph) u.0)) a (pos s) ok.graph m.1
      ∙ sum-below (λ k. tree_cost (view_at from) (term_at (graph_of c.graph) u.0) a (before (pos s) k)) (λ k. cost_in w c u.0 from a (s - k)) size
      (λ k l. ap (tree_cost (view_at from) (term_at (graph_of c.graph) u.0) a) (before-pos s k (let e = asks.0 in omega arith)))

  -- for all assets
  row-cost : (o : Option Input) → session_cost (world_of w) (tree_cost Own (input_tree (trees (graph_of c.graph)) (option_map input_of o))) (pos s) ≡ input_row_cost_in w c o s
  unfolding cost
  row-cost None = sum-none w.assets.now
  row-cost (Some (input.Column k)) = sum-none w.assets.now
  row-cost (Some (input.Term u)) = refl

  option-cost : (o : Option TermId) → session_cost (world_of w) (tree_cost Own (number_tree (trees (graph_of c.graph)) (option_map number_of o))) (pos s) ≡ optional_cost_in w c o s
  unfolding cost
  option-cost None = sum-none w.assets.now
  option-cost (Some u) = refl

  mask-cost : (o : Option TermId) → tree_cost Own (number_tree (trees (graph_of c.graph)) (option_map number_of o)) a (pos s) ≡ input_cost_in w c (as_input o) None a s
  unfolding cost
  mask-cost None = refl
  mask-cost (Some u) = refl

  low-input : (j : ℕ) (u : TermId) → slice_get n.inputs j ≡ Some (input.Term u) → u.0 < length (graph_of c.graph)
  low-input j u e =
      let l = (ok.graph.lower t (node_of n) there).inputs j u.0 (inputs-at n j ∙ ap (option_map input_of) e) in
      let r = asked.term in
      omega (arith, l, r, graph-long c.graph)

  abbrev place : ℕ → Term
  place j = input_tree (trees (graph_of c.graph)) (slice_get (node_of n).inputs j)

  abbrev one : View → ℕ → ℕ
  one v j = tree_cost v (place j) a (pos s)

  abbrev over : View → ℕ → ℕ
  over v j = window_cost (world_of w) v n.window (place j) (tree_cost v (place j)) a (pos s)

  one-is : (from : Option ℕ) (j : ℕ) → one (view_at from) j ≡ input_cost_in w c (slice_get n.inputs j) from a s
  one-is from j = ap (λ o. tree_cost (view_at from) (input_tree (trees (graph_of c.graph)) o) a (pos s)) (inputs-at n j) ∙ input-cost-at from (slice_get n.inputs j) (pos s)

  over-is : (from : Option ℕ) (j : ℕ) → IsAskedInput w c (slice_get n.inputs j) n.window s → over (view_at from) j ≡ window_cost_in w c n.window (slice_get n.inputs j) from a s
  over-is from j asks =
      ap (λ o. window_cost (world_of w) (view_at from) n.window (input_tree (trees (graph_of c.graph)) o) (tree_cost (view_at from) (input_tree (trees (graph_of c.graph)) o)) a (pos s)) (inputs-at n j)
      ∙ window-cost from n.window (slice_get n.inputs j) (low-input j) asks

  three : (x y z u v q : ℕ) → x ≡ u → y ≡ v → z ≡ q → x + y + z ≡ u + v + q
  three x y z u v q e f g = omega arith

  abbrev kind_costs : Kind → View → ℕ
  kind_costs k v = kind_cost (world_of w) k (window_cost (world_of w) v n.window (place 0) (tree_cost v (place 0))) (window_cost (world_of w) v n.window (place 1) (tree_cost v (place 1)))
      (window_cost (world_of w) v n.window (place 2) (tree_cost v (place 2))) (tree_cost v (place 0)) (tree_cost v (place 1)) (tree_cost v (place 2))
      (tree_cost Own (number_tree (trees (graph_of c.graph)) (option_map number_of n.mask))) (tree_cost Own (number_tree (trees (graph_of c.graph)) (option_map number_of n.group))) a (pos s)

  module _ (view : Option ℕ) where
    kind-is : (k : Kind) → kind_costs k (view_of k (view_at view) (pos s)) ≡ given_cost_of w c k n view a s
    kind-is (kinds.Window f) =
        let from : Option ℕ = Some (window_view (kinds.Window f) view s) in
        ap (kind_costs (kinds.Window f)) (window-view f view s)
        ∙ three _ _ _ _ _ _ (over-is from 0 (first-asked w c ok t s asked n is)) (over-is from 1 (second-asked w c ok t s asked n is)) (over-is from 2 (third-asked w c ok t s asked n is))
    kind-is (kinds.Point f) =
        let from : Option ℕ = operand_view (kinds.Point f) view in
        ap (kind_costs (kinds.Point f)) (operand-view f view (pos s)) ∙ three _ _ _ _ _ _ (one-is from 0) (one-is from 1) (one-is from 2)
    kind-is (kinds.LabelTest f) = one-is None 0
    kind-is (kinds.Cross f) =
        three _ _ _ _ _ _ (ap (λ o. session_cost (world_of w) (tree_cost Own (input_tree (trees (graph_of c.graph)) o)) (pos s)) (inputs-at n 0) ∙ row-cost (slice_get n.inputs 0)) (option-cost n.mask) (option-cost n.group)
    kind-is (kinds.Downsample f) =
        ap (λ o. tree_cost Own (input_tree (trees (graph_of c.graph)) o) a (period_start f w.sessions.now (pos s))) (inputs-at n 0) ∙ input-cost-at None (slice_get n.inputs 0) (period_start f w.sessions.now (pos s))
    kind-is k = refl

    abbrev given : ℕ
    given = given_cost_of w c (kind_of n.kind) n view a s

    pub cost-node : cost_in w c t view a s ≡ input_cost_in w c (as_input n.mask) None a s + (if is_kept (world_of w) (pipeline_of c) (a ∷ []) (option_map number_of n.mask) 0 s then given else 0)
    unfolding cost node_of
    cost-node =
        ap (λ x. tree_cost (view_at view) x a (pos s)) (term_at-node (graph_of c.graph) t (node_of n) ok.graph there)
        ∙ ap (λ k. k + (if exists (world_of w) a (pos s) && passes (part_of (number_tree (trees (graph_of c.graph)) (option_map number_of n.mask)) (value (world_of w) (pipeline_of c).names (number_tree (trees (graph_of c.graph)) (option_map number_of n.mask)))) a (pos s) then kind_costs (kind_of n.kind) (view_of (kind_of n.kind) (view_at view) (pos s)) else 0)) (mask-cost n.mask)
        ∙ ap (λ q. input_cost_in w c (as_input n.mask) None a s + (if exists (world_of w) a (pos s) && passes q a (pos s) then kind_costs (kind_of n.kind) (view_of (kind_of n.kind) (view_at view) (pos s)) else 0))
        (mask-part (world_of w) (pipeline_of c).names (graph_of c.graph) (option_map number_of n.mask) ok.graph
        (λ k e. let l = (ok.graph.lower t (node_of n) there).mask k e in let r = asked.term in omega (arith, l, r, graph-long c.graph)))
        ∙ ap (λ b. input_cost_in w c (as_input n.mask) None a s + (if b then kind_costs (kind_of n.kind) (view_of (kind_of n.kind) (view_at view) (pos s)) else 0)) (keeps-is (world_of w) (pipeline_of c) (a ∷ []) ok t (node_of n) there 0 s)
        ∙ ap (λ k. input_cost_in w c (as_input n.mask) None a s + (if is_kept (world_of w) (pipeline_of c) (a ∷ []) (option_map number_of n.mask) 0 s then k else 0)) (kind-is (kind_of n.kind))

    pub cost-barred : is_kept (world_of w) (pipeline_of c) (a ∷ []) (option_map number_of n.mask) 0 s ≡ false → cost_in w c t view a s ≡ input_cost_in w c (as_input n.mask) None a s
    cost-barred e = cost-node ∙ ap (λ b. input_cost_in w c (as_input n.mask) None a s + (if b then given else 0)) e ∙ add-zero (input_cost_in w c (as_input n.mask) None a s)

    pub cost-kept : is_kept (world_of w) (pipeline_of c) (a ∷ []) (option_map number_of n.mask) 0 s ≡ true → cost_in w c t view a s ≡ input_cost_in w c (as_input n.mask) None a s + given
    cost-kept e = cost-node ∙ ap (λ b. input_cost_in w c (as_input n.mask) None a s + (if b then given else 0)) e

-- a downsampled term takes what its input takes on the first session of the period
pub start-cost : (w : World) (c : Parts) (s r a : ℕ) (view : Option ℕ) (n : Node) (f : Frequency) → kind_of n.kind ≡ kinds.Downsample f → pos r ≡ period_start f w.sessions.now (pos s)
    → given_cost_of w c (kind_of n.kind) n view a s ≡ input_cost_in w c (slice_get n.inputs 0) None a r
start-cost w c s r a view n f e h = rw e (ap (λ d. input_cost_at w c (slice_get n.inputs 0) None a d) (sym h))
