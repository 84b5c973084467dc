-- The value of a numbered term over the values of lower numbers.
use Rattle.std.proofs.Common.{◌≡◌, ℕ, zero, suc, ◌<◌, ℤ, Bool, true, false, ◌&&◌, List, [], ◌∷◌, length, map, Option, Some, None, refl, ◌∙◌, ap, cond, arith, slice_get}
use Rattle.std.proofs.Math.Path.{fun_ext}
use Rattle.std.proofs.lemmas.Option.{slice_get_within}
use Rattle.pl_spec.specs.World.{World, exists}
use Rattle.pl_pipeline.specs.Kind.{Kind}
use Rattle.pl_pipeline.specs.Kind.Kind.{Window, Point}
use Rattle.pl_pipeline.specs.Term.{Input, Node, Graph, input_tree, number_tree, trees, term_at, MentionsBelow, IsGraph}
use Rattle.pl_pipeline.specs.Term.Input.{BarColumn, TermInput}
use Rattle.pl_pipeline.specs.Value.{Meaning, Part, View, Own, From, part_from, part_of, number_of, window_of, passes, keeps_point, keeps_window, view_of, sort_over, sort_kind, kind_value, empty, seen, value, is_steady}
use Rattle.pl_pipeline.specs.NodeValue.{meaning_of, input_part, number_part, node_operands, node_value, seen_part, seen_node_operands, node_seen, ReadsSteady}
use Rattle.pl_spec.specs.Window.{before, downward}
use Rattle.pl_pipeline.proofs.Steady.{steady-own}
use Rattle.pl_pipeline.proofs.Trees.{term_at-node}

pub past : {X : Type 0} (xs : List X) (k : ℕ) → k < length xs → slice_get xs k ≡ None → ⊥
past [] k h e = omega arith
past (x ∷ xs) zero h e = cc
past (x ∷ xs) (suc k) h e = past xs k (omega arith) e

-- what stands at a place of a list
pub stands : {X : Type 0} (xs : List X) (k : ℕ) → k < length xs → (x : X) × (slice_get xs k ≡ Some x)
stands [] k h = absurd (omega arith)
stands (x ∷ xs) zero h = (x, refl)
stands (x ∷ xs) (suc k) h = stands xs k (omega arith)

-- a term of the graph is a node
part_of-term_at : (g : Graph) (k : ℕ) (n : Node) → IsGraph g → slice_get g k ≡ Some n → (view : View) (f : Meaning) → part_from view (term_at g k) f ≡ Part.Values f
part_of-term_at g k n ok e view f = rw (term_at-node g k n ok e) refl

module _ (w : World) (names : List (List ℕ)) (g : Graph) (ok : IsGraph g) where
  number_is : (view : View) (k : ℕ) → k < length g → part_from view (term_at g k) (seen w names (term_at g k) view) ≡ Part.Values (seen w names (term_at g k) view)
  number_is view k h = let n = stands g k h in part_of-term_at g k n.0 ok n.1 view (seen w names (term_at g k) view)

  input_is : (view : View) (o : Option Input) → ((k : ℕ) → o ≡ Some (TermInput k) → k < length g)
      → part_from view (input_tree (trees g) o) (seen w names (input_tree (trees g) o) view) ≡ seen_part w names g view o
  input_is view None h = refl
  input_is view (Some (BarColumn c)) h = refl
  input_is view (Some (TermInput k)) h = number_is view k (h k refl)

  mask_is : (o : Option ℕ) → ((k : ℕ) → o ≡ Some k → k < length g)
      → part_of (number_tree (trees g) o) (seen w names (number_tree (trees g) o) Own) ≡ number_part w names g o
  unfolding value
  mask_is None h = refl
  mask_is (Some k) h = number_is Own k (h k refl)

  -- a numbered term, as it is seen, is its node's kind over the lower numbers, as they are seen
  pub seen_at-node : (k : ℕ) (n : Node) → slice_get g k ≡ Some n → (view : View) (a : ℕ) (d : ℤ) → seen w names (term_at g k) view a d ≡ node_seen w names g n view a d
  unfolding seen
  seen_at-node k n e view a d =
      let low : MentionsBelow n k = ok.lower k n e in
      let here : k < length g = slice_get_within g k n e in
      rw (
        term_at-node g k n ok e,
        input_is (view_of n.kind view d) (slice_get n.inputs 0) (λ j f. let l : j < k = low.inputs 0 j f in omega arith),
        input_is (view_of n.kind view d) (slice_get n.inputs 1) (λ j f. let l : j < k = low.inputs 1 j f in omega arith),
        input_is (view_of n.kind view d) (slice_get n.inputs 2) (λ j f. let l : j < k = low.inputs 2 j f in omega arith),
        mask_is n.mask (λ j f. let l : j < k = low.mask j f in omega arith),
        mask_is n.group (λ j f. let l : j < k = low.group j f in omega arith),
      ) refl

  module _ (n : Node) (a : ℕ) (d : ℤ) where
    SteadyInput : Option Input → Type 0
    SteadyInput o = (j : ℕ) → o ≡ Some (TermInput j) → is_steady (term_at g j) ≡ true

    window_is : (size : ℕ) (o : Option Input) → SteadyInput o → window_of w size (seen_part w names g (From d) o) a d ≡ window_of w size (input_part w names g o) a d
    unfolding SteadyInput
    window_is size None h = refl
    window_is size (Some (BarColumn c)) h = refl
    window_is size (Some (TermInput j)) h =
        ap (λ f. map f (downward size)) (fun_ext (λ i. ap number_of (steady-own w names (term_at g j) (h j refl) (From d) a (before d i))))

    same : (b : Bool) → cond b d d ≡ d
    same true = refl
    same false = refl

    own : (b : Bool) → cond b Own Own ≡ Own
    own true = refl
    own false = refl

    own_kind : (k : Kind) → n.kind ≡ k → ReadsSteady g n
        → kind_value w names k n.window (seen_node_operands w names g n (view_of k Own d)) a d ≡ kind_value w names k n.window (node_operands w names g n) a d
    unfolding kind_value value SteadyInput
    own_kind (Window k) e h = rw (
      same (keeps_window k),
      window_is n.window (slice_get n.inputs 0) (h k e 0),
      window_is n.window (slice_get n.inputs 1) (h k e 1),
      window_is n.window (slice_get n.inputs 2) (h k e 2),
    ) refl
    own_kind (Point k) e h = rw (own (keeps_point k)) refl
    own_kind k e h = refl

  -- a numbered term whose windows hold what is steady is its node's kind over the values of lower numbers
  pub value_at-node : (k : ℕ) (n : Node) → slice_get g k ≡ Some n → ReadsSteady g n → (a : ℕ) (d : ℤ) → meaning_of w names g k a d ≡ node_value w names g n a d
  unfolding value
  value_at-node k n e h a d =
      seen_at-node k n e Own a d
      ∙ ap (λ v. cond (exists w a d && passes (number_part w names g n.mask) a d) v (empty (sort_over n.kind (sort_kind (input_tree (trees g) (slice_get n.inputs 0)))))) (own_kind n a d n.kind refl h)
