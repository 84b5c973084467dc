-- The sort of a term: its own, or that of its input where it is downsampled.
use Rattle.std.proofs.Common.{◌≡◌, ℕ, zero, suc, ◌+◌, ◌<◌, true, false, List, [], ◌∷◌, ◌++◌, length, Option, Some, None, option_map, slice_get, refl, sym, ap, ◌∙◌, arith, length-append}
use Rattle.std.proofs.lemmas.Option.{slice_get_within}
use Rattle.std.proofs.Math.ListN.{get_or-append}
use Rattle.std.proofs.Math.Seq.{get_or-append_seam}
use Rattle.pl_spec.specs.Rounding.{MISSING}
use Rattle.pl_pipeline.specs.Kind as kind
use Rattle.pl_pipeline.specs.Kind.{Kind}
use Rattle.pl_pipeline.specs.Term.{IsGraph, Term, Graph, Node, Input, BarColumn, TermInput, tree_at, input_tree, tree_over, trees_after, trees, term_at}
use Rattle.pl_pipeline.specs.Term.Term.{absent}
use Rattle.pl_pipeline.specs.Value.{sort_over, sort_kind}
use Rattle.pl_pipeline.specs.Text.{kind_at}
use Rattle.pl_terms.specs.declared.node.Node as code
use Rattle.pl_terms.specs.declared.node.TermId.{TermId}
use Rattle.pl_terms.specs.Kinds.{kind_of}
use Rattle.pl_terms.specs.Nodes.{node_of, graph_of, number_of}
use Rattle.pl_terms.specs.Sorts.{Sort, sort_of, sort_at, is_downsampled, first_term}
use Rattle.pl_terms.proofs.Graphs.{graph-at}

-- ---- trees one after another

front : (ts : List Term) (ns : Graph) (j : ℕ) → j < length ts → tree_at (trees_after ts ns) j ≡ tree_at ts j
front ts [] j h = refl
front ts (n ∷ ns) j h =
    let t = tree_over ts n in
    front (ts ++ t ∷ []) ns j (omega (arith, length-append ts (t ∷ []))) ∙ get_or-append ts (t ∷ []) absent j h

last : (ts : List Term) (t : Term) (ns : Graph) → tree_at (trees_after (ts ++ t ∷ []) ns) (length ts) ≡ t
last ts t ns = front (ts ++ t ∷ []) ns (length ts) (omega (arith, length-append ts (t ∷ []))) ∙ get_or-append_seam ts t [] absent

-- a node's tree, over trees that are those of the graph below it
record Grown (ts : List Term) (ns : Graph) (k : ℕ) (n : Node) : Type 0 where
  below : List Term
  tree : tree_at (trees_after ts ns) (length ts + k) ≡ tree_over below n
  same : (j : ℕ) → j < length ts + k → tree_at below j ≡ tree_at (trees_after ts ns) j

grown : (ts : List Term) (ns : Graph) (k : ℕ) (n : Node) → slice_get ns k ≡ Some n → Grown ts ns k n
grown ts [] k n e = absurd (let no : None ≡ Some n = e in cc)
grown ts (m ∷ ms) zero n e =
    let is : m ≡ n = (let s : Some m ≡ Some n = e in cc) in
    let at : length ts + 0 ≡ length ts = omega arith in
    record {
      below = ts;
      tree = ap (tree_at (trees_after ts (m ∷ ms))) at ∙ last ts (tree_over ts m) ms ∙ ap (tree_over ts) is;
      same = λ j h. sym (front ts (m ∷ ms) j (omega arith));
    }
grown ts (m ∷ ms) (suc k) n e =
    let more = ts ++ tree_over ts m ∷ [] in
    let long : length more ≡ length ts + 1 = length-append ts (tree_over ts m ∷ []) in
    let at : length ts + suc k ≡ length more + k = omega arith in
    let r = grown more ms k n e in
    record {
      below = r.below;
      tree = ap (tree_at (trees_after ts (m ∷ ms))) at ∙ r.tree;
      same = λ j h. r.same j (omega arith);
    }

-- ---- the sort

abbrev Own : Graph → ℕ → Node → Type 0
Own g k n = (below : List Term) × (term_at g k ≡ tree_over below n) × ((j : ℕ) → j < k → tree_at below j ≡ term_at g j)

own-tree : (g : Graph) (k : ℕ) (n : Node) → slice_get g k ≡ Some n → Own g k n
own-tree g k n e =
    let r = grown [] g k n e in
    let at : 0 + k ≡ k = omega arith in
    (r.below, ap (tree_at (trees g)) (sym at) ∙ r.tree, λ j h. r.same j (omega arith))

own-kind : (k i : Kind) → is_downsampled k ≡ false → sort_over k i ≡ k
own-kind (kind.Downsample f) i h = cc
own-kind k i h = refl

over-kind : (k i : Kind) → is_downsampled k ≡ true → sort_over k i ≡ i
over-kind (kind.Downsample f) i h = refl
over-kind k i h = cc

-- a term that isn't downsampled
pub kind-own : (g : Graph) (k : ℕ) (n : Node) → slice_get g k ≡ Some n → is_downsampled n.kind ≡ false → kind_at g k ≡ n.kind
kind-own g k n e h = let r = own-tree g k n e in ap sort_kind r.1 ∙ own-kind n.kind _ h

-- a downsampled term of a term before it
pub kind-input : (g : Graph) (k : ℕ) (n : Node) (u : ℕ) → slice_get g k ≡ Some n → is_downsampled n.kind ≡ true → first_term n.inputs ≡ Some u → u < k → kind_at g k ≡ kind_at g u
kind-input g k n u e h f l =
    let r = own-tree g k n e in
    ap sort_kind r.1 ∙ over-kind n.kind _ h ∙ here n.inputs f r.0 (r.2 u l)
  where
    here : (is : List Input) → first_term is ≡ Some u → (below : List Term) → tree_at below u ≡ term_at g u → sort_kind (input_tree below (slice_get is 0)) ≡ kind_at g u
    here [] f below s = cc
    here (BarColumn c ∷ is) f below s = cc
    here (TermInput j ∷ is) f below s = let same : j ≡ u = (let x : Some j ≡ Some u = f in cc) in ap (λ i. sort_kind (tree_at below i)) same ∙ ap sort_kind s

-- and of none
pub kind-none : (g : Graph) (k : ℕ) (n : Node) → slice_get g k ≡ Some n → is_downsampled n.kind ≡ true → first_term n.inputs ≡ None → kind_at g k ≡ kind.Constant MISSING
kind-none g k n e h f =
    let r = own-tree g k n e in
    ap sort_kind r.1 ∙ over-kind n.kind _ h ∙ here n.inputs f r.0
  where
    here : (is : List Input) → first_term is ≡ None → (below : List Term) → sort_kind (input_tree below (slice_get is 0)) ≡ kind.Constant MISSING
    here (TermInput j ∷ is) f below = cc
    here is f below = refl

sort-there : (g : Graph) (k : ℕ) (n : Node) → slice_get g k ≡ Some n → sort_at g k ≡ Some (sort_of (kind_at g k))
sort-there g k n e = ap (option_map (λ m. sort_of (kind_at g k))) e

pub sort-own : (g : Graph) (k : ℕ) (n : Node) → slice_get g k ≡ Some n → is_downsampled n.kind ≡ false → sort_at g k ≡ Some (sort_of n.kind)
sort-own g k n e h = sort-there g k n e ∙ ap (λ i. Some (sort_of i)) (kind-own g k n e h)

pub sort-input : (g : Graph) (k : ℕ) (n : Node) (u : ℕ) (x : Sort) → slice_get g k ≡ Some n → is_downsampled n.kind ≡ true → first_term n.inputs ≡ Some u → u < k → sort_at g u ≡ Some x → sort_at g k ≡ Some x
sort-input g k n u x e h f l s = sort-there g k n e ∙ ap (λ i. Some (sort_of i)) (kind-input g k n u e h f l) ∙ here (slice_get g u) refl
  where
    here : (o : Option Node) → slice_get g u ≡ o → Some (sort_of (kind_at g u)) ≡ Some x
    here None q = absurd (let no : None ≡ Some x = sym (ap (option_map (λ m. sort_of (kind_at g u))) q) ∙ s in cc)
    here (Some m) q = sym (ap (option_map (λ m. sort_of (kind_at g u))) q) ∙ s

-- what has a sort is there
pub sorted-there : (g : Graph) (k : ℕ) (x : Sort) → sort_at g k ≡ Some x → (n : Node) × (slice_get g k ≡ Some n) × (sort_of (kind_at g k) ≡ x)
sorted-there g k x s = here (slice_get g k) refl
  where
    here : (o : Option Node) → slice_get g k ≡ o → (n : Node) × (slice_get g k ≡ Some n) × (sort_of (kind_at g k) ≡ x)
    here None q = absurd (let no : None ≡ Some x = sym (ap (option_map (λ m. sort_of (kind_at g k))) q) ∙ s in cc)
    here (Some n) q = (n, q, (let e : Some (sort_of (kind_at g k)) ≡ Some x = sym (ap (option_map (λ m. sort_of (kind_at g k))) q) ∙ s in cc))

-- ---- graphs that grow

abbrev pub Grows : Graph → Graph → Type 0
Grows g h = (k : ℕ) (n : Node) → slice_get g k ≡ Some n → slice_get h k ≡ Some n

trees-kept : (ts : List Term) (g h : Graph) → Grows g h → (k : ℕ) → k < length ts + length g → tree_at (trees_after ts h) k ≡ tree_at (trees_after ts g) k
trees-kept ts [] h f k l = front ts h k (omega arith)
trees-kept ts (n ∷ ns) [] f k l = absurd (let no : None ≡ Some n = f zero n refl in cc)
trees-kept ts (n ∷ ns) (m ∷ ms) f k l =
    let is : m ≡ n = (let s : Some m ≡ Some n = f zero n refl in cc) in
    let more = ts ++ tree_over ts n ∷ [] in
    ap (λ x. tree_at (trees_after (ts ++ tree_over ts x ∷ []) ms) k) is
    ∙ trees-kept more ns ms (λ j q e. f (suc j) q e) k (omega (arith, length-append ts (tree_over ts n ∷ [])))

-- a term keeps its sort
pub sort-kept : (g h : Graph) (k : ℕ) (x : Sort) → Grows g h → sort_at g k ≡ Some x → sort_at h k ≡ Some x
sort-kept g h k x f s =
    let r = sorted-there g k x s in
    let in_range : k < length g = slice_get_within g k r.0 r.1 in
    sort-there h k r.0 (f k r.0 r.1) ∙ ap (λ t. Some (sort_of (sort_kind t))) (trees-kept [] g h f k (omega arith)) ∙ ap Some r.2

-- ---- the nodes of the code

first-there : (is : List Input) (u : ℕ) → first_term is ≡ Some u → slice_get is 0 ≡ Some (TermInput u)
first-there (TermInput j ∷ is) u f = cc
first-there is u f = cc

module _ (ns : List code.Node) (t : ℕ) (n : code.Node) (at : slice_get ns t ≡ Some n) where
  there : slice_get (graph_of ns) t ≡ Some (node_of n)
  there = graph-at ns t n at

  pub own-there : is_downsampled (kind_of n.kind) ≡ false → kind_of n.kind ≡ kind_at (graph_of ns) t
  unfolding node_of
  own-there h = sym (kind-own (graph_of ns) t (node_of n) there h)

  -- the input stands before the term
  pub input-below : (o : Option TermId) (u : TermId) → IsGraph (graph_of ns) → option_map number_of o ≡ first_term (node_of n).inputs → o ≡ Some u → u.0 < t
  input-below o u ok e f = (ok.lower t (node_of n) there).inputs 0 u.0 (first-there (node_of n).inputs u.0 (sym e ∙ ap (option_map number_of) f))

  pub input-there : (o : Option TermId) (u : TermId) → IsGraph (graph_of ns) → is_downsampled (kind_of n.kind) ≡ true → option_map number_of o ≡ first_term (node_of n).inputs → o ≡ Some u
      → kind_at (graph_of ns) u.0 ≡ kind_at (graph_of ns) t
  unfolding node_of
  input-there o u ok h e f = sym (kind-input (graph_of ns) t (node_of n) u.0 there h (sym e ∙ ap (option_map number_of) f) (input-below o u ok e f))

  pub none-there : (o : Option TermId) → is_downsampled (kind_of n.kind) ≡ true → option_map number_of o ≡ first_term (node_of n).inputs → o ≡ None → kind_at (graph_of ns) t ≡ kind.Constant MISSING
  unfolding node_of
  none-there o h e f = kind-none (graph_of ns) t (node_of n) there h (sym e ∙ ap (option_map number_of) f)
