-- The terms of a graph, one by one: each is its node's kind over the terms of lower numbers.
use Rattle.std.proofs.Common.{◌≡◌, ℕ, zero, suc, ◌+◌, ◌<◌, List, [], ◌∷◌, ◌++◌, length, Option, Some, None, refl, sym, ◌∙◌, ap, subst, arith, slice_get, append_assoc, append-nil, length-append}
use Rattle.pl_pipeline.specs.Term.{Term, Input, Node, Graph, tree_at, input_tree, number_tree, tree_over, trees_after, trees, term_at, MentionsBelow, IsGraph}
use Rattle.std.proofs.Math.ListN.{get_or-append}
use Rattle.std.proofs.Math.Seq.{get_or-append_seam}
use Rattle.pl_pipeline.specs.Term.Term.{absent}
use Rattle.pl_pipeline.specs.Term.Input.{BarColumn, TermInput}

-- the trees of further nodes come after those so far
trees-extend : (ts : List Term) (ns : Graph) → (us : List Term) × (trees_after ts ns ≡ ts ++ us)
trees-extend ts [] = ([], sym (append-nil ts))
trees-extend ts (n ∷ ns) =
    let rest : (us : List Term) × (trees_after (ts ++ tree_over ts n ∷ []) ns ≡ (ts ++ tree_over ts n ∷ []) ++ us) = trees-extend (ts ++ tree_over ts n ∷ []) ns in
    (tree_over ts n ∷ rest.0, rest.1 ∙ append_assoc ts (tree_over ts n ∷ []) rest.0)

tree_at-append : (ts us : List Term) (k : ℕ) → k < length ts → tree_at (ts ++ us) k ≡ tree_at ts k
tree_at-append ts us k h = get_or-append ts us absent k h

input_tree-append : (ts us : List Term) (o : Option Input) → ((k : ℕ) → o ≡ Some (TermInput k) → k < length ts) → input_tree (ts ++ us) o ≡ input_tree ts o
input_tree-append ts us None h = refl
input_tree-append ts us (Some (BarColumn c)) h = refl
input_tree-append ts us (Some (TermInput k)) h = tree_at-append ts us k (h k refl)

number_tree-append : (ts us : List Term) (o : Option ℕ) → ((k : ℕ) → o ≡ Some k → k < length ts) → number_tree (ts ++ us) o ≡ number_tree ts o
number_tree-append ts us None h = refl
number_tree-append ts us (Some k) h = tree_at-append ts us k (h k refl)

-- a node's tree needs the trees that it mentions alone
tree_over-append : (ts us : List Term) (n : Node) → MentionsBelow n (length ts) → tree_over (ts ++ us) n ≡ tree_over ts n
tree_over-append ts us n h =
    rw (
      input_tree-append ts us (slice_get n.inputs 0) (h.inputs 0),
      input_tree-append ts us (slice_get n.inputs 1) (h.inputs 1),
      input_tree-append ts us (slice_get n.inputs 2) (h.inputs 2),
      number_tree-append ts us n.mask h.mask,
      number_tree-append ts us n.group h.group,
    ) refl

node_after : (ts : List Term) (ns : Graph) (k : ℕ) (n : Node) → slice_get ns k ≡ Some n → MentionsBelow n (length ts + k)
    → (lower : (j : ℕ) (m : Node) → slice_get ns j ≡ Some m → MentionsBelow m (length ts + j))
    → tree_at (trees_after ts ns) (length ts + k) ≡ tree_over (trees_after ts ns) n
node_after ts [] k n e h lower = cc
node_after ts (m ∷ ms) zero n e h lower =
    let same : m ≡ n = cc in
    let more : (us : List Term) × (trees_after (ts ++ tree_over ts m ∷ []) ms ≡ (ts ++ tree_over ts m ∷ []) ++ us) = trees-extend (ts ++ tree_over ts m ∷ []) ms in
    let all : trees_after (ts ++ tree_over ts m ∷ []) ms ≡ ts ++ (tree_over ts m ∷ more.0) = more.1 ∙ append_assoc ts (tree_over ts m ∷ []) more.0 in
    let place : length ts + 0 ≡ length ts = omega arith in
    let low : MentionsBelow n (length ts) = rw place at h in
    rw (all, place) (get_or-append_seam ts (tree_over ts m) more.0 absent ∙ ap (tree_over ts) same ∙ sym (tree_over-append ts (tree_over ts m ∷ more.0) n low))
node_after ts (m ∷ ms) (suc k) n e h lower =
    let long : length (ts ++ tree_over ts m ∷ []) ≡ length ts + 1 = length-append ts (tree_over ts m ∷ []) in
    let place : (j : ℕ) → length (ts ++ tree_over ts m ∷ []) + j ≡ length ts + suc j = λ j. omega arith in
    let rest : tree_at (trees_after ts (m ∷ ms)) (length (ts ++ tree_over ts m ∷ []) + k) ≡ tree_over (trees_after ts (m ∷ ms)) n
    = node_after (ts ++ tree_over ts m ∷ []) ms k n e (subst (MentionsBelow n) (sym (place k)) h) (λ j q f. subst (MentionsBelow q) (sym (place j)) (lower (suc j) q f)) in
    ap (tree_at (trees_after ts (m ∷ ms))) (sym (place k)) ∙ rest

-- The tree of a number is its node over the trees of the graph.
pub term_at-node : (g : Graph) (k : ℕ) (n : Node) → IsGraph g → slice_get g k ≡ Some n → term_at g k ≡ tree_over (trees g) n
term_at-node g k n ok e =
    let zero_more : (j : ℕ) → 0 + j ≡ j = λ j. omega arith in
    ap (tree_at (trees g)) (sym (zero_more k))
    ∙ node_after [] g k n e (subst (MentionsBelow n) (sym (zero_more k)) (ok.lower k n e)) (λ j m f. subst (MentionsBelow m) (sym (zero_more j)) (ok.lower j m f))
