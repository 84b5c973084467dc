-- Terms as trees, and the numbered graph of them.
use Rattle.std.specs.Prelude.{◌≡◌, ℕ, ◌<◌, ◌≤◌, List, [], ◌∷◌, ◌++◌, length, Option, Some, None, slice_get, get_or}
use Rattle.pl_spec.specs.declared.Column.{Column}
use Rattle.pl_pipeline.specs.Kind.{Kind}

-- A term over its first, second and third input, its mask and its group. What stands in such a place is a bar
-- column, a term or absent.
pub data Term : Type 0 where
  absent : Term
  column : Column → Term
  node : (kind : Kind) (window : ℕ) (first second third mask group : Term) → Term

pub data Input : Type 0 where
  BarColumn : Column → Input
  TermInput : ℕ → Input

pub record Node : Type 0 where
  pub kind : Kind
  pub inputs : List Input
  pub mask : Option ℕ
  pub group : Option ℕ
  pub window : ℕ

abbrev pub Graph : Type 0
Graph = List Node

-- the tree of number k among the trees so far
abbrev pub tree_at : List Term → ℕ → Term
tree_at trees k = get_or trees k absent

abbrev pub input_tree : List Term → Option Input → Term
input_tree trees None = absent
input_tree trees (Some (BarColumn c)) = column c
input_tree trees (Some (TermInput k)) = tree_at trees k

abbrev pub number_tree : List Term → Option ℕ → Term
number_tree trees None = absent
number_tree trees (Some k) = tree_at trees k

-- a node's tree over the trees of the nodes before it
abbrev pub tree_over : List Term → Node → Term
tree_over trees n =
    node n.kind n.window (input_tree trees (slice_get n.inputs 0)) (input_tree trees (slice_get n.inputs 1))
    (input_tree trees (slice_get n.inputs 2)) (number_tree trees n.mask) (number_tree trees n.group)

-- the trees of a graph, after those of the nodes before it
abbrev pub trees_after : List Term → Graph → List Term
trees_after trees [] = trees
trees_after trees (n ∷ ns) = trees_after (trees ++ tree_over trees n ∷ []) ns

abbrev pub trees : Graph → List Term
trees g = trees_after [] g

-- the term of number k
abbrev pub term_at : Graph → ℕ → Term
term_at g k = tree_at (trees g) k

-- what a node mentions has a number below b
pub record MentionsBelow (n : Node) (b : ℕ) : Type 0 where
  pub inputs : (i k : ℕ) → slice_get n.inputs i ≡ Some (TermInput k) → k < b
  pub mask : (k : ℕ) → n.mask ≡ Some k → k < b
  pub group : (k : ℕ) → n.group ≡ Some k → k < b

-- Each node has at most three inputs and mentions lower numbers alone, and no two nodes are equal.
pub record IsGraph (g : Graph) : Type 0 where
  pub few : (k : ℕ) (n : Node) → slice_get g k ≡ Some n → length n.inputs ≤ 3
  pub lower : (k : ℕ) (n : Node) → slice_get g k ≡ Some n → MentionsBelow n k
  pub distinct : (j k : ℕ) (n : Node) → slice_get g j ≡ Some n → slice_get g k ≡ Some n → j ≡ k
