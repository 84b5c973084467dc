-- The value of a numbered term over the values of the lower numbers that it mentions.
use Rattle.std.specs.Prelude.{◌≡◌, ℕ, true, ◌&&◌, if◌then◌else◌, List, Option, Some, None, slice_get}
use Rattle.pl_spec.specs.World.{World, exists}
use Rattle.pl_pipeline.specs.Kind.Kind.{Window}
use Rattle.pl_pipeline.specs.declared.WindowKind.{WindowKind}
use Rattle.pl_pipeline.specs.Term.{Input, Node, Graph, input_tree, trees, term_at}
use Rattle.pl_pipeline.specs.Term.Input.{BarColumn, TermInput}
use Rattle.pl_pipeline.specs.Value.{Meaning, View, Own, Part, Operands, passes, view_of, sort_over, sort_kind, kind_value, seen, value, empty, is_steady}
use Rattle.pl_pipeline.specs.Value.Part.{Nothing, Bars, Values}

-- the meaning of number k
abbrev pub meaning_of : World → List (List ℕ) → Graph → ℕ → Meaning
meaning_of w names g k = value w names (term_at g k)

abbrev pub input_part : World → List (List ℕ) → Graph → Option Input → Part
input_part w names g None = Nothing
input_part w names g (Some (BarColumn c)) = Bars c Own
input_part w names g (Some (TermInput k)) = Values (meaning_of w names g k)

abbrev pub number_part : World → List (List ℕ) → Graph → Option ℕ → Part
number_part w names g None = Nothing
number_part w names g (Some k) = Values (meaning_of w names g k)

-- what the kind of a node reads
abbrev pub node_operands : World → List (List ℕ) → Graph → Node → Operands
node_operands w names g n = record {
  first = input_part w names g (slice_get n.inputs 0);
  second = input_part w names g (slice_get n.inputs 1);
  third = input_part w names g (slice_get n.inputs 2);
  mask = number_part w names g n.mask;
  group = number_part w names g n.group;
}

-- what a node is worth, over the values of the terms that it mentions
abbrev pub node_value : World → List (List ℕ) → Graph → Node → Meaning
node_value w names g n a d =
    if exists w a d && passes (number_part w names g n.mask) a d
    then kind_value w names n.kind n.window (node_operands w names g n) a d
    else empty (sort_over n.kind (sort_kind (input_tree (trees g) (slice_get n.inputs 0))))

-- ---- in a view

abbrev pub seen_part : World → List (List ℕ) → Graph → View → Option Input → Part
seen_part w names g view None = Nothing
seen_part w names g view (Some (BarColumn c)) = Bars c view
seen_part w names g view (Some (TermInput k)) = Values (seen w names (term_at g k) view)

abbrev pub seen_node_operands : World → List (List ℕ) → Graph → Node → View → Operands
seen_node_operands w names g n view = record {
  first = seen_part w names g view (slice_get n.inputs 0);
  second = seen_part w names g view (slice_get n.inputs 1);
  third = seen_part w names g view (slice_get n.inputs 2);
  mask = number_part w names g n.mask;
  group = number_part w names g n.group;
}

-- what a node is worth in a view, over the terms that it mentions
abbrev pub node_seen : World → List (List ℕ) → Graph → Node → View → Meaning
node_seen w names g n view a d =
    if exists w a d && passes (number_part w names g n.mask) a d
    then kind_value w names n.kind n.window (seen_node_operands w names g n (view_of n.kind view d)) a d
    else empty (sort_over n.kind (sort_kind (input_tree (trees g) (slice_get n.inputs 0))))

-- the windows of a node hold bars, or terms that are the same from wherever they are seen
abbrev pub ReadsSteady : Graph → Node → Type 0
ReadsSteady g n = (k : WindowKind) → n.kind ≡ Window k
    → (i j : ℕ) → slice_get n.inputs i ≡ Some (TermInput j) → is_steady (term_at g j) ≡ true

-- and so do those of each node
abbrev pub AllReadSteady : Graph → Type 0
AllReadSteady g = (k : ℕ) (n : Node) → slice_get g k ≡ Some n → ReadsSteady g n
