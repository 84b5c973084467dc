-- Over the numbers of the world itself the single step of a value is the value.
use Rattle.std.proofs.Common.{◌||◌, ◌≡◌, ℕ, ◌+◌, ◌<◌, Bool, true, false, ◌&&◌, if◌then◌else◌, ℤ, List, [], ◌∷◌, length, Option, Some, None, refl, sym, ◌∙◌, ap, arith, slice_get, get_or, ◌==◌, inl, inr}
use Rattle.std.specs.List.{list_any, position_or_len}
use Rattle.std.specs.Str.{bytes_eq}
use Rattle.std.specs.Ordering.{int_eq}
use Rattle.std.proofs.Math.Path.{fun_ext}
use Rattle.std.proofs.lemmas.Bool.{cases_lt, or_left, or_right}
use Rattle.std.proofs.lemmas.Option.{unwrap_or-slice_get}
use Rattle.std.proofs.lemmas.List.{get_or_past}
use Rattle.std.proofs.lemmas.List.Sums.{passes_at_first}
use Rattle.std.proofs.lemmas.Slice.Eq.{bytes_eq-Decides}
use Rattle.pl_spec.specs.declared.Column.{Column}
use Rattle.pl_spec.specs.World.{World, exists}
use Rattle.pl_spec.specs.Window.{downward, seen_cell}
use Rattle.pl_spec.specs.Periods.{period_start}
use Rattle.pl_pipeline.specs.Cross.{is_for_all}
use Rattle.pl_pipeline.specs.Kind.{Kind, LabelKind, CrossKind}
use Rattle.pl_pipeline.specs.declared.WindowKind.{WindowKind}
use Rattle.pl_pipeline.specs.Kind.Kind.{Label, Window, Point, LabelTest, Cross, Downsample}
use Rattle.pl_pipeline.specs.Term.{Term, Graph, Input, Node, IsGraph, tree_over, trees, term_at}
use Rattle.pl_pipeline.specs.Term.Term.{absent, column, node}
use Rattle.pl_pipeline.specs.Term.Input.{BarColumn, TermInput}
use Rattle.pl_pipeline.specs.Value.{Value, View, From, Operands, part_of, value_of_part, passes, eligible, window_of, is_window_filter, is_point_filter, is_cross_filter, sort_kind, test_value, kind_value, view_of, seen_from, empty, Own, seen, value, seen_operands, is_steady}
use Rattle.pl_pipeline.specs.Value.Value.{Number, Text}
use Rattle.pl_pipeline.specs.Value.Part.{Bars, Values}
use Rattle.pl_pipeline.specs.NodeValue.{meaning_of, number_part, seen_part, seen_node_operands, node_seen}
use Rattle.pl_pipeline.specs.Table.{Pipeline, value_of, in_array}
use Rattle.pl_pipeline.specs.Text.{kind_at}
use Rattle.pl_spec.proofs.Signed.{int_eq-true}
use Rattle.pl_spec.proofs.Members.{In, contains-in}
use Rattle.pl_pipeline.proofs.Trees.{term_at-node}
use Rattle.pl_pipeline.proofs.Unfolds.{seen_at-node, past}
use Rattle.pl_pipeline.proofs.Steady.{steady-own}
use Rattle.pl_laws.proofs.Views.{from-itself}
use Rattle.pl_cross.specs.Arrays.{HasTexts}
use Rattle.pl_cross.proofs.Codes.{IsCoded}
use Rattle.pl_cross.proofs.LabelCodes.{labels-coded}
use Rattle.pl_derivation.specs.Facts.{Fact, number_in, told_fact, value_from, term_read, column_read, input_read, number_read, operands_read, node_read, value_read, single_step}
use Rattle.pl_derivation.specs.Facts.Fact.{Seen, TermValue, SeenValue}
use Rattle.pl_spec.proofs.Each.{map_each, each_all}
use Rattle.pl_derivation.proofs.Finding.{place_within, is_place}
use Rattle.pl_derivation.proofs.Steps.{before-twice}
use Rattle.pl_terms.proofs.Interning.{trees-long}

among : (texts : List (List ℕ)) (t : List ℕ) → In t texts → list_any (bytes_eq t) texts ≡ true
among [] t i = absurd i
among (x ∷ xs) t (inl e) = or_left (bytes_eq t x) (list_any (bytes_eq t) xs) ((bytes_eq-Decides t x).1 e)
among (x ∷ xs) t (inr i) = or_right (bytes_eq t x) (list_any (bytes_eq t) xs) (among xs t i)

-- the text of a code is the text that it is the code of
name_of_code : (texts : List (List ℕ)) (t : List ℕ) → list_any (bytes_eq t) texts ≡ true → value_from texts (Label 0) (in_array texts (Text t)) ≡ Text t
name_of_code texts t h =
    let inside : position_or_len (bytes_eq t) texts < length texts = place_within (bytes_eq t) texts h in
    let passes : bytes_eq t (get_or texts (position_or_len (bytes_eq t) texts) []) ≡ true = passes_at_first (bytes_eq t) texts [] inside in
    let same : t ≡ get_or texts (position_or_len (bytes_eq t) texts) [] = (bytes_eq-Decides t _).0 passes in
    rw (is_place (bytes_eq t) texts h, unwrap_or-slice_get texts (position_or_len (bytes_eq t) texts) []) (ap Text (sym same))

abbrev pub IsKept : List (List ℕ) → Kind → Value → Type 0
IsKept texts k v = value_from texts k (in_array texts v) ≡ v

kept_if : (texts : List (List ℕ)) (k : Kind) (b : Bool) (v u : Value) → IsKept texts k v → IsKept texts k u → IsKept texts k (if b then v else u)
kept_if texts k true v u h i = h
kept_if texts k false v u h i = i

empty_kept : (texts : List (List ℕ)) (k : Kind) → IsKept texts k (empty k)
empty_kept texts (Window k) = kept_if texts (Window k) (is_window_filter k) _ _ refl refl
empty_kept texts (Point k) = kept_if texts (Point k) (is_point_filter k) _ _ refl refl
empty_kept texts (Cross k) = kept_if texts (Cross k) (is_cross_filter k) _ _ refl refl
empty_kept texts k = refl

label_kept : (texts : List (List ℕ)) (n : ℕ) (v : Value) → IsCoded texts v → IsKept texts (Label n) v
label_kept texts n v (inl e) = rw e refl
label_kept texts n v (inr c) = rw c.1 (name_of_code texts c.0 (among texts c.0 (contains-in texts c.0 c.2)))

test_kept : (texts : List (List ℕ)) (k : LabelKind) (v : Value) → IsKept texts (LabelTest k) (test_value k v)
test_kept texts k (Number x) = refl
test_kept texts k (Text t) = refl

module _ (w : World) (known : HasTexts w) (names : List (List ℕ)) where
  gate : (k : Kind) (b : Bool) (v : Value) → IsKept w.texts k v → IsKept w.texts k (if b then v else empty k)
  gate k b v h = kept_if w.texts k b v (empty k) h (empty_kept w.texts k)

  abbrev is_open : Term → ℕ → ℤ → Bool
  is_open m a d = exists w a d && passes (part_of m (value w names m)) a d

  section_kept : (k : CrossKind) (size : ℕ) (o : Operands) (a : ℕ) (d : ℤ) → IsKept w.texts (Cross k) (kind_value w names (Cross k) size o a d)
  unfolding kind_value
  section_kept k size o a d = gate (Cross k) (is_for_all k || list_any (λ e. e.0 == a) (eligible w k o a d)) _ refl

  now_kept : (x : Term) (a : ℕ) (d : ℤ) → IsKept w.texts (sort_kind x) (value w names x a d) → IsKept w.texts (sort_kind x) (value_of_part (part_of x (value w names x)) a d)
  now_kept absent a d h = refl
  now_kept (column c) a d h = refl
  now_kept (node k size x y z m g) a d h = h

  -- the code of what a term is worth stands for that, from wherever it is seen
  pub seen_kept : (x : Term) (view : View) (a : ℕ) (d : ℤ) → IsKept w.texts (sort_kind x) (seen w names x view a d)
  unfolding value seen kind_value
  seen_kept absent view a d = refl
  seen_kept (column c) view a d = refl
  seen_kept (node (Label n) size x y z m g) view a d = label_kept w.texts n _ (labels-coded w known names n size x y z m g a d)
  seen_kept (node (LabelTest k) size x y z m g) view a d = gate (LabelTest k) (is_open m a d) _ (test_kept w.texts k (value_of_part (part_of x (value w names x)) a d))
  seen_kept (node (Cross k) size x y z m g) view a d = gate (Cross k) (is_open m a d) _ (section_kept k size (seen_operands w names (node (Cross k) size x y z m g) view d) a d)
  seen_kept (node (Downsample f) size x y z m g) view a d =
      gate (sort_kind x) (is_open m a d) _ (now_kept x a (period_start f w.days d) (seen_kept x Own a (period_start f w.days d)))
  seen_kept (node k size x y z m g) view a d = gate k (is_open m a d) _ refl

  pub kept : (x : Term) (a : ℕ) (d : ℤ) → IsKept w.texts (sort_kind x) (value w names x a d)
  unfolding value
  kept x a d = seen_kept x Own a d

no_term : (g : Graph) (t : ℕ) → slice_get g t ≡ None → term_at g t ≡ absent
no_term g t e = elim (cases_lt t (length g)) [
  | inl l ↦ absurd (past g t l e)
  | inr h ↦ (let long : length (trees g) ≡ 0 + length g = trees-long [] g in get_or_past (trees g) t absent (omega arith))
]

module _ (w : World) (p : Pipeline) where
  abbrev tree : ℕ → Term
  tree t = term_at p.graph t

  -- the value that is told of a term in a view is what the term is worth there
  pub told_number : (view : View) (t a : ℕ) (d : ℤ) → number_in w p (told_fact p.graph t a d view) ≡ in_array w.texts (seen w p.names (tree t) view a d)
  unfolding value
  told_number Own t a d = refl
  told_number (From v) t a d = by_term (is_steady (tree t)) refl
    where
      own : seen w p.names (tree t) (From v) a d ≡ value w p.names (tree t) a d → (is_steady (tree t) || int_eq d v) ≡ true
          → number_in w p (told_fact p.graph t a d (From v)) ≡ in_array w.texts (seen w p.names (tree t) (From v) a d)
      own same e = rw e (ap (in_array w.texts) (sym same))

      by_session : (b : Bool) → int_eq d v ≡ b → is_steady (tree t) ≡ false → number_in w p (told_fact p.graph t a d (From v)) ≡ in_array w.texts (seen w p.names (tree t) (From v) a d)
      by_session true e moves =
          let here : d ≡ v = int_eq-true d v e in
          own (ap (λ s. seen w p.names (tree t) (From s) a d) (sym here) ∙ from-itself w p.names (tree t) a d) (rw (moves, e) refl)
      by_session false e moves = rw (moves, e) refl

      by_term : (b : Bool) → is_steady (tree t) ≡ b → number_in w p (told_fact p.graph t a d (From v)) ≡ in_array w.texts (seen w p.names (tree t) (From v) a d)
      by_term true e = own (steady-own w p.names (tree t) e (From v) a d) (rw e refl)
      by_term false e = by_session (int_eq d v) refl e

module _ (w : World) (p : Pipeline) (known : HasTexts w) (ok : IsGraph p.graph) where
  -- what that number stands for is the value
  seen_code : (view : View) (t a : ℕ) (d : ℤ) → term_read w p (number_in w p) view t a d ≡ seen w p.names (term_at p.graph t) view a d
  seen_code view t a d = ap (value_from w.texts (kind_at p.graph t)) (told_number w p view t a d) ∙ seen_kept w known p.names (term_at p.graph t) view a d

  pub from_code : (t a : ℕ) (d : ℤ) → term_read w p (number_in w p) Own t a d ≡ value_of w p t a d
  unfolding value
  from_code t a d = seen_code Own t a d

  term_is : (view : View) (t : ℕ) → term_read w p (number_in w p) view t ≡ seen w p.names (term_at p.graph t) view
  term_is view t = fun_ext (λ a. fun_ext (λ d. seen_code view t a d))

  number_is : (o : Option ℕ) → number_read w p (number_in w p) o ≡ number_part w p.names p.graph o
  unfolding value
  number_is None = refl
  number_is (Some t) = ap Values (term_is Own t)

  input_is : (k : Kind) (view : View) (d : ℤ) → ((c : Column) → column_read (number_in w p) k view d c ≡ Bars c view) → (o : Option Input)
      → input_read w p (number_in w p) k view d o ≡ seen_part w p.names p.graph view o
  input_is k view d flat None = refl
  input_is k view d flat (Some (BarColumn c)) = flat c
  input_is k view d flat (Some (TermInput t)) = ap Values (term_is view t)

  window_is : (k : WindowKind) (view : View) (size a : ℕ) (d : ℤ) (o : Option Input)
      → window_of w size (input_read w p (number_in w p) (Window k) view d o) a d ≡ window_of w size (seen_part w p.names p.graph view o) a d
  window_is k view size a d None = refl
  window_is k view size a d (Some (BarColumn c)) =
      map_each _ _ (downward size) (each_all _ (downward size) (λ n. ap (λ s. seen_cell w a c s (seen_from view d)) (before-twice d n)))
  window_is k view size a d (Some (TermInput t)) = ap (λ f. window_of w size (Values f) a d) (term_is view t)

  module _ (n : Node) (view : View) (a : ℕ) (d : ℤ) where
    abbrev input : ℕ → Option Input
    input i = slice_get n.inputs i

    -- a kind that reads no bars
    flat_is : (k : Kind) (v : View) → ((c : Column) → column_read (number_in w p) k v d c ≡ Bars c v)
        → operands_read w p (number_in w p) k n v d ≡ seen_node_operands w p.names p.graph n v
    flat_is k v flat = rw (input_is k v d flat (input 0), input_is k v d flat (input 1), input_is k v d flat (input 2), number_is n.mask, number_is n.group) refl

    step_is : (k : Kind)
        → kind_value w p.names k n.window (operands_read w p (number_in w p) k n (view_of k view d) d) a d
        ≡ kind_value w p.names k n.window (seen_node_operands w p.names p.graph n (view_of k view d)) a d
    unfolding kind_value
    step_is (Window k) =
        let inner : View = view_of (Window k) view d in
        rw (window_is k inner n.window a d (input 0), window_is k inner n.window a d (input 1), window_is k inner n.window a d (input 2)) refl
    step_is k = ap (λ o. kind_value w p.names k n.window o a d) (flat_is k (view_of k view d) (λ c. refl))

    node_is : (t : ℕ) → slice_get p.graph t ≡ Some n → node_read w p (number_in w p) t n view a d ≡ node_seen w p.names p.graph n view a d
    node_is t e =
        let shown : kind_at p.graph t ≡ sort_kind (tree_over (trees p.graph) n) = ap sort_kind (term_at-node p.graph t n ok e) in
        rw (step_is n.kind, number_is n.mask, shown) refl

  -- the step of a term over the world's own numbers gives its value, as it is seen
  value_true : (t : ℕ) (view : View) (a : ℕ) (d : ℤ) → value_read w p (number_in w p) t view a d ≡ seen w p.names (term_at p.graph t) view a d
  unfolding seen
  value_true t view a d = found (slice_get p.graph t) refl
    where
      found : (o : Option Node) → slice_get p.graph t ≡ o → value_read w p (number_in w p) t view a d ≡ seen w p.names (term_at p.graph t) view a d
      found None e = rw (e, no_term p.graph t e) refl
      found (Some n) e = rw e (node_is n view a d t e ∙ sym (seen_at-node w p.names p.graph ok t n e view a d))

  -- the single step over the world's own numbers gives the world's number
  pub step_true : (f : Fact) → single_step w p (number_in w p) f ≡ number_in w p f
  unfolding value
  step_true (Seen c a s d) = refl
  step_true (TermValue t a d) = ap (in_array w.texts) (value_true t Own a d)
  step_true (SeenValue t a s d) = ap (in_array w.texts) (value_true t (From d) a s)
