-- Which terms are worth numbers, and which labels of the world.
use Rattle.std.proofs.Common.{◌||◌, ◌≡◌, ℕ, Bool, true, false, ◌&&◌, if◌then◌else◌, ℤ, pos, List, Option, Some, refl, sym, subst, ◌∙◌, slice_get, ◌==◌, inl, ap, true≢false}
use Rattle.std.specs.List.{list_any}
use Rattle.pl_spec.specs.World.{World, exists}
use Rattle.pl_pipeline.specs.Cross.{is_for_all}
use Rattle.pl_pipeline.specs.Kind.{Kind, PointKind, LabelKind, CrossKind}
use Rattle.pl_pipeline.specs.declared.WindowKind.{WindowKind}
use Rattle.pl_pipeline.specs.declared.WindowKind.TheVariants.{All}
use Rattle.pl_pipeline.specs.Kind.PointKind.{Add}
use Rattle.pl_pipeline.specs.Kind.CrossKind.{Demean}
use Rattle.pl_pipeline.specs.Kind.Kind.{Label, Window, Point, LabelTest, Cross, Downsample}
use Rattle.pl_spec.specs.Cells.{truth}
use Rattle.pl_pipeline.specs.Pointwise.{label_test}
use Rattle.pl_pipeline.specs.Term.{Node, input_tree, trees}
use Rattle.pl_pipeline.specs.Value.{Value, Operands, value_of_part, passes, eligible, test_value, empty, is_filter, number_of, sort_over, sort_kind, Own, view_of, kind_value}
use Rattle.pl_pipeline.specs.Value.Value.{Number, Text}
use Rattle.pl_pipeline.specs.NodeValue.{node_seen, number_part, seen_node_operands}
use Rattle.pl_pipeline.specs.Table.{Pipeline, value_of, in_array}
use Rattle.pl_pipeline.proofs.Trees.{term_at-node}
use Rattle.pl_terms.specs.Checked.{IsChecked}
use Rattle.pl_terms.specs.declared.row.Sort.TheVariants.{Factors, Filters, Labels, Numbers}
use Rattle.pl_terms.specs.declared.row.Sort.{Sort}
use Rattle.pl_terms.specs.Sorts.{sort_of, sort_at, window_sort, point_sort, cross_sort, is_downsampled}
use Rattle.pl_cross.specs.Arrays.{HasTexts}
use Rattle.pl_cross.proofs.LabelCodes.{labels-coded}
use Rattle.pl_cross.proofs.Codes.{IsCoded, IsNumber}
use Rattle.pl_values.proofs.Downsampled.{value-seen, values-of-sort}

-- an empty value is a number
pub empty_is : (k : Kind) → empty k ≡ Number (number_of (empty k))
empty_is k = here (is_filter k) refl
  where
    here : (b : Bool) → is_filter k ≡ b → empty k ≡ Number (number_of (empty k))
    here true e = rw e refl
    here false e = rw e refl

test_number : (k : LabelKind) (v : Value) → IsNumber (test_value k v)
test_number k (Number x) = (pos 0, refl)
test_number k (Text t) = (truth (label_test k t), refl)

pub either_number : (b : Bool) (v u : Value) → IsNumber v → IsNumber u → IsNumber (if b then v else u)
either_number true v u h k = h
either_number false v u h k = k

-- the kinds whose values are numbers; a downsampled term has those of its input
abbrev pub gives_numbers : Kind → Bool
gives_numbers (Label n) = false
gives_numbers (Downsample f) = false
gives_numbers k = true

pub step_number : (w : World) (names : List (List ℕ)) (k : Kind) (size : ℕ) (o : Operands) (a : ℕ) (d : ℤ) → gives_numbers k ≡ true → IsNumber (kind_value w names k size o a d)
unfolding kind_value
step_number w names (Label n) size o a d h = absurd (true≢false (sym h))
step_number w names (Downsample f) size o a d h = absurd (true≢false (sym h))
step_number w names (LabelTest k) size o a d h = test_number k (value_of_part o.first a d)
step_number w names (Cross k) size o a d h =
    either_number (is_for_all k || list_any (λ e. e.0 == a) (eligible w k o a d)) _ (empty (Cross k)) (_, refl) (number_of (empty (Cross k)), empty_is (Cross k))
step_number w names k size o a d h = (_, refl)

-- the kind of a term that is neither downsampled nor a label
pub not_label : (k : Kind) → is_downsampled k ≡ false → (sort_of k ≡ Labels → ⊥) → gives_numbers k ≡ true
unfolding sort_of
not_label (Label n) h f = absurd (f refl)
not_label (Downsample f) h g = absurd (true≢false h)
not_label k h f = refl

abbrev is_labels : Sort → Bool
is_labels Labels = true
is_labels r = false

window_not : (k : WindowKind) → window_sort k ≡ Labels → ⊥
window_not All e = true≢false (sym (ap is_labels e))
window_not k e = true≢false (sym (ap is_labels e))

point_not : (k : PointKind) → point_sort k ≡ Labels → ⊥
point_not Add e = true≢false (sym (ap is_labels e))
point_not k e = true≢false (sym (ap is_labels e))

cross_not : (k : CrossKind) → cross_sort k ≡ Labels → ⊥
cross_not Demean e = true≢false (sym (ap is_labels e))
cross_not k e = true≢false (sym (ap is_labels e))

-- a term of labels is a label
label_kind : (k : Kind) → sort_of k ≡ Labels → (l : ℕ) × (k ≡ Label l)
unfolding sort_of
label_kind (Label l) e = (l, refl)
label_kind (Window k) e = absurd (window_not k e)
label_kind (Point k) e = absurd (point_not k e)
label_kind (Cross k) e = absurd (cross_not k e)
label_kind k e = absurd (true≢false (sym (ap is_labels e)))

-- a term of the sort is worth numbers
abbrev pub plain_sort : Option Sort → Bool
plain_sort (Some Factors) = true
plain_sort (Some Filters) = true
plain_sort (Some Numbers) = true
plain_sort o = false

module _ (w : World) (p : Pipeline) (ok : IsChecked p) where
  abbrev pub IsNumberedTerm : ℕ → Type 0
  IsNumberedTerm t = (a : ℕ) (d : ℤ) → IsNumber (value_of w p t a d)

  numbered : (t : ℕ) (m : Node) → slice_get p.graph t ≡ Some m → is_downsampled m.kind ≡ false → (sort_of m.kind ≡ Labels → ⊥) → IsNumberedTerm t
  numbered t m is own other a d =
      let whole : IsNumber (node_seen w p.names p.graph m Own a d) = either_number
      (exists w a d && passes (number_part w p.names p.graph m.mask) a d) _ (empty (sort_over m.kind (sort_kind (input_tree (trees p.graph) (slice_get m.inputs 0)))))
      (step_number w p.names m.kind m.window (seen_node_operands w p.names p.graph m (view_of m.kind Own d)) a d (not_label m.kind own other))
      (number_of (empty (sort_over m.kind (sort_kind (input_tree (trees p.graph) (slice_get m.inputs 0))))), empty_is (sort_over m.kind (sort_kind (input_tree (trees p.graph) (slice_get m.inputs 0))))) in
      (whole.0, value-seen w p ok t m is a d ∙ whole.1)

  pub numbered-sort : (t : ℕ) (r : Sort) → sort_at p.graph t ≡ Some r → (r ≡ Labels → ⊥) → IsNumberedTerm t
  numbered-sort t r e other = values-of-sort w p ok IsNumber r (λ k m at own s. numbered k m at own (λ f. other (sym s ∙ f))) (λ k s. (number_of (empty k), empty_is k)) t e

  pub plain-number : (t : ℕ) (o : Option Sort) → sort_at p.graph t ≡ o → plain_sort o ≡ true → IsNumberedTerm t
  plain-number t (Some Factors) g h = numbered-sort t Factors g (λ e. let bad : Factors ≡ Labels = e in cc)
  plain-number t (Some Filters) g h = numbered-sort t Filters g (λ e. let bad : Filters ≡ Labels = e in cc)
  plain-number t (Some Numbers) g h = numbered-sort t Numbers g (λ e. let bad : Numbers ≡ Labels = e in cc)
  plain-number t o g h = absurd (let bad : false ≡ true = h in cc)

  -- of a numbered term the array holds the number
  pub number_is : (t : ℕ) → IsNumberedTerm t → (a : ℕ) (d : ℤ) → number_of (value_of w p t a d) ≡ in_array w.texts (value_of w p t a d)
  number_is t numbered a d = let e = (numbered a d).1 in rw e refl

  pub coded-sort : (t : ℕ) → HasTexts w → sort_at p.graph t ≡ Some Labels → (a : ℕ) (d : ℤ) → IsCoded w.texts (value_of w p t a d)
  coded-sort t texts e a d = values-of-sort w p ok (IsCoded w.texts) Labels own none t e a d
    where
      own : (k : ℕ) (m : Node) → slice_get p.graph k ≡ Some m → is_downsampled m.kind ≡ false → sort_of m.kind ≡ Labels → (a : ℕ) (d : ℤ) → IsCoded w.texts (value_of w p k a d)
      own k m at plain s a d =
          let l = label_kind m.kind s in
          let tree = term_at-node p.graph k m ok.graph at in
          rw (tree, l.1) (labels-coded w texts p.names l.0 m.window _ _ _ _ _ a d)

      none : (k : Kind) → sort_of k ≡ Labels → IsCoded w.texts (empty k)
      none k s = let l = label_kind k s in subst (λ q. IsCoded w.texts (empty q)) (sym l.1) (inl refl)
