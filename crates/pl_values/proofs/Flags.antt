-- A filter is worth 0 or 1.
use Rattle.std.proofs.Common.{◌||◌, ◌≡◌, ℕ, Bool, true, false, if◌then◌else◌, ℤ, pos, List, [], Some, refl, ◌∙◌, slice_get, ◌==◌, ◌&&◌, sym, ap, true≢false}
use Rattle.std.specs.List.{list_any}
use Rattle.pl_spec.specs.World.{World, exists}
use Rattle.pl_pipeline.specs.Kind.{Kind, PointKind, LabelKind, CrossKind}
use Rattle.pl_pipeline.specs.declared.WindowKind.{WindowKind}
use Rattle.pl_pipeline.specs.Kind.Kind.{Constant, StaticSids, Window, Point, LabelTest, Cross, Downsample}
use Rattle.pl_pipeline.specs.declared.WindowKind.TheVariants.{All, Any, AtLeastN, AllPresent}
use Rattle.pl_pipeline.specs.Kind.PointKind.{Comparison, And, Or, Not, IsNull, NotNull, NumberIs, NumberIsNot}
use Rattle.pl_pipeline.specs.Kind.CrossKind.{Top, Bottom, PercentileBetween}
use Rattle.pl_spec.specs.Cells.{truth}
use Rattle.pl_pipeline.specs.Formula.{formula}
use Rattle.pl_pipeline.specs.Pointwise.{pointwise, label_test}
use Rattle.pl_pipeline.specs.Cross.{cross, is_for_all}
use Rattle.pl_pipeline.specs.Term.{Node, input_tree, trees}
use Rattle.pl_pipeline.specs.Value.{Value, Operands, value_of_part, passes, eligible, test_value, empty, number_of, sort_over, sort_kind, Own, view_of, kind_value}
use Rattle.pl_pipeline.specs.Value.Value.{Number, Text}
use Rattle.pl_pipeline.specs.NodeValue.{node_seen, number_part, seen_node_operands}
use Rattle.pl_pipeline.specs.Table.{Pipeline, value_of, in_array}
use Rattle.pl_terms.specs.Checked.{IsChecked}
use Rattle.pl_terms.specs.declared.row.Sort.TheVariants.{Factors, Filters}
use Rattle.pl_terms.specs.declared.row.Sort.{Sort}
use Rattle.pl_terms.specs.Sorts.{sort_of, sort_at, window_sort, point_sort, cross_sort}
use Rattle.pl_lanes.specs.Flags.{IsFlag}
use Rattle.pl_cross.specs.Arrays.{sid_in}
use Rattle.pl_values.specs.Arrays.{cell_of}
use Rattle.pl_values.specs.Laws.{FilterCells}
use Rattle.pl_values.proofs.Downsampled.{value-seen, values-of-sort}
use Rattle.pl_pointwise.proofs.ResultLemmas.{truth-flag}

abbrev IsTruth : Value → Type 0
IsTruth v = (b : Bool) × (v ≡ Number (truth b))

abbrev is_filters : Sort → Bool
is_filters Filters = true
is_filters r = false

window_truth : (k : WindowKind) (a b c : List ℤ) → window_sort k ≡ Filters → IsTruth (Number (formula k a b c)) × IsTruth (empty (Window k))
unfolding formula
window_truth All a b c e = ((_, refl), (false, refl))
window_truth Any a b c e = ((_, refl), (false, refl))
window_truth (AtLeastN n) a b c e = ((_, refl), (false, refl))
window_truth AllPresent a b c e = ((_, refl), (false, refl))
window_truth k a b c e = absurd (let bad : Factors ≡ Filters = e in cc)

point_truth : (k : PointKind) (x y z : ℤ) → point_sort k ≡ Filters → IsTruth (Number (pointwise k x y z)) × IsTruth (empty (Point k))
unfolding pointwise
point_truth (Comparison c) x y z e = ((_, refl), (false, refl))
point_truth And x y z e = ((_, refl), (false, refl))
point_truth Or x y z e = ((_, refl), (false, refl))
point_truth Not x y z e = ((_, refl), (false, refl))
point_truth IsNull x y z e = ((_, refl), (false, refl))
point_truth NotNull x y z e = ((_, refl), (false, refl))
point_truth (NumberIs n) x y z e = ((_, refl), (false, refl))
point_truth (NumberIsNot n) x y z e = ((_, refl), (false, refl))
point_truth k x y z e = absurd (true≢false (sym (ap is_filters e)))

either_truth : (b : Bool) (v u : Value) → IsTruth v → IsTruth u → IsTruth (if b then v else u)
either_truth true v u h k = h
either_truth false v u h k = k

cross_truth : (k : CrossKind) (list : _) (a : ℕ) (x : ℤ) → cross_sort k ≡ Filters → IsTruth (Number (cross k list a x)) × IsTruth (empty (Cross k))
unfolding cross
cross_truth (Top n) list a x e = ((_, refl), (false, refl))
cross_truth (Bottom n) list a x e = ((_, refl), (false, refl))
cross_truth (PercentileBetween low high) list a x e = ((_, refl), (false, refl))
cross_truth k list a x e = absurd (true≢false (sym (ap is_filters e)))

test_truth : (k : LabelKind) (v : Value) → IsTruth (test_value k v)
test_truth k (Number x) = (false, refl)
test_truth k (Text t) = (label_test k t, refl)

step_truth : (w : World) (names : List (List ℕ)) (k : Kind) (size : ℕ) (o : Operands) (a : ℕ) (d : ℤ) → sort_of k ≡ Filters → IsTruth (kind_value w names k size o a d)
unfolding kind_value sort_of
step_truth w names (StaticSids sids) size o a d h = (_, refl)
step_truth w names (Window k) size o a d h = (window_truth k _ _ _ h).0
step_truth w names (Point k) size o a d h = (point_truth k _ _ _ h).0
step_truth w names (LabelTest k) size o a d h = test_truth k (value_of_part o.first a d)
step_truth w names (Cross k) size o a d h =
    let t = cross_truth k (eligible w k o a d) a (number_of (value_of_part o.first a d)) h in
    either_truth (is_for_all k || list_any (λ e. e.0 == a) (eligible w k o a d)) _ (empty (Cross k)) t.0 t.1
step_truth w names k size o a d h = absurd (true≢false (sym (ap is_filters h)))

empty_truth : (k : Kind) → sort_of k ≡ Filters → IsTruth (empty k)
unfolding sort_of
empty_truth (StaticSids sids) h = (false, refl)
empty_truth (Window k) h = (window_truth k [] [] [] h).1
empty_truth (Point k) h = (point_truth k (pos 0) (pos 0) (pos 0) h).1
empty_truth (LabelTest k) h = (false, refl)
empty_truth (Cross k) h = (cross_truth k [] 0 (pos 0) h).1
empty_truth k h = absurd (true≢false (sym (ap is_filters h)))

over_truth : (k i : Kind) → sort_of k ≡ Filters → IsTruth (empty (sort_over k i))
unfolding sort_of
over_truth (Downsample f) i h = absurd (let bad : Factors ≡ Filters = h in cc)
over_truth (Constant c) i h = empty_truth (Constant c) h
over_truth k i h = empty_truth k h

value_flag : (texts : List (List ℕ)) (v : Value) → IsTruth v → IsFlag (in_array texts v)
value_flag texts v t = let e = t.1 in rw e (truth-flag t.0)

node_truth : (w : World) (p : Pipeline) (ok : IsChecked p) (t : ℕ) (n : Node) → slice_get p.graph t ≡ Some n → sort_of n.kind ≡ Filters → (a : ℕ) (d : ℤ) → IsTruth (value_of w p t a d)
node_truth w p ok t n is s a d =
    let whole : IsTruth (node_seen w p.names p.graph n Own a d) = either_truth
    (exists w a d && passes (number_part w p.names p.graph n.mask) a d) _ (empty (sort_over n.kind (sort_kind (input_tree (trees p.graph) (slice_get n.inputs 0)))))
    (step_truth w p.names n.kind n.window (seen_node_operands w p.names p.graph n (view_of n.kind Own d)) a d s)
    (over_truth n.kind (sort_kind (input_tree (trees p.graph) (slice_get n.inputs 0))) s) in
    (whole.0, value-seen w p ok t n is a d ∙ whole.1)

-- a filter is worth a flag, on any session
pub filter-flag : (w : World) (p : Pipeline) (t a : ℕ) (d : ℤ) → IsChecked p → sort_at p.graph t ≡ Some Filters → IsFlag (in_array w.texts (value_of w p t a d))
filter-flag w p t a d ok h =
    value_flag w.texts (value_of w p t a d) (values-of-sort w p ok IsTruth Filters (λ k n is own q. node_truth w p ok k n is q) (λ k q. empty_truth k q) t h a d)

pub filter-cell : FilterCells
unfolding cell_of
filter-cell w p sids t i s ok h = filter-flag w p t (sid_in sids i) (pos s) ok h
