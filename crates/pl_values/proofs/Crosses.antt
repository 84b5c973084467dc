-- Cross-sections.
use Rattle.std.proofs.Common.{◌≡◌, ◌⊎◌, ℕ, ◌<◌, true, false, ◌&&◌, ℤ, pos, List, Option, Some, None, length, refl, sym, ◌∙◌, ap, arith, slice_get, subst, inl, inr}
use Rattle.std.proofs.lemmas.List.{get_or_default}
use Rattle.pl_spec.specs.Rounding.{MISSING}
use Rattle.pl_spec.specs.World.{World, exists}
use Rattle.pl_pipeline.specs.Kind.{Kind, CrossKind}
use Rattle.pl_pipeline.specs.Kind.Kind.{Cross}
use Rattle.pl_pipeline.specs.Kind.CrossKind.{PeerCount}
use Rattle.pl_spec.specs.Cells.{is_true}
use Rattle.pl_pipeline.specs.Cross.{array_at}
use Rattle.pl_pipeline.specs.Term.{Node, Input}
use Rattle.pl_pipeline.specs.Term.Input.{BarColumn, TermInput}
use Rattle.pl_pipeline.specs.Value.{Part, Operands, passes, group_of}
use Rattle.pl_pipeline.specs.Value.Part.{Values}
use Rattle.pl_pipeline.specs.NodeValue.{meaning_of, input_part, number_part, node_operands}
use Rattle.pl_pipeline.specs.Table.{Pipeline, in_array}
use Rattle.pl_terms.specs.Checked.{IsChecked}
use Rattle.pl_terms.specs.declared.row.Sort.TheVariants.{Factors, Labels, Numbers}
use Rattle.pl_terms.specs.declared.row.Sort.{Sort}
use Rattle.pl_terms.specs.Sorts.{Place, Factor, Classifier, sort_at, places, cross_places, fits, all_fit, takes_sort, has_group}
use Rattle.pl_cross.specs.Section.{IsRight, HasParameters}
use Rattle.pl_cross.specs.Listing.{labels_for}
use Rattle.pl_cross.specs.Arrays.{sid_in, IsArray, IsNumbered, IsLabelled, IsGroupArray, HasNumbers, Columns, AreArrays, HasTexts}
use Rattle.pl_cross.proofs.Sections.{node-value}
use Rattle.pl_cross.proofs.Allowed.{allowed-right}
use Rattle.pl_values.specs.Arrays.{cell_of, is_kept, Fills, IsKeep}
use Rattle.pl_values.specs.Inputs.{IsInputRow, IsGroupRow}
use Rattle.pl_values.specs.Laws.{SectionCells}
use Rattle.pl_values.proofs.Typed.{has-input, optional-sort, no_column, no-takes, crosses-free}
use Rattle.pl_values.proofs.Operations.{all-at}
use Rattle.pl_values.proofs.Numbers.{numbered-sort, coded-sort}
use Rattle.pl_values.proofs.Cells.{keeps-is}

places-of : (k : Kind) (f : CrossKind) → k ≡ Cross f → places k ≡ cross_places f
unfolding places
places-of k f e = rw e refl

abbrev first_place : CrossKind → Place
first_place PeerCount = Classifier
first_place k = Factor

cross-first : (f : CrossKind) → slice_get (cross_places f) 0 ≡ Some (first_place f)
cross-first PeerCount = refl
cross-first f = refl

factor-sort : (o : Option Sort) → takes_sort Factor o ≡ true → o ≡ Some Factors
factor-sort (Some Factors) h = refl
factor-sort o h = absurd (let bad : false ≡ true = h in cc)

class-sort : (o : Option Sort) → takes_sort Classifier o ≡ true → (o ≡ Some Labels) ⊎ (o ≡ Some Numbers)
class-sort (Some Labels) h = inl refl
class-sort (Some Numbers) h = inr refl
class-sort o h = absurd (let bad : false ≡ true = h in cc)

right-of : (k : Kind) (f : CrossKind) → k ≡ Cross f → HasParameters k → IsRight f
right-of k f e h = rw e at h

module _ (w : World) (p : Pipeline) (sids : List ℕ) (ok : IsChecked p) where
  -- a row of a term's cells is its array
  row-array : (t s : ℕ) (row : List ℤ) → Fills (λ i. cell_of w p sids t i s) (length sids) row → IsArray w (Values (meaning_of w p.names p.graph t)) (pos s) sids row
  unfolding cell_of
  row-array t s row b = record {
    long = b.long;
    each = λ i h. let l : i < length row = omega (arith, h, b.long) in get_or_default row i MISSING (pos 0) l ∙ b.each i h;
  }

  -- a classifier's values are numbers, or labels of the world
  classes : (t s : ℕ) → HasTexts w → takes_sort Classifier (sort_at p.graph t) ≡ true
      → IsNumbered (Values (meaning_of w p.names p.graph t)) (pos s) ⊎ IsLabelled w (Values (meaning_of w p.names p.graph t)) (pos s)
  classes t s texts h = here (class-sort (sort_at p.graph t) h)
    where
      here : (sort_at p.graph t ≡ Some Labels) ⊎ (sort_at p.graph t ≡ Some Numbers)
          → IsNumbered (Values (meaning_of w p.names p.graph t)) (pos s) ⊎ IsLabelled w (Values (meaning_of w p.names p.graph t)) (pos s)
      here (inl e) = inr (λ a. coded-sort w p ok t texts e a (pos s))
      here (inr e) = inl (λ a. numbered-sort w p ok t Numbers e (λ f. let bad : Numbers ≡ Labels = f in cc) a (pos s))

  group-array : (s : ℕ) (group : Option ℕ) (labels : Option (List ℤ)) → HasTexts w → ((t : ℕ) → group ≡ Some t → takes_sort Classifier (sort_at p.graph t) ≡ true)
      → IsGroupRow w p sids group s labels → IsGroupArray w (number_part w p.names p.graph group) (pos s) sids labels
  group-array s None labels texts h r = r
  group-array s (Some t) None texts h r = absurd r
  group-array s (Some t) (Some ls) texts h r = (row-array t s ls r, classes t s texts (h t refl))

  module _ (k : ℕ) (n : Node) (is : slice_get p.graph k ≡ Some n) (f : CrossKind) (e : n.kind ≡ Cross f) where
    fit : all_fit p.graph (cross_places f) n.inputs ≡ true
    fit = ap (λ ps. all_fit p.graph ps n.inputs) (sym (places-of n.kind f e)) ∙ (ok.nodes k n is).inputs

    -- the input is a term
    pub section-input : (t : ℕ) × (slice_get n.inputs 0 ≡ Some (TermInput t)) × (takes_sort (first_place f) (sort_at p.graph t) ≡ true)
    section-input = let x = has-input p.graph (cross_places f) n.inputs 0 (first_place f) fit (cross-first f) in here x.0 x.1 x.2
      where
        here : (x : Input) → slice_get n.inputs 0 ≡ Some x → fits p.graph (first_place f) x ≡ true → (t : ℕ) × (slice_get n.inputs 0 ≡ Some (TermInput t)) × (takes_sort (first_place f) (sort_at p.graph t) ≡ true)
        here (TermInput t) g l = (t, g, l)
        here (BarColumn c) g l = absurd (no-takes (first_place f) c (all-at no_column (cross_places f) 0 (first_place f) (crosses-free f) (cross-first f)) l)

    group-sort : (t : ℕ) → n.group ≡ Some t → takes_sort Classifier (sort_at p.graph t) ≡ true
    group-sort t h = optional-sort p.graph (has_group n.kind) Classifier n.group t (ok.nodes k n is).group h

    kept : (s : ℕ) (keep : List ℤ) → IsKeep (λ i. is_kept w p sids n.mask i s) (length sids) keep → (i : ℕ) → i < length sids
        → is_true (array_at keep i) ≡ (exists w (sid_in sids i) (pos s) && passes (number_part w p.names p.graph n.mask) (sid_in sids i) (pos s))
    kept s keep b i h =
        let l : i < length keep = omega (arith, h, b.long) in
        ap is_true (get_or_default keep i MISSING (pos 0) l) ∙ b.each i h ∙ sym (keeps-is w p sids ok k n is i s)

has-numbers : (w : World) (p : Pipeline) (ok : IsChecked p) (f : CrossKind) (t s : ℕ) → takes_sort (first_place f) (sort_at p.graph t) ≡ true → HasNumbers f (Values (meaning_of w p.names p.graph t)) (pos s)
has-numbers w p ok PeerCount t s h = tt
has-numbers w p ok f t s h = λ a. numbered-sort w p ok t Factors (factor-sort (sort_at p.graph t) h) (λ e. let bad : Factors ≡ Labels = e in cc) a (pos s)

groups-of : (w : World) (p : Pipeline) (sids : List ℕ) (ok : IsChecked p) (f : CrossKind) (t s : ℕ) (group : Option ℕ) (values : List ℤ) (labels : Option (List ℤ)) → HasTexts w
    → takes_sort (first_place f) (sort_at p.graph t) ≡ true → Fills (λ i. cell_of w p sids t i s) (length sids) values
    → ((u : ℕ) → group ≡ Some u → takes_sort Classifier (sort_at p.graph u) ≡ true) → IsGroupRow w p sids group s labels
    → IsGroupArray w (group_of f (Values (meaning_of w p.names p.graph t)) (number_part w p.names p.graph group)) (pos s) sids (labels_for f values labels)
groups-of w p sids ok PeerCount t s group values labels texts h b g r = (row-array w p sids ok t s values b, classes w p sids ok t s texts h)
groups-of w p sids ok f t s group values labels texts h b g r = group-array w p sids ok s group labels texts g r

pub section-cell : SectionCells
unfolding cell_of
section-cell w p sids k n i s own f values keep labels texts e rows =
    let ok = own.checked in
    let is = own.node in
    let x = section-input w p sids ok k n is f e in
    let b : Fills (λ i. cell_of w p sids x.0 i s) (length sids) values = subst (λ o. IsInputRow w p sids (length sids) o s values) x.1 rows.values in
    let columns : Columns = record { sids = sids; values = values; keep = keep; labels = labels } in
    let m : Part = Values (meaning_of w p.names p.graph x.0) in
    let with_first : Part → Operands = λ q. record (node_operands w p.names p.graph n) { first = q } in
    let whole : AreArrays w f (with_first m) (pos s) columns = record {
      ascend = rows.ascend;
      all = rows.all;
      values = row-array w p sids ok x.0 s values b;
      numbers = has-numbers w p ok f x.0 s x.2;
      keep = kept w p sids ok k n is f e s keep rows.keep;
      groups = groups-of w p sids ok f x.0 s n.group values labels texts x.2 b (group-sort w p sids ok k n is f e) rows.groups;
    } in
    let arrays = subst (λ (o : Option Input). AreArrays w f (with_first (input_part w p.names p.graph o)) (pos s) columns) (sym x.1) whole in (
      right-of n.kind f e (allowed-right n.kind n.window (length p.names) (ok.nodes k n is).parameters),
      λ h. ap (in_array w.texts) (node-value w p.names p.graph k n f (pos s) columns ok.graph is e arrays i h),
    )
