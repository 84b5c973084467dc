-- What a term's sort says of its values and of how they are written.
use Rattle.std.proofs.Common.{arith, ◌≡◌, inl, inr, ℕ, ◌<◌, Bool, true, false, if◌then◌else◌, ℤ, pos, List, [], length, Option, Some, None, slice_get, option_map, position, bytes_eq, refl, sym, ap, subst, ◌∙◌}
use Rattle.pl_spec.specs.declared.Format.{Format}
use Rattle.pl_spec.specs.Rounding.{MISSING, is_missing}
use Rattle.pl_spec.specs.Decimals.{cell_text}
use Rattle.pl_spec.specs.Cells.{is_true}
use Rattle.pl_spec.specs.World.{World}
use Rattle.pl_pipeline.specs.Kind as kind
use Rattle.pl_pipeline.specs.declared.WindowKind.TheVariants as window
use Rattle.pl_pipeline.specs.Kind.{Kind, PointKind, CrossKind}
use Rattle.pl_pipeline.specs.declared.WindowKind.{WindowKind}
use Rattle.pl_pipeline.specs.Term as spec
use Rattle.pl_pipeline.specs.Value.{Value, is_filter, is_window_filter, is_point_filter, is_cross_filter, holds}
use Rattle.pl_pipeline.specs.Table.{Pipeline, value_of, in_array, is_kept}
use Rattle.pl_spec.specs.declared.Format.TheVariants.{Csv, Fixed, Cells}
use Rattle.pl_cross.specs.Arrays.{sid_in}
use Rattle.pl_values.specs.Arrays.{cell_of}
use Rattle.pl_table.proofs.Outputs.{cell-is}
use Rattle.pl_pipeline.specs.Text.{value_field, kind_at, kind_word, number_bytes, number_field, number_text, is_labelled, is_numbered}
use Rattle.pl_spec.specs.Lines.{label_text}
use Rattle.pl_terms.specs.declared.node.Node.{Node}
use Rattle.pl_terms.specs.Nodes.{graph_of}
use Rattle.pl_terms.specs.Checked.{IsChecked}
use Rattle.pl_terms.specs.declared.row.Sort.TheVariants.{Factors, Filters, Labels, Numbers}
use Rattle.pl_terms.specs.declared.row.Sort.{Sort}
use Rattle.pl_terms.specs.Sorts.{sort_at, sort_of, window_sort, point_sort, cross_sort}
use Rattle.pl_cross.specs.Arrays.{HasTexts}
use Rattle.pl_cross.proofs.Codes.{IsCoded}
use Rattle.pl_values.specs.Families.{IsCode}
use Rattle.pl_terms.proofs.TermSorts.{sorted-there}
use Rattle.pl_terms.proofs.Graphs.{graph-long}
use Rattle.pl_pipeline.proofs.Unfolds.{past}
use Rattle.pl_values.proofs.Numbers.{numbered-sort, coded-sort}
use Rattle.pl_values.proofs.Plain.{placed, coded-code}
use Rattle.pl_table.specs.declared.writing.Writing.{Writing}
use Rattle.pl_table.specs.declared.writing.Writing.TheVariants.{Cell, Truth, Whole, Label}
use Rattle.pl_table.specs.Fields.{cell_field, number_part, sort_written, word_written}

-- the sort of a term that is there
pub sort-there : (nodes : List Node) (t : ℕ) (k : Kind) (r : Sort) → t < length nodes → k ≡ kind_at (graph_of nodes) t → sort_of k ≡ r → sort_at (graph_of nodes) t ≡ Some r
sort-there nodes t k r h e s = here (slice_get (graph_of nodes) t) refl
  where
    here : (o : Option spec.Node) → slice_get (graph_of nodes) t ≡ o → sort_at (graph_of nodes) t ≡ Some r
    here None q = absurd (past (graph_of nodes) t (omega (arith, graph-long nodes)) q)
    here (Some n) q = ap (option_map (λ m. sort_of (kind_at (graph_of nodes) t))) q ∙ ap (λ i. Some (sort_of i)) (sym e) ∙ ap Some s

pub sort-none : (nodes : List Node) (t : ℕ) → t < length nodes → kind_at (graph_of nodes) t ≡ kind.Constant MISSING → sort_at (graph_of nodes) t ≡ Some Factors
unfolding sort_of
sort-none nodes t h e = sort-there nodes t (kind.Constant MISSING) Factors h (sym e) refl

-- ---- kinds by their sorts

abbrev is_filters : Sort → Bool
is_filters Filters = true
is_filters r = false

abbrev is_numbers : Sort → Bool
is_numbers Numbers = true
is_numbers r = false

abbrev is_labels : Sort → Bool
is_labels Labels = true
is_labels r = false

-- whether a kind is a filter or is numbered is what its sort says
abbrev IsSorted : Bool → Bool → Sort → Type 0
IsSorted filter numbered r = (filter ≡ is_filters r) × (numbered ≡ is_numbers r)

window-sorted : (k : WindowKind) → IsSorted (is_window_filter k) false (window_sort k)
window-sorted window.All = (refl, refl)
window-sorted k = (refl, refl)

point-sorted : (k : PointKind) → IsSorted (is_point_filter k) false (point_sort k)
point-sorted kind.Add = (refl, refl)
point-sorted k = (refl, refl)

cross-sorted : (k : CrossKind) → IsSorted (is_cross_filter k) (is_numbered (kind.Cross k)) (cross_sort k)
cross-sorted (kind.Top n) = (refl, refl)
cross-sorted k = (refl, refl)

sorted : (k : Kind) → IsSorted (is_filter k) (is_numbered k) (sort_of k)
unfolding sort_of
sorted (kind.Window k) = window-sorted k
sorted (kind.Point k) = point-sorted k
sorted (kind.Cross k) = cross-sorted k
sorted k = (refl, refl)

window-labelled : (k : WindowKind) → is_labels (window_sort k) ≡ false
window-labelled window.All = refl
window-labelled k = refl

point-labelled : (k : PointKind) → is_labels (point_sort k) ≡ false
point-labelled kind.Add = refl
point-labelled k = refl

cross-labelled : (k : CrossKind) → is_labels (cross_sort k) ≡ false
cross-labelled (kind.Top n) = refl
cross-labelled k = refl

labelled : (k : Kind) → is_labelled k ≡ is_labels (sort_of k)
unfolding sort_of
labelled (kind.Window k) = sym (window-labelled k)
labelled (kind.Point k) = sym (point-labelled k)
labelled (kind.Cross k) = sym (cross-labelled k)
labelled k = refl

-- the word for a term's bytes is that of how it is written
pub word-is : (g : List spec.Node) (t : ℕ) (r : Writing) → sort_at g t ≡ Some (sort_written r) → kind_word (kind_at g t) ≡ word_written r
word-is g t r s =
    let m = sorted-there g t (sort_written r) s in
    let k = kind_at g t in
    here r ((sorted k).0 ∙ ap is_filters m.2) ((sorted k).1 ∙ ap is_numbers m.2) (labelled k ∙ ap is_labels m.2)
  where
    here : (q : Writing) → is_filter (kind_at g t) ≡ is_filters (sort_written q) → is_numbered (kind_at g t) ≡ is_numbers (sort_written q)
        → is_labelled (kind_at g t) ≡ is_labels (sort_written q) → kind_word (kind_at g t) ≡ word_written q
    here Cell f n l = rw (l, f, n) refl
    here Truth f n l = rw (l, f) refl
    here Whole f n l = rw (l, f, n) refl
    here Label f n l = rw l refl

-- ---- fields

missing-text : (x : ℤ) (b : Bool) → is_missing x ≡ b → (if is_missing x then [] else cell_text x) ≡ cell_text x
unfolding cell_text
missing-text x true e = rw e refl
missing-text x false e = rw e refl

parts : (format : Format) (k : Kind) (x : ℤ) (text bytes : List ℕ) → number_text k x ≡ text → number_bytes k x ≡ bytes → number_field format k x ≡ number_part format text bytes
parts Csv k x text bytes a b = a
parts Fixed k x text bytes a b = a
parts Cells k x text bytes a b = b

number-field : (format : Format) (texts : List (List ℕ)) (k : Kind) (r : Writing) (x : ℤ) → sort_of k ≡ sort_written r → (sort_written r ≡ Labels → ⊥)
    → number_field format k x ≡ cell_field format texts r x
number-field format texts k Cell x s other =
    let f = (sorted k).0 ∙ ap is_filters s in let n = (sorted k).1 ∙ ap is_numbers s in let l = labelled k ∙ ap is_labels s in
    parts format k x _ _ (rw (f, n) (missing-text x (is_missing x) refl)) (rw (l, f) refl)
number-field format texts k Truth x s other =
    let f = (sorted k).0 ∙ ap is_filters s in let l = labelled k ∙ ap is_labels s in parts format k x _ _ (rw f refl) (rw (l, f) refl)
number-field format texts k Whole x s other =
    let f = (sorted k).0 ∙ ap is_filters s in let n = (sorted k).1 ∙ ap is_numbers s in let l = labelled k ∙ ap is_labels s in
    parts format k x _ _ (rw (f, n) refl) (rw (l, f) refl)
number-field format texts k Label x s other = absurd (other refl)

-- no label
none-field : (format : Format) (k : Kind) → sort_of k ≡ Labels → number_field format k MISSING ≡ label_text format []
none-field Csv k s = refl
none-field Fixed k s = refl
none-field Cells k s = let l = labelled k ∙ ap is_labels s in rw l refl

coded-field : (format : Format) (texts : List (List ℕ)) (k : Kind) (v : Value) → sort_of k ≡ Labels → IsCoded texts v
    → value_field format k v ≡ cell_field format texts Label (in_array texts v)
coded-field format texts k v s (inl e) = rw e (none-field format k s)
coded-field format texts k v s (inr t) = rw t.1 (ap (label_text format) (sym (placed texts t.0 t.2 (position (bytes_eq t.0) texts) refl).1))

module _ (w : World) (p : Pipeline) (ok : IsChecked p) (texts : HasTexts w) (t a : ℕ) (d : ℤ) (format : Format) where
  numbered-field : (r : Writing) → sort_at p.graph t ≡ Some (sort_written r) → (sort_written r ≡ Labels → ⊥)
      → value_field format (kind_at p.graph t) (value_of w p t a d) ≡ cell_field format w.texts r (in_array w.texts (value_of w p t a d))
  numbered-field r s other =
      let v = numbered-sort w p ok t (sort_written r) s other a d in
      let m = sorted-there p.graph t (sort_written r) s in
      ap (value_field format (kind_at p.graph t)) v.1 ∙ number-field format w.texts (kind_at p.graph t) r v.0 m.2 other
      ∙ ap (λ (u : Value). cell_field format w.texts r (in_array w.texts u)) (sym v.1)

  -- the field of a value is that of its cell
  pub field-is : (r : Writing) → sort_at p.graph t ≡ Some (sort_written r) → value_field format (kind_at p.graph t) (value_of w p t a d) ≡ cell_field format w.texts r (in_array w.texts (value_of w p t a d))
  field-is Label s = coded-field format w.texts (kind_at p.graph t) (value_of w p t a d) (sorted-there p.graph t Labels s).2 (coded-sort w p ok t texts s a d)
  field-is Cell s = numbered-field Cell s (λ e. let bad : Factors ≡ Labels = e in cc)
  field-is Truth s = numbered-field Truth s (λ e. let bad : Filters ≡ Labels = e in cc)
  field-is Whole s = numbered-field Whole s (λ e. let bad : Numbers ≡ Labels = e in cc)

  pub code-is : sort_at p.graph t ≡ Some Labels → IsCode w.texts (in_array w.texts (value_of w p t a d))
  code-is s = coded-code w.texts (value_of w p t a d) (coded-sort w p ok t texts s a d)

  -- a screen keeps where its array has 1
  pub holds-is : sort_at p.graph t ≡ Some Filters → holds (value_of w p t a d) ≡ is_true (in_array w.texts (value_of w p t a d))
  holds-is s =
      let v = numbered-sort w p ok t Filters s (λ e. let bad : Filters ≡ Labels = e in cc) a d in
      ap holds v.1 ∙ ap (λ (u : Value). is_true (in_array w.texts u)) (sym v.1)

pub passes-is : (w : World) (p : Pipeline) → IsChecked p → HasTexts w → (sids : List ℕ) (t i s : ℕ) (x : ℤ) → p.screen ≡ Some t → x ≡ cell_of w p sids t i s
    → is_true x ≡ is_kept w p p.screen (pos s) (sid_in sids i)
passes-is w p ok texts sids t i s x screen e =
    ap is_true (e ∙ cell-is w p sids t i s)
    ∙ sym (holds-is w p ok texts t (sid_in sids i) (pos s) Csv (ok.screen t screen))
    ∙ ap (λ (o : Option ℕ). is_kept w p o (pos s) (sid_in sids i)) (sym screen)

-- the code of a label's cell
pub code-of-cell : (w : World) (p : Pipeline) → IsChecked p → HasTexts w → (sids : List ℕ) (t i s : ℕ) (r : Writing) (x : ℤ) → sort_at p.graph t ≡ Some (sort_written r) → r ≡ Label → x ≡ cell_of w p sids t i s
    → IsCode w.texts x
code-of-cell w p ok texts sids t i s r x sort label e =
    subst (IsCode w.texts) (sym (e ∙ cell-is w p sids t i s)) (code-is w p ok texts t (sid_in sids i) (pos s) Csv (sort ∙ ap (λ (q : Writing). Some (sort_written q)) label))
