-- The kinds of each family, and which of their values are cells.
use Rattle.std.proofs.Common.{◌≡◌, ℕ, Bool, true, false, if◌then◌else◌, ℤ, pos, List, [], get_or, refl, sym, subst, ◌==◌}
use Rattle.std.specs.Prelude.{unsigned_abs}
use Rattle.std.specs.List.{list_any}
use Rattle.std.proofs.lemmas.Bool.{true≢false}
use Rattle.pl_spec.specs.Rounding.{MISSING, IsCell, is_missing}
use Rattle.pl_pipeline.specs.Value.{Number, number_of, empty, is_window_filter, is_point_filter}
use Rattle.pl_pipeline.specs.Kind.{Kind, PointKind, LabelKind, CrossKind}
use Rattle.pl_pipeline.specs.declared.WindowKind.{WindowKind}
use Rattle.pl_pipeline.specs.Kind.CrossKind.{Demean}
use Rattle.pl_pipeline.specs.Kind.Kind.{StaticSids, Window, Point, LabelTest, Cross, Downsample}
use Rattle.pl_spec.specs.declared.Frequency.{Frequency}
use Rattle.pl_spec.specs.Cells.{truth}
use Rattle.pl_pipeline.specs.Pointwise.{label_test}
use Rattle.pl_pipeline.proofs.Cells.{zero-cell, truth-cell}
use Rattle.pl_terms.specs.Rows.{kind_row, cross_sort}
use Rattle.pl_terms.specs.declared.row.Sort.TheVariants.{Factors, Filters}
use Rattle.pl_terms.specs.Sorts.{is_downsampled, is_windowed}
use Rattle.pl_cross.specs.Section.{is_section}
use Rattle.pl_values.specs.Views.{keeps_kind}
use Rattle.pl_values.specs.Families.{IsOf, empty_number, is_sids, is_point, is_label_test, sid_flag, code_flag}

pub sids_kind : (k : Kind) → is_sids k ≡ true → (own : List ℕ) × (k ≡ StaticSids own)
sids_kind (StaticSids own) e = (own, refl)
sids_kind k e = absurd (true≢false (sym e))

pub point_kind : (k : Kind) → is_point k ≡ true → (f : PointKind) × (k ≡ Point f)
point_kind (Point f) e = (f, refl)
point_kind k e = absurd (true≢false (sym e))

pub label_test_kind : (k : Kind) → is_label_test k ≡ true → (f : LabelKind) × (k ≡ LabelTest f)
label_test_kind (LabelTest f) e = (f, refl)
label_test_kind k e = absurd (true≢false (sym e))

pub section_kind : (k : Kind) → is_section k ≡ true → (f : CrossKind) × (k ≡ Cross f)
section_kind (Cross f) e = (f, refl)
section_kind k e = absurd (true≢false (sym e))

pub window_kind : (k : Kind) → is_windowed k ≡ true → (f : WindowKind) × (k ≡ Window f)
window_kind (Window f) e = (f, refl)
window_kind k e = absurd (true≢false (sym e))

pub downsampled_kind : (k : Kind) → is_downsampled k ≡ true → (f : Frequency) × (k ≡ Downsample f)
downsampled_kind (Downsample f) e = (f, refl)
downsampled_kind k e = absurd (true≢false (sym e))

-- ---- cells

pub sid_flag_cell : (k : Kind) (a : ℕ) → is_sids k ≡ true → IsCell (sid_flag k a)
sid_flag_cell k a e = let s = sids_kind k e in subst (λ x. IsCell (sid_flag x a)) (sym s.1) (truth-cell (list_any (λ b. b == a) s.0))

pub code_flag_cell : (texts : List (List ℕ)) (k : Kind) (x : ℤ) → is_label_test k ≡ true → IsCell (code_flag texts k x)
code_flag_cell texts k x e = let s = label_test_kind k e in subst (λ y. IsCell (code_flag texts y x)) (sym s.1) (here (is_missing x))
  where
    here : (b : Bool) → IsCell (if b then pos 0 else truth (label_test (label_test_kind k e).0 (get_or texts (unsigned_abs x) [])))
    here true = zero-cell
    here false = truth-cell _

-- ---- rows

-- the family of a kind's row is its own
pub family-own : (k : Kind) → IsOf k (kind_row k).family
family-own (Window f) = refl
family-own k = refl

-- a kind keeps its values where its row says so
pub keeps-own : (k : Kind) → (kind_row k).keeps_values ≡ keeps_kind k
keeps-own (Window f) = refl
keeps-own k = refl

-- what stands in the place of a value, by the sort of the row
either-sorted : (b : Bool) → number_of (if b then Number (pos 0) else Number MISSING) ≡ empty_number (if b then Filters else Factors)
either-sorted true = refl
either-sorted false = refl

cross-sorted : (f : CrossKind) → number_of (empty (Cross f)) ≡ empty_number (cross_sort f)
cross-sorted Demean = refl
cross-sorted f = refl

pub empty-sorted : (k : Kind) → number_of (empty k) ≡ empty_number (kind_row k).sort
empty-sorted (Window f) = either-sorted (is_window_filter f)
empty-sorted (Point f) = either-sorted (is_point_filter f)
empty-sorted (Cross f) = cross-sorted f
empty-sorted k = refl
