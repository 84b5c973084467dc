-- What is known of each kind of term: the table of the kinds.
use Rattle.std.specs.Prelude.{ℕ, Bool, true, false, if◌then◌else◌, List, [], ◌∷◌, ◌++◌, map, codes}
use Rattle.pl_spec.specs.declared.Column.{Column}
use Rattle.pl_spec.specs.declared.Compare.{Compare}
use Rattle.pl_spec.specs.declared.Compare.TheVariants.{Less, LessEqual, Greater, GreaterEqual, Equal, NotEqual}
use Rattle.pl_spec.specs.declared.Figure.{Figure}
use Rattle.pl_spec.specs.declared.Figure.TheVariants as figure
use Rattle.pl_pipeline.specs.declared.Summary.{Summary}
use Rattle.pl_pipeline.specs.declared.Summary.TheVariants as summary
use Rattle.pl_pipeline.specs.declared.WindowKind.{WindowKind}
use Rattle.pl_pipeline.specs.declared.WindowKind.TheVariants.{Latest}
use Rattle.pl_pipeline.specs.Kind as kind
use Rattle.pl_pipeline.specs.Kind.{Kind, PointKind, LabelKind, CrossKind}
use Rattle.pl_pipeline.specs.Value.{is_window_filter, is_point_filter, is_cross_filter, keeps_window, keeps_point}
use Rattle.pl_terms.specs.declared.kind.WindowForm.{WindowForm}
use Rattle.pl_terms.specs.declared.kind.WindowForm.TheVariants as form
use Rattle.pl_terms.specs.declared.row.Family.{Family}
use Rattle.pl_terms.specs.declared.row.Family.TheVariants as family
use Rattle.pl_terms.specs.declared.row.Sort.{Sort}
use Rattle.pl_terms.specs.declared.row.Sort.TheVariants.{Factors, Filters, Labels, Numbers}
use Rattle.pl_terms.specs.Windows.{row_of}

-- what stands as an input: one bar column, any of them, a bar column or a factor, any term, or a term of
-- these sorts
pub data Place : Type 0 where
  Own : Column → Place
  Bar Series AnyTerm Factor Filter FactorOrClassifier Classifier LabelClassifier NumberedClassifier : Place

-- A kind's name in the text of a plan, its family, the sort that it gives, the places of its inputs, whether it
-- may have a mask and a group, whether it may stand in a window by itself or where all that it is of may, and
-- whether it keeps the values of its own sessions.
pub record KindRow : Type 0 where
  pub name : List ℕ
  pub family : Family
  pub sort : Sort
  pub places : List Place
  pub has_mask : Bool
  pub has_group : Bool
  pub is_safe : Bool
  pub is_safe_over : Bool
  pub keeps_values : Bool

-- ---- operations on the values of one place

pub record PointEntry : Type 0 where
  pub name : List ℕ
  pub places : List Place

abbrev of_one : List ℕ → PointEntry
of_one n = record { name = n; places = Factor ∷ [] }

abbrev of_two : List ℕ → PointEntry
of_two n = record { name = n; places = Factor ∷ Factor ∷ [] }

abbrev over : List ℕ → List Place → PointEntry
over n ps = record { name = n; places = ps }

abbrev pub compare_name : Compare → List ℕ
compare_name Less = codes "Less"
compare_name LessEqual = codes "LessEqual"
compare_name Greater = codes "Greater"
compare_name GreaterEqual = codes "GreaterEqual"
compare_name Equal = codes "Equal"
compare_name NotEqual = codes "NotEqual"

abbrev pub point_entry : PointKind → PointEntry
point_entry kind.Add = of_two (codes "Add")
point_entry kind.Sub = of_two (codes "Sub")
point_entry kind.Mul = of_two (codes "Mul")
point_entry kind.Div = of_two (codes "Div")
point_entry kind.Neg = of_one (codes "Neg")
point_entry (kind.Comparison c) = of_two (compare_name c)
point_entry kind.And = over (codes "And") (Filter ∷ Filter ∷ [])
point_entry kind.Or = over (codes "Or") (Filter ∷ Filter ∷ [])
point_entry kind.Not = over (codes "Not") (Filter ∷ [])
point_entry kind.Abs = of_one (codes "Abs")
point_entry (kind.Clip low high) = of_one (codes "Clip")
point_entry kind.FillNa = of_two (codes "FillNa")
point_entry kind.IsNull = over (codes "IsNull") (FactorOrClassifier ∷ [])
point_entry kind.NotNull = over (codes "NotNull") (FactorOrClassifier ∷ [])
point_entry kind.IfElse = over (codes "IfElse") (Filter ∷ Factor ∷ Factor ∷ [])
point_entry (kind.NumberIs number) = over (codes "LabelIs") (NumberedClassifier ∷ [])
point_entry (kind.NumberIsNot number) = over (codes "LabelIsNot") (NumberedClassifier ∷ [])
point_entry kind.Log = of_one (codes "Log")
point_entry kind.Exp = of_one (codes "Exp")
point_entry kind.Sqrt = of_one (codes "Sqrt")
point_entry kind.Sign = of_one (codes "Sign")
point_entry kind.Maximum = of_two (codes "Maximum")
point_entry kind.Minimum = of_two (codes "Minimum")
point_entry kind.Where = over (codes "Where") (Factor ∷ Filter ∷ [])

abbrev pub point_places : PointKind → List Place
point_places k = (point_entry k).places

-- ---- tests of labels

abbrev pub label_name : LabelKind → List ℕ
label_name (kind.LabelIs text) = codes "LabelIs"
label_name (kind.LabelIsNot text) = codes "LabelIsNot"
label_name (kind.StartsWith text) = codes "StartsWith"
label_name (kind.EndsWith text) = codes "EndsWith"
label_name (kind.HasSubstring text) = codes "HasSubstring"
label_name (kind.ElementOf texts) = codes "ElementOf"

-- ---- cross-sections

pub record CrossEntry : Type 0 where
  pub name : List ℕ
  pub has_mask : Bool
  pub has_group : Bool
  pub is_safe : Bool
  pub is_safe_over : Bool

abbrev across : List ℕ → Bool → Bool → Bool → Bool → CrossEntry
across n m g s o = record { name = n; has_mask = m; has_group = g; is_safe = s; is_safe_over = o }

abbrev pub summary_name : Summary → List ℕ
summary_name summary.Mean = codes "Mean"
summary_name summary.StdDev = codes "StdDev"
summary_name summary.Sum = codes "Sum"
summary_name summary.Least = codes "Min"
summary_name summary.Greatest = codes "Max"
summary_name summary.Median = codes "Median"
summary_name (summary.Percentile percent) = codes "Percentile"
summary_name summary.NotNullCount = codes "NotNullCount"

abbrev pub is_count : Summary → Bool
is_count summary.NotNullCount = true
is_count s = false

-- mask, group, whether it may stand in a window by itself, and where all that it is of may
abbrev pub cross_entry : CrossKind → CrossEntry
cross_entry (kind.Rank method order) = across (codes "Rank") true true true false
cross_entry kind.Demean = across (codes "Demean") true true false true
cross_entry kind.ZScore = across (codes "ZScore") true true true false
cross_entry (kind.Quantiles bins) = across (codes "Quantiles") true false true false
cross_entry (kind.Top n) = across (codes "Top") true true true false
cross_entry (kind.Bottom n) = across (codes "Bottom") true true true false
cross_entry (kind.PercentileBetween low high) = across (codes "PercentileBetween") true false true false
cross_entry kind.PeerCount = across (codes "PeerCount") true false true false
cross_entry (kind.Winsorize low high) = across (codes "Winsorize") true true false true
cross_entry kind.Scale = across (codes "Scale") true true true false
cross_entry (kind.Summarize s) = across (summary_name s) false true (is_count s) true

abbrev pub cross_places : CrossKind → List Place
cross_places kind.PeerCount = Classifier ∷ []
cross_places k = Factor ∷ []

abbrev pub cross_sort : CrossKind → Sort
cross_sort (kind.Quantiles bins) = Numbers
cross_sort k = if is_cross_filter k then Filters else Factors

-- ---- formulas and filters over windows

-- the places of what a formula or a filter is given
abbrev pub given_places : WindowForm → List Place
given_places form.Bar = Bar ∷ []
given_places form.Series = Series ∷ []
given_places form.LongSeries = Series ∷ []
given_places form.Weighted = Series ∷ Series ∷ []
given_places form.Pairs = Series ∷ Series ∷ []
given_places form.Regression = Series ∷ Series ∷ []
given_places form.Filter = Filter ∷ []
given_places f = []

abbrev pub window_places : WindowKind → List Place
window_places k = map Own (row_of k).columns ++ given_places (row_of k).form

abbrev pub window_sort : WindowKind → Sort
window_sort k = if is_window_filter k then Filters else Factors

-- the latest bar has no mask
abbrev pub window_has_mask : WindowKind → Bool
window_has_mask Latest = false
window_has_mask k = true

-- ---- rows

-- a number beside bars, or its age
abbrev pub figure_name : Figure → List ℕ
figure_name figure.Value = codes "Number"
figure_name figure.Days = codes "Age"
figure_name figure.BusinessDays = codes "BusinessAge"

-- a term of no inputs may stand in a window
abbrev leaf_row : List ℕ → Family → Sort → KindRow
leaf_row n f s = record {
  name = n;
  family = f;
  sort = s;
  places = [];
  has_mask = false;
  has_group = false;
  is_safe = true;
  is_safe_over = false;
  keeps_values = true;
}

abbrev pub window_row : WindowKind → KindRow
window_row k = record {
  name = (row_of k).name;
  family = family.Window;
  sort = window_sort k;
  places = window_places k;
  has_mask = window_has_mask k;
  has_group = false;
  is_safe = (row_of k).is_safe;
  is_safe_over = false;
  keeps_values = keeps_window k;
}

abbrev pub point_sort : PointKind → Sort
point_sort k = if is_point_filter k then Filters else Factors

-- filters and signs may stand in a window, and all operations where what they are of may
abbrev pub point_row : PointKind → KindRow
point_row k = record {
  name = (point_entry k).name;
  family = family.Point;
  sort = point_sort k;
  places = point_places k;
  has_mask = false;
  has_group = false;
  is_safe = keeps_point k;
  is_safe_over = true;
  keeps_values = keeps_point k;
}

abbrev pub label_row : LabelKind → KindRow
label_row k = record {
  name = label_name k;
  family = family.LabelTest;
  sort = Filters;
  places = LabelClassifier ∷ [];
  has_mask = false;
  has_group = false;
  is_safe = true;
  is_safe_over = false;
  keeps_values = true;
}

abbrev pub cross_row : CrossKind → KindRow
cross_row k = record {
  name = (cross_entry k).name;
  family = family.Section;
  sort = cross_sort k;
  places = cross_places k;
  has_mask = (cross_entry k).has_mask;
  has_group = (cross_entry k).has_group;
  is_safe = (cross_entry k).is_safe;
  is_safe_over = (cross_entry k).is_safe_over;
  keeps_values = true;
}

-- Terms that may stand in a window by themselves are filters, classifiers, numbers, changes, ranks, shares, counts
-- and signs. A downsampled term has the sort of its input, and no kind of its own here.
abbrev pub kind_row : Kind → KindRow
kind_row (kind.Constant cell) = leaf_row (codes "Const") (family.Constant cell) Factors
kind_row (kind.Label name) = leaf_row (codes "Label") (family.Label name) Labels
kind_row (kind.Number f name) = leaf_row (figure_name f) (family.Number f name) Factors
kind_row (kind.StaticSids sids) = leaf_row (codes "StaticSids") family.Sids Filters
kind_row (kind.Window k) = window_row k
kind_row (kind.Point k) = point_row k
kind_row (kind.LabelTest k) = label_row k
kind_row (kind.Cross k) = cross_row k
kind_row (kind.Downsample f) = record {
  name = codes "Downsample";
  family = family.Downsample f;
  sort = Factors;
  places = AnyTerm ∷ [];
  has_mask = false;
  has_group = false;
  is_safe = false;
  is_safe_over = true;
  keeps_values = true;
}
