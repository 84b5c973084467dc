-- The families of kinds, what each asks of its parameters and cells, and what it gives over cells.
use Rattle.std.specs.Prelude.{◌≡◌, ℕ, ◌≤◌, ◌<◌, ◌==◌, Bool, true, false, ℤ, pos, List, [], length, get_or, All, Option, Some, None, if◌then◌else◌, IsTrue, ◌⊎◌, unsigned_abs}
use Rattle.std.specs.List.{list_any}
use Rattle.pl_spec.specs.Limits.{most_window}
use Rattle.pl_spec.specs.Rounding.{MISSING, IsCell, is_missing}
use Rattle.pl_pipeline.specs.Kind as spec
use Rattle.pl_pipeline.specs.Kind.{Kind}
use Rattle.pl_spec.specs.Cells.{truth}
use Rattle.pl_pipeline.specs.Formula.{formula}
use Rattle.pl_pipeline.specs.Pointwise.{label_test}
use Rattle.pl_pipeline.specs.Value.{label_value}
use Rattle.pl_pipeline.specs.Table.{in_array}
use Rattle.pl_factors.specs.Kinds.{IsWindowFactor, takes_pairs}
use Rattle.pl_factors.specs.Filters.{IsWindowFilter, AreValues}
use Rattle.pl_terms.specs.declared.row.Sort.{Sort}
use Rattle.pl_terms.specs.declared.row.Sort.TheVariants.{Filters}
use Rattle.pl_terms.specs.Sorts.{is_windowed}
use Rattle.pl_cross.specs.Section.{is_section}
use Rattle.pl_terms.specs.declared.row.Family.{Family}
use Rattle.pl_terms.specs.declared.row.Family.TheVariants as family

abbrev pub is_sids : Kind → Bool
is_sids (spec.StaticSids sids) = true
is_sids k = false

abbrev pub is_point : Kind → Bool
is_point (spec.Point f) = true
is_point k = false

abbrev pub is_label_test : Kind → Bool
is_label_test (spec.LabelTest f) = true
is_label_test k = false

-- the kind is of the family
abbrev pub IsOf : Kind → Family → Type 0
IsOf k (family.Constant value) = k ≡ spec.Constant value
IsOf k (family.Label name) = k ≡ spec.Label name
IsOf k (family.Number figure name) = k ≡ spec.Number figure name
IsOf k family.Sids = is_sids k ≡ true
IsOf k family.Window = is_windowed k ≡ true
IsOf k family.Point = is_point k ≡ true
IsOf k family.LabelTest = is_label_test k ≡ true
IsOf k family.Section = is_section k ≡ true
IsOf k (family.Downsample frequency) = k ≡ spec.Downsample frequency

-- what stands in the place of a value of a sort
abbrev pub empty_number : Sort → ℤ
empty_number Filters = pos 0
empty_number s = MISSING

-- ---- windows

-- what a formula or a filter gives over the windows of its inputs
abbrev pub windowed : Kind → List ℤ → List ℤ → List ℤ → ℤ
windowed (spec.Window k) a b c = formula k a b c
windowed k a b c = MISSING

-- a factor or a filter over a window, with its parameter in its range
abbrev pub IsWindowed : Kind → List ℤ → Type 0
IsWindowed k a = IsWindowFactor k ⊎ (IsWindowFilter k × AreValues k a)

-- The kind is over a window, with its parameter in its range. The windows are at most 1,260 cells long, those
-- of a filter are flags, and they are of one length where their cells are taken in pairs.
pub record TakesWindows (k : Kind) (a b c : List ℤ) : Type 0 where
  pub kind : IsWindowed k a
  pub first : All IsCell a
  pub second : All IsCell b
  pub third : All IsCell c
  pub few : length a ≤ most_window
  pub paired : IsTrue (takes_pairs k) → length b ≡ length a

-- ---- sids and labels

-- 1 for a sid of the list, and 0 for another
abbrev pub sid_flag : Kind → ℕ → ℤ
sid_flag (spec.StaticSids sids) a = truth (list_any (λ b. b == a) sids)
sid_flag k a = pos 0

-- a label as arrays hold it: its code among the texts, MISSING for none
abbrev pub label_code : List (List ℕ) → Option (List ℕ) → ℤ
label_code texts label = in_array texts (label_value label)

-- no label, or the code of a text
abbrev pub IsCode : List (List ℕ) → ℤ → Type 0
IsCode texts x = (x ≡ MISSING) ⊎ ((n : ℕ) × (x ≡ pos n) × (n < length texts))

-- what is asked of the text after a code; no label passes
abbrev pub code_flag : List (List ℕ) → Kind → ℤ → ℤ
code_flag texts (spec.LabelTest k) x = if is_missing x then pos 0 else truth (label_test k (get_or texts (unsigned_abs x) []))
code_flag texts k x = pos 0

-- a code as a cell
abbrev pub code_cell : Option ℕ → ℤ
code_cell None = MISSING
code_cell (Some n) = pos n
