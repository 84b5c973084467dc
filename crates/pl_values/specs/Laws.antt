-- What the cells of a numbered term are over the cells of the terms that it mentions, family by family, in
-- any checked pipeline.
use Rattle.std.specs.Prelude.{◌≡◌, ℕ, ◌+◌, ◌<◌, ◌≤◌, false, ℤ, pos, List, length, Option, Some, slice_get, get_or}
use Rattle.pl_spec.specs.Rounding.{IsCell}
use Rattle.pl_spec.specs.World.{World, label_at, known_number}
use Rattle.pl_pipeline.specs.Kind as spec
use Rattle.pl_pipeline.specs.Kind.{PointKind, LabelKind, CrossKind}
use Rattle.pl_pipeline.specs.declared.WindowKind.{WindowKind}
use Rattle.pl_spec.specs.Periods.{period_start}
use Rattle.pl_spec.specs.declared.Frequency.{Frequency}
use Rattle.pl_spec.specs.Parts.{ColumnAdjustment, ColumnNumber, world_of}
use Rattle.pl_pipeline.specs.Term.{Node}
use Rattle.pl_pipeline.specs.Term.Input.{TermInput}
use Rattle.pl_pipeline.specs.Table.{Pipeline}
use Rattle.pl_pipeline.specs.Value.{name_at}
use Rattle.pl_spec.specs.declared.AssetRow.{AssetRow}
use Rattle.pl_spec.specs.declared.BarRow.{BarRow}
use Rattle.pl_spec.specs.declared.Figure.{Figure}
use Rattle.pl_terms.specs.Checked.{IsChecked}
use Rattle.pl_terms.specs.declared.row.Sort.TheVariants.{Filters}
use Rattle.pl_terms.specs.Sorts.{sort_at}
use Rattle.pl_lanes.specs.Flags.{IsFlag}
use Rattle.pl_pointwise.specs.Operands.{IsOperation, AreOperands, operation}
use Rattle.pl_assets.specs.Labels.{LabelTable, AreLabels}
use Rattle.pl_cross.specs.Section.{IsRight}
use Rattle.pl_cross.specs.Arrays.{sid_in, section_at, HasTexts}
use Rattle.pl_values.specs.Arrays.{cell_of, empty_cell, is_kept, chosen}
use Rattle.pl_values.specs.Inputs.{AreWindows, AreRows, AreSectionRows}
use Rattle.pl_values.specs.Families.{windowed, TakesWindows, sid_flag, label_code, IsCode, code_flag}

-- node n is that of number k in a checked pipeline
pub record IsNode (p : Pipeline) (k : ℕ) (n : Node) : Type 0 where
  pub checked : IsChecked p
  pub node : slice_get p.graph k ≡ Some n

-- a term's cell on session s for place i is x where the asset is kept
abbrev pub IsGiven : World → Pipeline → List ℕ → ℕ → Node → ℕ → ℕ → ℤ → Type 0
IsGiven w p sids k n i s x = cell_of w p sids k i s ≡ chosen (is_kept w p sids n.mask i s) x (empty_cell p k)

-- and x is a cell
pub record IsGivenCell (w : World) (p : Pipeline) (sids : List ℕ) (k : ℕ) (n : Node) (i s : ℕ) (x : ℤ) : Type 0 where
  pub given : IsGiven w p sids k n i s x
  pub cell : IsCell x

-- a law of the cells of each node for any places, on any session
abbrev pub OfNodes : (World → Pipeline → List ℕ → ℕ → Node → ℕ → ℕ → Type 0) → Type 0
OfNodes law = (w : World) (p : Pipeline) (sids : List ℕ) (k : ℕ) (n : Node) (i s : ℕ) → IsNode p k n → law w p sids k n i s

-- the asset does not exist, or the mask is false
abbrev pub UnkeptCells : Type 0
UnkeptCells = OfNodes (λ w p sids k n i s. is_kept w p sids n.mask i s ≡ false → cell_of w p sids k i s ≡ empty_cell p k)

-- a constant is a cell
abbrev pub ConstantCells : Type 0
ConstantCells = OfNodes (λ w p sids k n i s. (value : ℤ) → n.kind ≡ spec.Constant value
    → IsCell value × IsGiven w p sids k n i s value)

-- a formula or a filter over windows
abbrev pub WindowCells : Type 0
WindowCells = OfNodes (λ w p sids k n i s. (f : WindowKind) (a b c : List ℤ) → n.kind ≡ spec.Window f
    → n.window ≤ s + 1 → AreWindows w p sids n i s a b c
    → TakesWindows n.kind a b c × IsGiven w p sids k n i s (windowed n.kind a b c))

-- an operation on the values of one place
abbrev pub PointCells : Type 0
PointCells = OfNodes (λ w p sids k n i s. (f : PointKind) (size : ℕ) (a b c : List ℤ) → n.kind ≡ spec.Point f
    → AreRows w p sids n s size a b c → i < size
    → IsGiven w p sids k n i s (operation n.kind (get_or a i (pos 0)) (get_or b i (pos 0)) (get_or c i (pos 0))))

-- its operands are such as it asks for
abbrev pub PointOperands : Type 0
PointOperands = OfNodes (λ w p sids k n i s. (f : PointKind) (size : ℕ) (a b c : List ℤ) → n.kind ≡ spec.Point f
    → AreRows w p sids n s size a b c → IsOperation n.kind × AreOperands n.kind a b c size)

abbrev pub SidCells : Type 0
SidCells = OfNodes (λ w p sids k n i s. (own : List ℕ) → n.kind ≡ spec.StaticSids own
    → IsGiven w p sids k n i s (sid_flag n.kind (sid_in sids i)))

-- the name of a label is one of the pipeline's
abbrev pub LabelCells : Type 0
LabelCells = OfNodes (λ w p sids k n i s. (name : ℕ) → n.kind ≡ spec.Label name
    → (name < length p.names) × IsGiven w p sids k n i s (label_code w.texts (label_at w (name_at p.names name) (sid_in sids i) (pos s))))

-- so is the name of a number, which is as given, and so is its age
abbrev pub NumberCells : Type 0
NumberCells = OfNodes (λ w p sids k n i s. (f : Figure) (name : ℕ) → n.kind ≡ spec.Number f name
    → (name < length p.names)
    × IsGiven w p sids k n i s (known_number w f (name_at p.names name) (sid_in sids i) (pos s)))

-- a test of the label that a code stands for
abbrev pub LabelTestCells : Type 0
LabelTestCells = OfNodes (λ w p sids k n i s. (f : LabelKind) (t : ℕ) → HasTexts w → n.kind ≡ spec.LabelTest f
    → slice_get n.inputs 0 ≡ Some (TermInput t)
    → IsCode w.texts (cell_of w p sids t i s) × IsGiven w p sids k n i s (code_flag w.texts n.kind (cell_of w p sids t i s)))

-- the input's cell of the first session of the period
abbrev pub DownsampledCells : Type 0
DownsampledCells = OfNodes (λ w p sids k n i s. (f : Frequency) (t start : ℕ) → n.kind ≡ spec.Downsample f
    → slice_get n.inputs 0 ≡ Some (TermInput t) → pos start ≡ period_start f w.days (pos s) → IsGiven w p sids k n i s (cell_of w p sids t i start))

-- a cross-section over the rows of a session; no place is left to be masked
abbrev pub SectionCells : Type 0
SectionCells = OfNodes (λ w p sids k n i s. (f : CrossKind) (values keep : List ℤ) (labels : Option (List ℤ)) → HasTexts w
    → n.kind ≡ spec.Cross f → AreSectionRows w p sids n s values keep labels
    → IsRight f × (i < length sids → cell_of w p sids k i s ≡ section_at f values keep labels i))

-- a filter's cells are flags
abbrev pub FilterCells : Type 0
FilterCells = (w : World) (p : Pipeline) (sids : List ℕ) (t i s : ℕ) → IsChecked p → sort_at p.graph t ≡ Some Filters
    → IsFlag (cell_of w p sids t i s)

-- in the world of a table of labels each text has a code
abbrev pub TextsHaveCodes : Type 0
TextsHaveCodes = (days : List ℤ) (assets : List AssetRow) (t : LabelTable) (bars : List BarRow)
    (adjustments : List ColumnAdjustment) (numbers : List ColumnNumber)
    → AreLabels t → HasTexts (world_of days assets t.rows t.texts bars adjustments numbers)
