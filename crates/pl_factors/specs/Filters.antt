-- What the filters ask of their kinds and values, and what they are by the definitions.
use Rattle.std.specs.Prelude.{ℕ, ℤ, Bool, false, List, [], ⊤}
use Rattle.std.specs.List.{All}
use Rattle.pl_spec.specs.Rounding.{IsCell, MISSING}
use Rattle.pl_pipeline.specs.Formula.{formula}
use Rattle.pl_pipeline.specs.Kind.{Kind}
use Rattle.pl_pipeline.specs.Kind.Kind.{Window, LabelTest}
use Rattle.pl_pipeline.specs.declared.WindowKind.TheVariants as window
use Rattle.pl_pipeline.specs.Pointwise.{label_test}
use Rattle.pl_terms.specs.declared.kind.LabelValue.{LabelValue}
use Rattle.pl_terms.specs.declared.kind.LabelValue.TheVariants.{Number, Text}
use Rattle.pl_lanes.specs.Flags.{IsFlag}

abbrev pub IsWindowFilter : Kind → Type 0
IsWindowFilter (Window window.All) = ⊤
IsWindowFilter (Window window.Any) = ⊤
IsWindowFilter (Window (window.AtLeastN n)) = ⊤
IsWindowFilter (Window window.AllPresent) = ⊤
IsWindowFilter k = ⊥

-- the values in a window: cells where they are counted as present, else those of a filter
abbrev pub AreValues : Kind → List ℤ → Type 0
AreValues (Window window.AllPresent) xs = All IsCell xs
AreValues k xs = All IsFlag xs

-- a filter over a window; MISSING for a kind that is none
abbrev pub filtered : Kind → List ℤ → ℤ
filtered (Window k) xs = formula k xs [] []
filtered k xs = MISSING

abbrev pub IsLabelTest : Kind → Type 0
IsLabelTest (LabelTest k) = ⊤
IsLabelTest k = ⊥

-- the text passes the test; no other kind is passed
abbrev pub passes : Kind → List ℕ → Bool
passes (LabelTest k) text = label_test k text
passes k text = false

-- it is a text that a label is compared with
abbrev pub HasText : LabelValue → Type 0
HasText (Text t) = ⊤
HasText (Number n) = ⊥
