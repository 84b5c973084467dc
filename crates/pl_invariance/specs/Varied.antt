-- Values that are not all equal.
use Rattle.std.specs.Prelude.{◌≡◌, ◌≢◌, ℤ, pos, List, Contains}
use Rattle.pl_spec.specs.Cells.{present_values}
use Rattle.pl_spec.specs.Rounding.{MILLION}
use Rattle.pl_pipeline.specs.declared.WindowKind.TheVariants.{Correlation, RegressionSlope}
use Rattle.pl_pipeline.specs.Formula.{formula}

-- Where two of the present values differ, the correlation of the values with themselves is 1, and so is the
-- slope.
abbrev pub VariedValuesExplainThemselves : Type 0
VariedValuesExplainThemselves = (xs zs : List ℤ) (x y : ℤ)
    → Contains (present_values xs) x → Contains (present_values xs) y → x ≢ y
    → (formula Correlation xs xs zs ≡ pos MILLION) × (formula RegressionSlope xs xs zs ≡ pos MILLION)
