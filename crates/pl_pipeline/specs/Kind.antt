-- The kinds of terms, by families, each with its parameters. Numbers in ℤ are millionths.
use Rattle.std.specs.Prelude.{ℕ, ℤ, List}
use Rattle.pl_spec.specs.declared.Compare.{Compare}
use Rattle.pl_pipeline.specs.declared.WindowKind.{WindowKind}
use Rattle.pl_pipeline.specs.declared.RankMethod.{RankMethod}
use Rattle.pl_pipeline.specs.declared.Summary.{Summary}
use Rattle.pl_pipeline.specs.declared.RankOrder.{RankOrder}
use Rattle.pl_spec.specs.declared.Frequency.{Frequency}
use Rattle.pl_spec.specs.declared.Figure.{Figure}

pub data PointKind : Type 0 where
  Add Sub Mul Div Neg : PointKind
  Comparison : Compare → PointKind
  And Or Not Abs : PointKind
  Clip : (low high : ℤ) → PointKind
  FillNa IsNull NotNull IfElse : PointKind
  NumberIs NumberIsNot : (number : ℤ) → PointKind
  Log Exp Sqrt Sign Maximum Minimum Where : PointKind

pub data LabelKind : Type 0 where
  LabelIs LabelIsNot StartsWith EndsWith HasSubstring : (text : List ℕ) → LabelKind
  ElementOf : (texts : List (List ℕ)) → LabelKind

-- the bounds of PercentileBetween are hundredths of a percent, those of Winsorize millionths
pub data CrossKind : Type 0 where
  Rank : RankMethod → RankOrder → CrossKind
  Demean ZScore : CrossKind
  Quantiles : (bins : ℕ) → CrossKind
  Top Bottom : (n : ℕ) → CrossKind
  PercentileBetween : (low high : ℕ) → CrossKind
  PeerCount : CrossKind
  Winsorize : (low high : ℕ) → CrossKind
  Scale : CrossKind
  Summarize : Summary → CrossKind

-- the name of a Label or of a Number is its number among the pipeline's names; of a Number a figure is read
pub data Kind : Type 0 where
  Constant : (cell : ℤ) → Kind
  Label : (name : ℕ) → Kind
  Number : (figure : Figure) (name : ℕ) → Kind
  StaticSids : (sids : List ℕ) → Kind
  Window : WindowKind → Kind
  Point : PointKind → Kind
  LabelTest : LabelKind → Kind
  Cross : CrossKind → Kind
  Downsample : Frequency → Kind
