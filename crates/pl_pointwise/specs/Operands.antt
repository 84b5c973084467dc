-- Which kinds are operations on the values of one place, what each asks of its operands, and what it gives.
use Rattle.std.specs.Prelude.{◌≡◌, ℕ, ℤ, List, length, slice_get, Option, Some, None, ⊤, Bool, true, false}
use Rattle.std.specs.List.{All}
use Rattle.pl_spec.specs.Rounding.{IsCell, MISSING}
use Rattle.pl_pipeline.specs.Kind.{Kind, PointKind}
use Rattle.pl_pipeline.specs.Kind.Kind.{Point}
use Rattle.pl_pipeline.specs.Kind.PointKind.{Add, Sub, Mul, Div, Comparison, Clip, FillNa, Log, Exp, Sqrt, Sign, Maximum, Minimum}
use Rattle.pl_pipeline.specs.Pointwise.{pointwise}
use Rattle.pl_terms.specs.declared.kind.LabelValue.{LabelValue}
use Rattle.pl_terms.specs.declared.kind.LabelValue.TheVariants.{Number, Text}
use Rattle.pl_terms.specs.Sorts.{Place, Filter, point_places}
use Rattle.pl_lanes.specs.Flags.{IsFlag}

-- the bounds of a clip are cells
abbrev pub HasCells : PointKind → Type 0
HasCells (Clip low high) = IsCell low × IsCell high
HasCells op = ⊤

-- an operation, with its parameters in their range
abbrev pub IsOperation : Kind → Type 0
IsOperation (Point op) = HasCells op
IsOperation k = ⊥

-- the operation of a kind on the values of a place; MISSING for a kind that is none
abbrev pub operation : Kind → ℤ → ℤ → ℤ → ℤ
operation (Point op) x y z = pointwise op x y z
operation k x y z = MISSING

-- the values of a factor or a classifier at n places
pub record AreCells (n : ℕ) (xs : List ℤ) : Type 0 where
  pub cells : All IsCell xs
  pub many : length xs ≡ n

-- the values of a filter at n places
pub record AreFlags (n : ℕ) (xs : List ℤ) : Type 0 where
  pub flags : All IsFlag xs
  pub many : length xs ≡ n

-- the values at a place of an operation: a filter's where it takes one, else a factor's or a classifier's
abbrev pub ArePlaced : Option Place → ℕ → List ℤ → Type 0
ArePlaced None n xs = ⊤
ArePlaced (Some Filter) n xs = AreFlags n xs
ArePlaced (Some q) n xs = AreCells n xs

-- the operands that an operation uses, in order
abbrev pub AreOperandsOf : PointKind → List ℤ → List ℤ → List ℤ → ℕ → Type 0
AreOperandsOf op a b c n =
    ArePlaced (slice_get (point_places op) 0) n a
    × ArePlaced (slice_get (point_places op) 1) n b
    × ArePlaced (slice_get (point_places op) 2) n c

abbrev pub AreOperands : Kind → List ℤ → List ℤ → List ℤ → ℕ → Type 0
AreOperands (Point op) a b c n = AreOperandsOf op a b c n
AreOperands k a b c n = ⊤

-- it is a number that a classifier is compared with
abbrev pub HasNumber : LabelValue → Type 0
HasNumber (Number n) = ⊤
HasNumber (Text t) = ⊥

abbrev pub is_comparison : Kind → Bool
is_comparison (Point (Comparison t)) = true
is_comparison k = false

-- it is a factor of two factors
abbrev pub is_pair : Kind → Bool
is_pair (Point Add) = true
is_pair (Point Sub) = true
is_pair (Point Mul) = true
is_pair (Point Div) = true
is_pair (Point FillNa) = true
is_pair (Point Maximum) = true
is_pair (Point Minimum) = true
is_pair k = false

-- it is a logarithm, an exponential, a root or a sign
abbrev pub is_curve : Kind → Bool
is_curve (Point Log) = true
is_curve (Point Exp) = true
is_curve (Point Sqrt) = true
is_curve (Point Sign) = true
is_curve k = false
