-- What an operation gives is a cell, and 0 or 1 where it is a filter.
use Rattle.std.proofs.Common.{◌≡◌, ◌<◌, ℕ, ℤ, pos, Bool, true, false, ◌||◌, if◌then◌else◌, List, length, get_or, IsTrue, inl, inr, arith, refl}
use Rattle.std.specs.List.{All}
use Rattle.std.specs.Int.RustNames.{unsigned_abs, int_lt}
use Rattle.std.specs.Int.{int_min}
use Rattle.std.proofs.lemmas.List.Elements.{All-from_get_or}
use Rattle.pl_spec.specs.Rounding.{IsCell, MISSING, of_both, add, mul, div, neg, is_missing}
use Rattle.pl_spec.specs.Cells.{truth}
use Rattle.pl_pipeline.specs.Kind.{Kind, PointKind}
use Rattle.pl_pipeline.specs.Kind.Kind.{Point}
use Rattle.pl_pipeline.specs.Kind.PointKind.{Add, Sub, Mul, Div, Neg, Comparison, And, Or, Not, Abs, Clip, FillNa, IsNull, NotNull, IfElse, NumberIs, NumberIsNot, Log, Exp, Sqrt, Sign, Maximum, Minimum, Where}
use Rattle.pl_pipeline.specs.Pointwise.{pointwise}
use Rattle.pl_pipeline.specs.Value.{is_filter, is_point_filter}
use Rattle.pl_spec.proofs.Signed.{unsigned_abs-neg}
use Rattle.pl_pipeline.proofs.Cells.{chosen-has, to_cell-cell, quot-cell, sub-cell, of_both-cell}
use Rattle.pl_elementary.proofs.Cells.{log-cell, exp-cell, sqrt-cell, sign-cell, maximum-cell, minimum-cell}
use Rattle.pl_lanes.specs.Flags.{IsFlag}
use Rattle.pl_lanes.proofs.Cells.{is_within}
use Rattle.pl_pointwise.specs.Operands.{HasCells, IsOperation, AreCells, AreFlags, AreOperands, AreOperandsOf, operation}

add-cell : (x y : ℤ) → IsCell (add x y)
unfolding add
add-cell x y = of_both-cell x y _ (to_cell-cell _)

mul-cell : (x y : ℤ) → IsCell (mul x y)
unfolding mul
mul-cell x y = of_both-cell x y _ (to_cell-cell _)

div-cell : (x y : ℤ) → IsCell (div x y)
unfolding div
div-cell x y = of_both-cell x y _ (quot-cell _ _)

tested-size : (b : Bool) (x v : ℤ) → is_missing x ≡ b → unsigned_abs v ≡ unsigned_abs x → IsCell x → IsCell (if b then MISSING else v)
tested-size true x v e same h = inl refl
tested-size false x v e same h = inr (omega (arith, same, is_within x h e))

pub truth-flag : (b : Bool) → IsFlag (truth b)
truth-flag true = inr refl
truth-flag false = inl refl

flag-cell : (x : ℤ) → IsFlag x → IsCell x
flag-cell x (inl e) = inr (rw e (omega arith))
flag-cell x (inr e) = inr (rw e (omega arith))

-- the values of a filter are cells
pub flags-cells : (n : ℕ) (xs : List ℤ) → AreFlags n xs → AreCells n xs
flags-cells n xs h = record { cells = λ k d l. flag-cell (get_or xs k d) (h.flags k d l); many = h.many }

at : (xs : List ℤ) (n i : ℕ) → AreCells n xs → i < n → IsCell (get_or xs i (pos 0))
at xs n i h p = h.cells i (pos 0) (omega (arith, h.many))

-- of cells, an operation gives a cell
result-cell : (op : PointKind) (a b c : List ℤ) (n i : ℕ) → HasCells op → AreOperandsOf op a b c n → i < n
    → IsCell (pointwise op (get_or a i (pos 0)) (get_or b i (pos 0)) (get_or c i (pos 0)))
unfolding pointwise neg
result-cell Add a b c n i h o p = add-cell _ _
result-cell Sub a b c n i h o p = sub-cell _ _
result-cell Mul a b c n i h o p = mul-cell _ _
result-cell Div a b c n i h o p = div-cell _ _
result-cell Neg a b c n i h o p = tested-size _ _ _ refl (unsigned_abs-neg (get_or a i (pos 0))) (at a n i o.0 p)
result-cell Abs a b c n i h o p = tested-size _ _ _ refl refl (at a n i o.0 p)
result-cell (Clip low high) a b c n i h o p =
    let x = get_or a i (pos 0) in
    let lower = chosen-has IsCell (int_lt x high) x high (at a n i o.0 p) h.1 in
    chosen-has IsCell _ _ _ (inl refl) (chosen-has IsCell (int_lt (int_min high x) low) low _ h.0 lower)
result-cell FillNa a b c n i h o p = chosen-has IsCell _ _ _ (at b n i o.1 p) (at a n i o.0 p)
result-cell IfElse a b c n i h o p = chosen-has IsCell _ _ _ (at b n i o.1 p) (at c n i o.2 p)
result-cell Log a b c n i h o p = log-cell _
result-cell Exp a b c n i h o p = exp-cell _
result-cell Sqrt a b c n i h o p = sqrt-cell _ (at a n i o.0 p)
result-cell Sign a b c n i h o p = sign-cell _
result-cell Maximum a b c n i h o p = maximum-cell _ _ (at a n i o.0 p) (at b n i o.1 p)
result-cell Minimum a b c n i h o p = minimum-cell _ _ (at a n i o.0 p) (at b n i o.1 p)
result-cell Where a b c n i h o p = chosen-has IsCell _ _ _ (at a n i o.0 p) (inl refl)
result-cell op a b c n i h o p = flag-cell _ (truth-flag _)

-- a filter gives 0 or 1
result-flag : (op : PointKind) (x y z : ℤ) → IsTrue (is_point_filter op) → IsFlag (pointwise op x y z)
unfolding pointwise
result-flag (Comparison t) x y z h = truth-flag _
result-flag And x y z h = truth-flag _
result-flag Or x y z h = truth-flag _
result-flag Not x y z h = truth-flag _
result-flag IsNull x y z h = truth-flag _
result-flag NotNull x y z h = truth-flag _
result-flag (NumberIs n) x y z h = truth-flag _
result-flag (NumberIsNot n) x y z h = truth-flag _
result-flag op x y z h = absurd (cc h)

-- ---- what is written

pub written-cells : (k : Kind) (a b c out : List ℤ) (n : ℕ) → IsOperation k → AreOperands k a b c n → length out ≡ n
    → ((i : ℕ) → i < n → get_or out i (pos 0) ≡ operation k (get_or a i (pos 0)) (get_or b i (pos 0)) (get_or c i (pos 0)))
    → All IsCell out
written-cells (Point op) a b c out n h o e values = All-from_get_or IsCell out (pos 0) (λ i p.
    let lt : i < n = omega (arith, p, e) in
    rw (values i lt) (result-cell op a b c n i h o lt))
written-cells k a b c out n h o e values = absurd h

pub written-flags : (k : Kind) (a b c out : List ℤ) (n : ℕ) → IsOperation k → IsTrue (is_filter k) → length out ≡ n
    → ((i : ℕ) → i < n → get_or out i (pos 0) ≡ operation k (get_or a i (pos 0)) (get_or b i (pos 0)) (get_or c i (pos 0)))
    → All IsFlag out
written-flags (Point op) a b c out n h f e values = All-from_get_or IsFlag out (pos 0) (λ i p.
    let lt : i < n = omega (arith, p, e) in
    rw (values i lt) (result-flag op _ _ _ f))
written-flags k a b c out n h f e values = absurd h
