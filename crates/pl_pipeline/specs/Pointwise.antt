-- The operations on the values of one asset and session.
use Rattle.std.specs.Prelude.{ℕ, ◌+◌, Bool, ◌&&◌, ◌||◌, not, if◌then◌else◌, ℤ, pos, ◌*ℤ◌, List, length, drop, bytes_eq, nat_eq}
use Rattle.std.specs.List.{list_any, starts_with, ends_with, range_with_len}
use Rattle.std.specs.Int.RustNames.{unsigned_abs}
use Rattle.std.specs.Int.{int_max, int_min}
use Rattle.std.specs.Ordering.{int_eq}
use Rattle.pl_spec.specs.Rounding.{MISSING, MILLION, is_missing, is_present, add, sub, mul, div, neg}
use Rattle.pl_spec.specs.Cells.{truth, is_true, comparison}
use Rattle.pl_pipeline.specs.Elementary.{log, exp, sqrt, sign, maximum, minimum}
use Rattle.pl_pipeline.specs.Kind.{PointKind, LabelKind}
use Rattle.pl_pipeline.specs.Kind.PointKind.{Add, Sub, Mul, Div, Neg, Comparison, And, Or, Not, Abs, Clip, FillNa, IsNull, NotNull, IfElse, NumberIs, NumberIsNot, Log, Exp, Sqrt, Sign, Maximum, Minimum, Where}
use Rattle.pl_pipeline.specs.Kind.LabelKind.{LabelIs, LabelIsNot, StartsWith, EndsWith, HasSubstring, ElementOf}

-- the number of a numbered classifier is a whole number, and compared with one in millionths
abbrev pub is_number : ℤ → ℤ → Bool
is_number number x = int_eq (x *ℤ pos MILLION) number

unfoldable pub pointwise : PointKind → ℤ → ℤ → ℤ → ℤ
pointwise Add x y z = add x y
pointwise Sub x y z = sub x y
pointwise Mul x y z = mul x y
pointwise Div x y z = div x y
pointwise Neg x y z = neg x
pointwise (Comparison c) x y z = comparison c x y
pointwise And x y z = truth (is_true x && is_true y)
pointwise Or x y z = truth (is_true x || is_true y)
pointwise Not x y z = truth (not (is_true x))
pointwise Abs x y z = if is_missing x then MISSING else pos (unsigned_abs x)
pointwise (Clip low high) x y z = if is_missing x then MISSING else int_max low (int_min high x)
pointwise FillNa x y z = if is_missing x then y else x
pointwise IsNull x y z = truth (is_missing x)
pointwise NotNull x y z = truth (is_present x)
pointwise IfElse x y z = if is_true x then y else z
pointwise (NumberIs number) x y z = truth (is_present x && is_number number x)
pointwise (NumberIsNot number) x y z = truth (is_present x && not (is_number number x))
pointwise Log x y z = log x
pointwise Exp x y z = exp x
pointwise Sqrt x y z = sqrt x
pointwise Sign x y z = sign x
pointwise Maximum x y z = maximum x y
pointwise Minimum x y z = minimum x y
pointwise Where x y z = if is_true y then x else MISSING

-- the text stands somewhere in the label
unfoldable pub has_substring : List ℕ → List ℕ → Bool
has_substring text t = list_any (λ n. starts_with nat_eq (drop n t) text) (range_with_len 0 (length t + 1))

-- what is asked of a label's text
unfoldable pub label_test : LabelKind → List ℕ → Bool
label_test (LabelIs text) t = bytes_eq t text
label_test (LabelIsNot text) t = not (bytes_eq t text)
label_test (StartsWith text) t = starts_with nat_eq t text
label_test (EndsWith text) t = ends_with nat_eq t text
label_test (HasSubstring text) t = has_substring text t
label_test (ElementOf texts) t = list_any (bytes_eq t) texts
