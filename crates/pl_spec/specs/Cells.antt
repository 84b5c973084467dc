-- What is asked of cells, and of lists of them.
use Rattle.std.specs.Prelude.{ℕ, Bool, if◌then◌else◌, ℤ, pos, ◌+ℤ◌, List, length, filter, fold, unwrap_or, ◌&&◌, not}
use Rattle.std.specs.List.{reduce}
use Rattle.std.specs.Int.{int_max, int_min}
use Rattle.std.specs.Ordering.{int_eq}
use Rattle.pl_spec.specs.Rounding.{MISSING, is_present}
use Rattle.std.specs.Int.RustNames.{int_lt, int_le}
use Rattle.pl_spec.specs.declared.Compare.{Compare}
use Rattle.pl_spec.specs.declared.Compare.TheVariants.{Less, LessEqual, Greater, GreaterEqual, Equal, NotEqual}

-- true is 1 and false is 0
abbrev pub truth : Bool → ℤ
truth b = if b then pos 1 else pos 0

abbrev pub is_true : ℤ → Bool
is_true x = int_eq x (pos 1)

abbrev pub present_values : List ℤ → List ℤ
present_values xs = filter is_present xs

abbrev pub total : List ℤ → ℤ
total xs = fold (λ s x. s +ℤ x) (pos 0) xs

-- the number of the values that are present
abbrev pub count : List ℤ → ℕ
count xs = length (present_values xs)

abbrev pub greatest : List ℤ → ℤ
greatest xs = unwrap_or (reduce int_max (present_values xs)) MISSING

abbrev pub least : List ℤ → ℤ
least xs = unwrap_or (reduce int_min (present_values xs)) MISSING

abbrev pub compares : Compare → ℤ → ℤ → Bool
compares Less x y = int_lt x y
compares LessEqual x y = int_le x y
compares Greater x y = int_lt y x
compares GreaterEqual x y = int_le y x
compares Equal x y = int_eq x y
compares NotEqual x y = not (int_eq x y)

-- a comparison is false where a side is missing
abbrev pub comparison : Compare → ℤ → ℤ → ℤ
comparison c x y = truth (is_present x && is_present y && compares c x y)
