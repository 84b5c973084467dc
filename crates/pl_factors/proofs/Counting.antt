-- The sum of flags counts the true ones; all values are present where no fewer are present than there are.
use Rattle.std.proofs.Common.{◌≡◌, ◌≤◌, ℕ, suc, ℤ, pos, Bool, true, false, ◌&&◌, cond, nat_le, List, [], ◌∷◌, length, refl, arith, inl, inr}
use Rattle.std.specs.List.{All, count_by, list_all}
use Rattle.std.proofs.lemmas.Bool.Decides.{nat_tests}
use Rattle.std.proofs.lemmas.Int.{ints}
use Rattle.std.proofs.lemmas.List.Elements.{All-tail}
use Rattle.pl_spec.specs.Rounding.{is_present}
use Rattle.pl_spec.specs.Cells.{is_true, present_values, total, count}
use Rattle.pl_spec.proofs.Counts.{count-cons}
use Rattle.pl_lanes.specs.Flags.{IsFlag}
use Rattle.pl_lanes.proofs.Cells.{total-cons, few-present}

-- the sum of the values of a filter is the number of the true ones
pub flags-total : (xs : List ℤ) → All IsFlag xs → total (present_values xs) ≡ pos (count_by is_true xs)
flags-total [] h = refl
flags-total (x ∷ xs) h = first x (h 0 (pos 0) (omega arith)) (flags-total xs (All-tail IsFlag x xs h))
  where
    first : (y : ℤ) → IsFlag y → total (present_values xs) ≡ pos (count_by is_true xs)
        → total (present_values (y ∷ xs)) ≡ pos (count_by is_true (y ∷ xs))
    first y (inl e) rest = rw e (
        omega (arith, ints, total-cons (pos 0) (present_values xs), count-cons is_true (pos 0) xs, rest))
    first y (inr e) rest = rw e (
        omega (arith, ints, total-cons (pos 1) (present_values xs), count-cons is_true (pos 1) xs, rest))

-- all are present where the present ones are no fewer
pub all-present : (xs : List ℤ) → nat_le (length xs) (count xs) ≡ list_all is_present xs
all-present [] = refl
all-present (x ∷ xs) =
    first (is_present x) (list_all is_present xs) (present_values xs) (length xs) (few-present xs) (all-present xs)
  where
    first : (b s : Bool) (ys : List ℤ) (m : ℕ) → length ys ≤ m → nat_le m (length ys) ≡ s
        → nat_le (suc m) (length (cond b (x ∷ ys) ys)) ≡ (b && s)
    first true s ys m h e = grind (arith, nat_tests)
    first false s ys m h e = grind (arith, nat_tests)
