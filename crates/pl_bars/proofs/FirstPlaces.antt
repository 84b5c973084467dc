-- The first place of a day is the one that has it.
use Rattle.std.proofs.Common.{◌≡◌, ℕ, ◌<◌, false, ℤ, ◌<ℤ◌, pos, List, length, Some, slice_get, arith, AllPairs}
use Rattle.std.specs.List.{position}
use Rattle.std.specs.Ordering.{int_eq}
use Rattle.std.proofs.lemmas.Int.{ints}
use Rattle.std.proofs.lemmas.Option.{get_or_from_slice_get}
use Rattle.pl_spec.proofs.Places.{is_at}
use Rattle.pl_spec.proofs.Signed.{eq-int_eq}

other_day : (a b day : ℤ) → a <ℤ b → b ≡ day → int_eq a day ≡ false
other_day a b day h e = grind (arith, ints)

pub day_first : (days : List ℤ) (day : ℤ) (i : ℕ) → AllPairs (λ a b. a <ℤ b) days → i < length days → slice_get days i ≡ Some day
    → position (λ d. int_eq d day) days ≡ Some i
day_first days day i up h at =
    let e = get_or_from_slice_get days i day (pos 0) at in
    is_at (λ d. int_eq d day) days i (pos 0) h (eq-int_eq _ _ e) (λ k l. other_day _ _ day (up k i (pos 0) l h) e)
