-- How the sums of a window move when it loses its first cell and gains a last one.
use Rattle.std.specs.Prelude.{◌≡◌, Bool, ℕ, suc, ◌<◌, map, ◌+◌, ◌-◌, ◌≤◌, ℤ, pos, ◌+ℤ◌, ◌-ℤ◌, List, length, get_or, ◌≢◌, ◌⊎◌, if◌then◌else◌}
use Rattle.pl_spec.specs.Cells.{present_values, total, count, greatest, least}
use Rattle.pl_pipeline.specs.Formula.{products, places, differences, gains, losses}
use Rattle.std.specs.List.{All}
use Rattle.std.specs.Int.{int_max, int_min}
use Rattle.pl_spec.specs.Rounding.{IsCell, MISSING, is_missing, add, sub}
use Rattle.pl_spec.specs.Window.{downward}
use Rattle.pl_factors.specs.Terms.{product, gain, loss}
use Rattle.pl_factors.specs.Spans.{before, after, first, last, part, presence}

-- the number, less what leaves, and with what enters
abbrev pub moved : ℤ → ℤ → ℤ → ℤ
moved sum leaves enters = sum -ℤ leaves +ℤ enters

-- the one less the other, or both
abbrev pub shifted : Bool → ℤ → ℤ → ℤ
shifted less x y = if less then sub x y else add x y

abbrev pub SumSlides : Type 0
SumSlides = (xs : List ℤ) → 1 ≤ length xs
    → total (present_values (after xs)) ≡ moved (total (present_values (before xs))) (part (first xs)) (part (last xs))

abbrev pub CountSlides : Type 0
CountSlides = (xs : List ℤ) → 1 ≤ length xs → count (after xs) + presence (first xs) ≡ count (before xs) + presence (last xs)

abbrev pub ProductsSlide : Type 0
ProductsSlide = (xs ys : List ℤ) → 1 ≤ length xs → length ys ≡ length xs
    → total (products (after xs) (after ys))
    ≡ moved (total (products (before xs) (before ys))) (product (first xs) (first ys)) (product (last xs) (last ys))

-- each cell comes one place nearer to the oldest, and the new one has the last place
abbrev pub PlacedSlides : Type 0
PlacedSlides = (xs : List ℤ) → 1 ≤ length xs
    → total (products (places (after xs)) (after xs))
    ≡ moved (total (products (places (before xs)) (before xs))) (total (present_values (before xs)))
    (product (pos (length xs - 1)) (last xs))

abbrev pub GainsSlide : Type 0
GainsSlide = (xs : List ℤ) → 2 ≤ length xs
    → gains (differences (after xs))
    ≡ moved (gains (differences (before xs))) (gain (first xs) (get_or xs 1 (pos 0))) (gain (get_or xs (length xs - 2) (pos 0)) (last xs))

abbrev pub LossesSlide : Type 0
LossesSlide = (xs : List ℤ) → 2 ≤ length xs
    → losses (differences (after xs))
    ≡ moved (losses (differences (before xs))) (loss (first xs) (get_or xs 1 (pos 0))) (loss (get_or xs (length xs - 2) (pos 0)) (last xs))

-- the lesser of two cells, where MISSING stands for none
abbrev pub least_of : ℤ → ℤ → ℤ
least_of x y = if is_missing x then y else if is_missing y then x else int_min x y

-- the better of two cells where the least one is the best, and where the greatest one is
abbrev pub better : Bool → ℤ → ℤ → ℤ
better low x y = if low then least_of x y else int_max x y

-- the greatest cell, unless it leaves; where it is MISSING, none is present
abbrev pub GreatestSlides : Type 0
GreatestSlides = (xs : List ℤ) → All IsCell xs → 2 ≤ length xs
    → (first xs ≢ greatest (before xs)) ⊎ (greatest (before xs) ≡ MISSING)
    → greatest (after xs) ≡ int_max (greatest (before xs)) (last xs)

-- the least cell, unless it leaves; MISSING is no least cell
abbrev pub LeastSlides : Type 0
LeastSlides = (xs : List ℤ) → All IsCell xs → 2 ≤ length xs
    → (first xs ≢ least (before xs)) ⊎ (least (before xs) ≡ MISSING)
    → least (after xs) ≡ least_of (least (before xs)) (last xs)

-- The cells of a list of sessions, newest last, as `downward` counts them back: where the cells seen one
-- session later, f, are those seen before, g, the longer list holds both windows.
abbrev pub WindowsSlide : Type 0
WindowsSlide = (f g : ℕ → ℤ) (size : ℕ) → ((n : ℕ) → n < size → f (suc n) ≡ g n)
    → (before (map f (downward (suc size))) ≡ map g (downward size)) × (after (map f (downward (suc size))) ≡ map f (downward size))
