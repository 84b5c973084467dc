-- Ratios that round nothing.
use Rattle.std.specs.Prelude.{◌≡◌, ◌⊎◌, ◌<◌, false, ℤ, pos, ◌*ℤ◌, List, [], ◌∷◌}
use Rattle.pl_spec.specs.Rounding.{MISSING, Fraction, is_missing, scaled}
use Rattle.pl_spec.specs.Window.{Effect}
use Rattle.pl_spec.specs.Window.Effect.{Scale, Put}

-- The cell times the ratio is a whole number of millionths and a cell: cell * num = result * den. Nothing is
-- rounded either where the cell is missing.
abbrev pub Divides : Fraction → ℤ → Type 0
Divides f x = (0 < f.den) × ((x ≡ MISSING) ⊎ ((is_missing (scaled f x) ≡ false)
    × ((scaled f x *ℤ pos f.den) ≡ (x *ℤ pos f.num))))

-- Each cell that a bar's cell is in turn is divided by r, and by the ratio that acts on it, before and after
-- r.
abbrev pub AllDivide : Fraction → ℤ → List Effect → Type 0
AllDivide r x [] = Divides r x
AllDivide r x (Scale f ∷ fs) = Divides r x × Divides f x × Divides f (scaled r x)
    × AllDivide r (scaled f x) fs
AllDivide r x (Put y ∷ fs) = Divides r x × AllDivide r y fs
