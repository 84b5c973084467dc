-- What a row of bars that is kept from session to session rests on.
use Rattle.std.specs.Prelude.{◌≡◌, ℕ, ℤ, pos, ◌+ℤ◌, ◌≤ℤ◌, List, Some}
use Rattle.pl_spec.specs.Rounding.{Fraction}
use Rattle.pl_spec.specs.declared.Column.{Column}
use Rattle.pl_spec.specs.World.{World, IsWorld, Event, day_of, events_of}
use Rattle.pl_spec.specs.World.Change.{Scale}
use Rattle.pl_spec.specs.Window.{effect, step_count, seen_cell, after_all, effects_in}

-- the buffer's step: a row as it is seen on d becomes the row as it is seen on the next session by the events
-- between the two days
abbrev pub BufferSteps : Type 0
BufferSteps = (w : World) → IsWorld w → (a : ℕ) (c : Column) (s d low mid high : ℤ)
    → day_of w s ≡ Some low → day_of w d ≡ Some mid → day_of w (d +ℤ pos 1) ≡ Some high → low ≤ℤ mid → mid ≤ℤ high
    → seen_cell w a c s (d +ℤ pos 1) ≡ after_all (seen_cell w a c s d) (effects_in c low mid high (events_of w a))

-- A ratio does the same to every bar, and the steps of one bar are those of any other.
pub record BarsAreAlike : Type 0 where
  pub ratios : (c : Column) (bar other : ℤ) (e : Event) (ratio : Fraction) → e.change ≡ Scale ratio → effect c bar e ≡ effect c other e
  pub steps : (c : Column) (bar other low high : ℤ) (es : List Event) → step_count (effects_in c bar low high es) ≡ step_count (effects_in c other low high es)
