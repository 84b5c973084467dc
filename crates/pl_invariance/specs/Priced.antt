-- Prices in another unit.
use Rattle.std.specs.Prelude.{◌≡◌, ℕ, suc, ◌<◌, Bool, true, false, if◌then◌else◌, ℤ, map}
use Rattle.pl_spec.specs.declared.Column.{Column}
use Rattle.pl_spec.specs.declared.Column.TheVariants.{Volume}
use Rattle.pl_spec.specs.Rounding.{Fraction, scaled}
use Rattle.pl_spec.specs.World.{World, Bar, Change, Event, Adjustment, bar_cell}
use Rattle.pl_spec.specs.World.Change.{Scale, Overwrite}
use Rattle.pl_spec.specs.Window.{before, effects, seen_cell, bar_window}
use Rattle.pl_invariance.specs.Exact.{AllDivide}

abbrev pub is_price : Column → Bool
is_price Volume = false
is_price c = true

abbrev pub priced_bar : Fraction → Bar → Bar
priced_bar r b = record b {
  open_price = scaled r b.open_price;
  high = scaled r b.high;
  low = scaled r b.low;
  close = scaled r b.close;
}

-- a correction of a price is a price; ratios are of no unit
abbrev pub priced_change : Fraction → Change → Change
priced_change r (Scale f) = Scale f
priced_change r (Overwrite day c x) = Overwrite day c (if is_price c then scaled r x else x)

abbrev pub priced_event : Fraction → Event → Event
priced_event r e = record e { change = priced_change r e.change }

-- the world with each price times the ratio, which is 100 / 1 where dollars become cents
abbrev pub priced_world : Fraction → World → World
priced_world r w = record w {
  bars = map (priced_bar r) w.bars;
  adjustments = map (λ (x : Adjustment). record x { event = priced_event r x.event }) w.adjustments;
}

-- Where nothing is rounded, a price that is seen is that of the world times the ratio, and so is each price
-- of a window. Volumes stay.
pub record PricesHaveUnits : Type 0 where
  pub cells : (r : Fraction) (w : World) (a : ℕ) (c : Column) → is_price c ≡ true → (s d : ℤ)
      → AllDivide r (bar_cell w a c s) (effects w a c s d)
      → seen_cell (priced_world r w) a c s d ≡ scaled r (seen_cell w a c s d)
  pub windows : (r : Fraction) (w : World) (a : ℕ) (c : Column) → is_price c ≡ true → (size : ℕ) (d : ℤ)
      → ((n : ℕ) → n < size → AllDivide r (bar_cell w a c (before d (suc n)))
      (effects w a c (before d (suc n)) d))
      → bar_window (priced_world r w) c size a d ≡ map (scaled r) (bar_window w c size a d)
  pub volumes : (r : Fraction) (w : World) (a size : ℕ) (d : ℤ)
      → bar_window (priced_world r w) Volume size a d ≡ bar_window w Volume size a d
