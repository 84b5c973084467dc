-- The rings of all bar columns.
use Rattle.std.specs.Prelude.{◌≡◌, ℕ, ◌*◌, ◌≤◌, min, max, ℤ, List, [], ◌∷◌, length, map, fold, sum_by}
use Rattle.pl_spec.specs.declared.Column.{Column}
use Rattle.pl_spec.specs.declared.Column.TheVariants.{OpenPrice, High, Low, Close, Volume}
use Rattle.pl_daily.specs.declared.columns.BarRings.{BarRings}
use Rattle.pl_daily.specs.declared.rings.Rings.{Rings}
use Rattle.pl_daily.specs.declared.ring_starts.Capacities.{Capacities}
use Rattle.pl_daily.specs.declared.day.DayBar.{DayBar}
use Rattle.pl_daily.specs.declared.day.DayEvent.{DayEvent}
use Rattle.pl_daily.specs.Days.{Start, FedDay, IsStart, AreFed, day_window}
use Rattle.pl_daily.specs.Rings.{known_days, scaling}
use Rattle.pl_daily.specs.Changes.{Ring, AreRings, HoldBars, Brings, IsHandedIn}

abbrev pub rings_of : BarRings → Column → Rings
rings_of b OpenPrice = b.open_price
rings_of b High = b.high
rings_of b Low = b.low
rings_of b Close = b.close
rings_of b Volume = b.volume

-- The rings are full, one for each asset and column, and the calendar has a day for each of their cells.
pub record AreBarRings (assets : ℕ) (b : BarRings) : Type 0 where
  pub calendar : length b.calendar.items ≡ b.calendar.capacity
  pub rings : (c : Column) → AreRings assets (rings_of b c).capacity (rings_of b c).rings.items
  pub fits : (c : Column) → (rings_of b c).capacity ≤ b.calendar.capacity
  pub row : length b.row.items ≡ assets

-- what the rings of a column ask of a day, with a row of so many assets and a calendar of so many days
pub record MayAdvance (assets size fed : ℕ) (bars : List DayBar) (events : List DayEvent) (r : Rings) : Type 0 where
  pub rings : AreRings assets r.capacity r.rings.items
  pub fits : r.capacity ≤ size
  pub handed_in : IsHandedIn assets fed bars events

-- they stand for the days
pub record HoldColumns (g : Start) (days : List FedDay) (b : BarRings) : Type 0 where
  pub calendar : known_days (length days) b.calendar.items ≡ day_window days b.calendar.capacity
  pub bars : (c : Column) → HoldBars g days c (rings_of b c).capacity (rings_of b c).rings.items

-- the rings have the same room
pub record SameRoom (old new : BarRings) : Type 0 where
  pub calendar : new.calendar.capacity ≡ old.calendar.capacity
  pub rings : (c : Column) → (rings_of new c).capacity ≡ (rings_of old c).capacity

-- over every list of days that they stand for and that the day may follow, they stand for the list with the
-- day
abbrev pub FollowColumns : ℤ → List DayBar → List DayEvent → ℕ → BarRings → BarRings → Type 0
FollowColumns day bars events count old new =
    (g : Start) (next : FedDay) (days : List FedDay) → IsStart g → AreFed g (next ∷ days) → next.day ≡ day → length days ≡ count
    → Brings bars events next → HoldColumns g days old → HoldColumns g (next ∷ days) new

-- One step for each ratio that has a factor for the column, and each of its ring's cells of a session that
-- was fed.
abbrev pub column_steps : BarRings → ℕ → List DayEvent → Column → ℕ
column_steps b fed es c = length (scaling c es) * min (rings_of b c).capacity fed

abbrev pub day_steps : BarRings → ℕ → List DayEvent → ℕ
day_steps b fed es = sum_by (column_steps b fed es) (OpenPrice ∷ High ∷ Low ∷ Close ∷ Volume ∷ [])

-- ---- before the first day

abbrev pub capacity_for : Capacities → Column → ℕ
capacity_for x OpenPrice = x.open_price
capacity_for x High = x.high
capacity_for x Low = x.low
capacity_for x Close = x.close
capacity_for x Volume = x.volume

-- the rings have these capacities, and the calendar the greatest
pub record HasRoom (x : Capacities) (b : BarRings) : Type 0 where
  pub rings : (c : Column) → (rings_of b c).capacity ≡ capacity_for x c
  pub calendar : b.calendar.capacity ≡ fold max 0 (map (capacity_for x) (OpenPrice ∷ High ∷ Low ∷ Close ∷ Volume ∷ []))

-- the rings of a column stand for no day
abbrev pub BeginRings : ℕ → ℕ → List Ring → Type 0
BeginRings assets capacity rings = (g : Start) (c : Column) → length g.assets ≡ assets → HoldBars g [] c capacity rings

-- and those of all columns
abbrev pub BeginColumns : ℕ → BarRings → Type 0
BeginColumns assets b = (g : Start) → length g.assets ≡ assets → HoldColumns g [] b
