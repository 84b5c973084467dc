-- What a day makes of the rings of bar columns.
use Rattle.std.specs.Prelude.{◌≡◌, ℕ, ◌<◌, ℤ, List, [], ◌∷◌, ◌++◌, length, map, get_or, All, AllPairs, Option}
use Rattle.circular_buffer.specs.Buffer.{Buffer, buffer, keep_last}
use Rattle.pl_spec.specs.declared.Column.{Column}
use Rattle.pl_spec.specs.Parts.{ColumnAdjustment}
use Rattle.pl_spec.specs.Rounding.{IsCell}
use Rattle.pl_spec.specs.World.{Event}
use Rattle.pl_adjust.specs.Events.{PutsCell, event_of}
use Rattle.pl_daily.specs.declared.day.DayEvent.{DayEvent}
use Rattle.pl_daily.specs.declared.day.DayBar.{DayBar}
use Rattle.pl_daily.specs.Days.{Start, FedDay, IsStart, AreFed, day_window}
use Rattle.pl_daily.specs.Rings.{bar_ring, changed_cells, known_days}

abbrev pub Ring : Type 0
Ring = Buffer ℤ

abbrev pub ring_at : List Ring → ℕ → Ring
ring_at rings i = get_or rings i (buffer [] 0)

-- the ring is full, and of cells
pub record IsRing (capacity : ℕ) (b : Ring) : Type 0 where
  pub room : b.capacity ≡ capacity
  pub full : length b.items ≡ capacity
  pub cells : All IsCell b.items

-- one for each of the assets
pub record AreRings (assets capacity : ℕ) (rings : List Ring) : Type 0 where
  pub count : length rings ≡ assets
  pub each : (i : ℕ) → i < assets → IsRing capacity (ring_at rings i)

abbrev pub pushed : ℤ → Ring → Ring
pushed x b = buffer (keep_last b.capacity (b.items ++ x ∷ [])) b.capacity

abbrev pub changed : Column → List Event → List (Option ℤ) → Ring → Ring
changed c es days b = buffer (changed_cells c es days b.items) b.capacity

abbrev pub column_event : DayEvent → ColumnAdjustment
column_event e = record { col = e.col; event = event_of e.adjust }

-- The rings of a column stand for the days: each holds the cells of the last sessions before the last day, as
-- they are seen on that day.
pub record HoldBars (g : Start) (days : List FedDay) (c : Column) (capacity : ℕ) (rings : List Ring) : Type 0 where
  pub count : length rings ≡ length g.assets
  pub each : (i : ℕ) → i < length g.assets → ring_at rings i ≡ buffer (bar_ring g days c capacity i) capacity

-- a day that brings these bars and events
pub record Brings (handed : List DayBar) (told : List DayEvent) (d : FedDay) : Type 0 where
  pub bars : d.bars ≡ handed
  pub events : d.events ≡ map column_event told

-- what a caller owes of a day, whatever the days before it
pub record IsHandedIn (assets count : ℕ) (bars : List DayBar) (events : List DayEvent) : Type 0 where
  pub ascend : AllPairs (λ b c. b.col < c.col) bars
  pub within : All (λ b. b.col < assets) bars
  pub cells : All (λ b. All IsCell b.cells) bars
  pub first : count ≡ 0 → bars ≡ []
  pub events_in : All (λ e. e.col < assets) events
  pub put_cells : All (λ e. PutsCell (event_of e.adjust)) events

-- Over every list of days that the old rings stand for and that the day may follow, the new ones stand for
-- the list with the day. The calendar has the days of the list's last sessions.
abbrev pub FollowBars : List DayBar → List DayEvent → ℕ → List ℤ → Column → ℕ → List Ring → List Ring → Type 0
FollowBars bars events count calendar c capacity old new =
    (g : Start) (next : FedDay) (days : List FedDay) → IsStart g → AreFed g (next ∷ days)
    → known_days count calendar ≡ day_window days capacity → Brings bars events next
    → HoldBars g days c capacity old → HoldBars g (next ∷ days) c capacity new
