-- Worlds that hold the same rows in different orders.
use Rattle.std.specs.Prelude.{◌≡◌, ◌≢◌, ℕ, ℤ, List, filter, AllPairs, IsPermutation}
use Rattle.std.specs.Ordering.{int_eq}
use Rattle.pl_spec.specs.declared.Column.{Column}
use Rattle.pl_spec.specs.declared.Figure.{Figure}
use Rattle.pl_spec.specs.Numbers.{number_at}
use Rattle.pl_spec.specs.World.{World, Event, events_of, bar_cell, exists, label_at}

-- The worlds have the same sessions, and whatever is looked up is the same in both: bars, lifetimes, labels,
-- numbers, and of each sid the adjustments in the order in which they act.
pub record AgreeInAll (w v : World) : Type 0 where
  pub days : w.days ≡ v.days
  pub bars : (a : ℕ) (c : Column) (s : ℤ) → bar_cell w a c s ≡ bar_cell v a c s
  pub adjustments : (a : ℕ) → events_of w a ≡ events_of v a
  pub lifetimes : (a : ℕ) (s : ℤ) → exists w a s ≡ exists v a s
  pub labels : (name : List ℕ) (a : ℕ) (s : ℤ) → label_at w name a s ≡ label_at v name a s
  pub numbers : (f : Figure) (name : List ℕ) (a : ℕ) (day : ℤ)
      → number_at f w.numbers name a day ≡ number_at f v.numbers name a day

-- the adjustments of asset a that are effective from the day on, in the order in which they act
abbrev pub events_on : World → ℕ → ℤ → List Event
events_on w a day = filter (λ e. int_eq e.day day) (events_of w a)

-- no two adjustments of an asset are of one day
abbrev pub EventsHaveOwnDays : World → Type 0
EventsHaveOwnDays w = (a : ℕ) → AllPairs (λ e f. e.day ≢ f.day) (events_of w a)

-- The worlds have the same sessions, and the assets, label rows, bars and numbers of one are those of the
-- other in some order. So are the adjustments, but those of one asset and one day stand in the same order, in
-- which they act.
pub record HaveSameRows (w v : World) : Type 0 where
  pub days : w.days ≡ v.days
  pub assets : IsPermutation w.assets v.assets
  pub labels : IsPermutation w.labels v.labels
  pub bars : IsPermutation w.bars v.bars
  pub adjustments : (a : ℕ) (day : ℤ) → events_on w a day ≡ events_on v a day
  pub numbers : IsPermutation w.numbers v.numbers
