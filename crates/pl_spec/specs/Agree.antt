-- When two worlds are the same up to a session.
use Rattle.std.specs.Prelude.{◌≡◌, ℕ, Bool, ℤ, ◌<ℤ◌, ◌≤ℤ◌, List, filter, Some}
use Rattle.std.specs.Int.RustNames.{int_le}
use Rattle.pl_spec.specs.declared.Column.{Column}
use Rattle.pl_spec.specs.declared.Figure.{Figure}
use Rattle.pl_spec.specs.Numbers.{number_at}
use Rattle.pl_spec.specs.World.{World, Event, events_of, day_of, bar_cell, exists, label_at}

-- an event that is effective by the day
abbrev pub is_known : ℤ → Event → Bool
is_known day e = int_le e.day day

-- The worlds have the same sessions up to d, whose day is the given one, and whatever is looked up is the
-- same in both: bars before d, lifetimes and labels up to d, numbers up to that day. Of each sid they have
-- the same adjustments that are effective by then. In which order bars, assets, label rows and numbers stand
-- does not matter.
pub record Agree (w v : World) (d day : ℤ) : Type 0 where
  pub is_day : day_of w d ≡ Some day
  pub days : (s : ℤ) → s ≤ℤ d → day_of w s ≡ day_of v s
  pub bars : (a : ℕ) (c : Column) (s : ℤ) → s <ℤ d → bar_cell w a c s ≡ bar_cell v a c s
  pub adjustments : (a : ℕ) → filter (is_known day) (events_of w a) ≡ filter (is_known day) (events_of v a)
  pub lifetimes : (a : ℕ) (s : ℤ) → s ≤ℤ d → exists w a s ≡ exists v a s
  pub labels : (name : List ℕ) (a : ℕ) (s : ℤ) → s ≤ℤ d → label_at w name a s ≡ label_at v name a s
  pub numbers : (f : Figure) (name : List ℕ) (a : ℕ) (x : ℤ) → x ≤ℤ day
      → number_at f w.numbers name a x ≡ number_at f v.numbers name a x
