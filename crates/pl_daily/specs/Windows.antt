-- The windows of a term on a day, by the rings.
use Rattle.std.specs.Prelude.{ℕ, ℤ, List, Option, Some, None, slice_get}
use Rattle.pl_pipeline.specs.Term.{Node, Input}
use Rattle.pl_values.specs.Families.{windowed}
use Rattle.pl_daily.specs.declared.term_day.TermDay.{TermDay}
use Rattle.pl_daily.specs.Rows.{ring_window}
use Rattle.pl_daily.specs.TermDays.{node_at}

abbrev pub size_for : Node → Option Input → ℕ
size_for n None = 0
size_for n (Some x) = n.window

-- how long the window of the input in a place is
abbrev pub window_size : Node → ℕ → ℕ
window_size n place = size_for n (slice_get n.inputs place)

-- the window of the input in a place that ends so many sessions before the day, by the rings
abbrev pub window_at : TermDay → ℕ → ℕ → ℕ → List ℤ
window_at t place after i = ring_window t.bars.now t.terms.now (node_at t).window after (slice_get (node_at t).inputs place) i

-- what the kind gives over them
abbrev pub windowed_by : TermDay → ℕ → ℕ → ℤ
windowed_by t after i = windowed (node_at t).kind (window_at t 0 after i) (window_at t 1 after i) (window_at t 2 after i)
