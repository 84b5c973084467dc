-- Terms whose windows hold a session, and worlds that have the same bars from a session on.
use Rattle.std.specs.Prelude.{◌≡◌, ℕ, ◌≤◌, ℤ, ◌≤ℤ◌}
use Rattle.pl_spec.specs.declared.Column.{Column}
use Rattle.pl_spec.specs.World.{World, bar_cell}
use Rattle.pl_pipeline.specs.Term.{Term}
use Rattle.pl_pipeline.specs.Term.Term.{absent, column, node}

-- each window of the term holds a session
abbrev pub HasWindows : Term → Type 0
HasWindows absent = Unit {0}
HasWindows (column c) = Unit {0}
HasWindows (node k size x y z m g) = (1 ≤ size) × HasWindows x × HasWindows y × HasWindows z × HasWindows m × HasWindows g

-- the bars of session low and later are the same
abbrev pub SameBarsFrom : World → World → ℤ → Type 0
SameBarsFrom w v low = (a : ℕ) (c : Column) (s : ℤ) → low ≤ℤ s → bar_cell w a c s ≡ bar_cell v a c s
