-- The rows of adjustments by name and table.
use Rattle.std.specs.Prelude.{ℕ, ◌<ℤ◌, List, AllPairs}
use Rattle.pl_spec.specs.declared.RawAdjust.{RawAdjust}
use Rattle.pl_outside.specs.declared.keeper.Table.{Table}

-- the rows of each name and table
abbrev pub Lists : Type 0
Lists = List ℕ → Table → List RawAdjust

-- the ids ascend, so no two are the same
abbrev pub IsAscending : List RawAdjust → Type 0
IsAscending rows = AllPairs (λ a b. a.id <ℤ b.id) rows
