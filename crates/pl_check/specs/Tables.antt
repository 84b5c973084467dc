-- Tables of names in the code.
use Rattle.std.specs.Prelude.{ℕ, List, [], ◌∷◌}
use Rattle.std.specs.Borrow.{Bor}
use Rattle.pl_check.specs.declared.operation.Operation.{Operation}
use Rattle.pl_check.specs.Operations.{Named}

-- a name, the first version that has it, and its operation
abbrev pub TableRow : Type 0
TableRow = Bor (List ℕ) × ℕ × Operation

-- what a table's rows say
abbrev pub rows_of : List TableRow → List Named
rows_of [] = []
rows_of (r ∷ rs) = record { name = r.0.now; since = r.1; operation = r.2 } ∷ rows_of rs
