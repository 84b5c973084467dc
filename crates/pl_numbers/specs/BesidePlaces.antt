-- Rows of numbers that are kept behind others.
use Rattle.std.specs.Prelude.{ℕ, ◌+◌, ◌≤◌, length}
use Rattle.pl_numbers.specs.declared.rows.Place.{Place}
use Rattle.pl_numbers.specs.declared.rows.NumberRows.{NumberRows}

-- each name has a row, so that there are no more names than rows
abbrev pub AreNamed : NumberRows → Type 0
AreNamed t = length t.names ≤ length t.places.items

-- the row under a name that stands so many names further on
abbrev pub moved : ℕ → Place → Place
moved count p = record { name = count + p.name; col = p.col; known = p.known; value = p.value }
