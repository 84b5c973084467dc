-- Rows of numbers as they are lent, and which of them are the newest.
use Rattle.std.specs.Prelude.{ℕ, Bool, ℤ, List, map, filter}
use Rattle.std.specs.List.{list_all}
use Rattle.std.specs.Int.RustNames.{int_le}
use Rattle.pl_spec.specs.Numbers.{is_number_of}
use Rattle.pl_spec.specs.Parts.{ColumnNumber}
use Rattle.pl_numbers.specs.Numbers.{by_column}
use Rattle.pl_numbers.specs.declared.rows.NumberAt.{NumberAt}

-- the row that is lent
abbrev pub shown_at : NumberAt → ColumnNumber
shown_at r = record { name = r.name.now; col = r.col; known = r.known; value = r.value }

-- of the rows of its name and column none that was known by the day was known later
abbrev pub is_newest_in : List ColumnNumber → ℤ → ColumnNumber → Bool
is_newest_in rows day r = list_all (λ q. int_le q.known r.known) (filter (is_number_of r.name r.col day) (map by_column rows))
