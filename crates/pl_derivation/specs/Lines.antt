-- The lines of a derivation.
use Rattle.std.specs.Prelude.{ℕ, ℤ, List, Option}
use Rattle.pl_spec.specs.declared.Column.{Column}

-- What is said of one fact: the cells of a bar as it is seen on a later day; the value of a term, by its number,
-- for an asset on a day; or that value as it is seen on a later day. The cells are the bar's, and that after each
-- change in turn. With the value of a number beside bars stands the day from which it was known, where any was.
pub data Line : Type 0 where
  SeenLine : (column : Column) (sid : ℕ) (bar_day day : ℤ) (cells : List ℤ) → Line
  ValueLine : (term sid : ℕ) (day value : ℤ) (known : Option ℤ) → Line
  SeenValueLine : (term sid : ℕ) (own_day day value : ℤ) → Line
