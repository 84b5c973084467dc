-- What a read of a table appends to a list of rows.
use Rattle.std.specs.Prelude.{◌≡◌, List, [], ◌++◌, Result, Ok, Err, ℕ}
use Rattle.sqlite.specs.State.{State, Shown}
use Rattle.sqlite_value.specs.Order.{Row}
use Rattle.pl_outside.specs.declared.keeper.Table.{Table}
use Rattle.pl_outside.specs.declared.keeper.KeepError.{KeepError}
use Rattle.pl_outside.specs.declared.keeper.KeepError.TheVariants.{Failed, Memory}
use Rattle.pl_outside.specs.Counts.{count_plus}
use Rattle.pl_spec.specs.declared.RawAdjust.{RawAdjust}
use Rattle.pl_adjust_sql.specs.Tables.{statement_of}
use Rattle.pl_adjust_sql.specs.Rows.{AreRead, AreRowsOf}

-- rows are appended, which are those that SQLite shows for the table's statement
pub record AppendsAnswer (table : Table) (old new : State) (before after : List RawAdjust) : Type 0 where
  pub answer : List Row
  pub rows : List RawAdjust
  pub appended : after ≡ before ++ rows
  pub read : AreRead answer rows
  pub shown : Shown (statement_of table) [] old new answer

-- rows are appended, which are the stored ones, all of them, in ascending id
pub record AppendsRows (places : List ℕ) (stored : List Row) (before after : List RawAdjust) : Type 0 where
  pub rows : List RawAdjust
  pub appended : after ≡ before ++ rows
  pub all : AreRowsOf places stored rows

-- a count of faults rises exactly where a load fails
abbrev pub count_after : {T : Type 0} → ℕ → Result T KeepError → ℕ
count_after faults (Ok done) = faults
count_after faults (Err Failed) = count_plus faults 1
count_after faults (Err Memory) = faults
