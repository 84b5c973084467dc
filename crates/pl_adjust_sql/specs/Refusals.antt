-- Why a table isn't read.
use Rattle.std.specs.Prelude.{◌≡◌, ◌⊎◌, ℕ, List, [], Any, Err}
use Rattle.sqlite.specs.State.{State, Shown, Executes, FailsToQuery}
use Rattle.sqlite.specs.declared.error.Error.{Error}
use Rattle.sqlite.specs.declared.error.Error.TheVariants.{SqliteFailure}
use Rattle.sqlite.specs.declared.error.ErrorCode.TheVariants.{OutOfMemory}
use Rattle.sqlite_value.specs.Order.{Row}
use Rattle.pl_adjust_sql.specs.declared.refusal.TableError.{TableError}
use Rattle.pl_adjust_sql.specs.declared.refusal.TableError.TheVariants.{Refused, Memory}
use Rattle.pl_adjust_sql.specs.Rows.{HasFiveIntegers}

-- a refusal of SQLite is one, but for want of memory
abbrev pub table_error : Error → TableError
table_error (SqliteFailure OutOfMemory) = Memory
table_error _ = Refused

-- SQLite refuses the statement for another cause than memory
abbrev pub Refuses : List ℕ → State → State → Type 0
Refuses sql old new = (e : Error) × (table_error e ≡ Refused) × FailsToQuery sql [] old new e

-- the statement is refused, or a row of its answer has a value that is no integer
abbrev pub IsRefused : List ℕ → State → State → Type 0
IsRefused sql old new =
    Refuses sql old new ⊎ ((answer : List Row) × Shown sql [] old new answer × Any (λ row. ¬ HasFiveIntegers row) answer)

-- the same of the statement that makes a table
abbrev pub RefusesToMake : List ℕ → State → State → Type 0
RefusesToMake sql old new = (e : Error) × (table_error e ≡ Refused) × Executes sql [] old new (Err e)
