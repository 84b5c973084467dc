-- What is read from a copy of a database file.
use Rattle.std.specs.Prelude.{◌≡◌, ◌≢◌, ℕ, List, [], Option, IfSome, string_bytes}
use Rattle.sqlite.specs.State.{HasCleanDisk}
use Rattle.sqlite.specs.Files.{Finds, file_state}
use Rattle.sqlite_disk.specs.declared.Files.{Files}
use Rattle.sqlite_disk.specs.declared.memory.Memory.{Memory}
use Rattle.pl_spec.specs.declared.RawAdjust.{RawAdjust}
use Rattle.pl_outside.specs.declared.keeper.Table.{Table}
use Rattle.pl_adjust_sql.specs.declared.file_keeper.Copied.{Copied}
use Rattle.pl_adjust_sql.specs.Reads.{AppendsAnswer}
use Rattle.pl_adjust_sql.specs.Beside.{IsCopyOf}

-- what is kept, if anything, is of another name
abbrev pub IsOther : Option Copied → List ℕ → Type 0
IsOther kept name = IfSome kept (λ old. string_bytes old.name ≢ name)

-- the copy's connection finds what was read of the file of this name and of its log
pub record IsOpened (name : List ℕ) (copy : Copied) : Type 0 where
  pub files : Files Memory
  pub read : IsCopyOf [] copy.read.files name files
  pub found : HasCleanDisk (file_state copy.connection) → Finds files copy.connection

-- Rows were appended, which are those that SQLite shows for the table's statement over a copy of the file of
-- this name: over the copy that was kept, where it is of that name, and else over one that was opened anew.
-- Its connection is kept as `now`.
pub record IsReadFrom (table : Table) (kept : Option Copied) (name : List ℕ) (before after : List RawAdjust) (now : Copied) : Type 0 where
  pub copy : Copied
  pub named : string_bytes copy.name ≡ name
  pub once : IfSome kept (λ old. string_bytes old.name ≡ name → copy ≡ old)
  pub opened : IsOther kept name → IsOpened name copy
  pub answer : HasCleanDisk (file_state now.connection)
      → AppendsAnswer table (file_state copy.connection) (file_state now.connection) before after
