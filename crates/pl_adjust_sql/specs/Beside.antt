-- The files that SQLite keeps beside a database file, and what is read of all three.
use Rattle.std.specs.Prelude.{◌≡◌, ◌≢◌, ℕ, Bool, true, List, [], ◌∷◌, ◌++◌, codes, slice_index_or}
use Rattle.sqlite_disk.specs.declared.Files.{Files}
use Rattle.sqlite_disk.specs.declared.memory.Memory.{Memory}
use Rattle.sqlite_disk.specs.Memory.{memory_bytes}
use Rattle.pl_outside.specs.Logs.{Given}
use Rattle.pl_adjust_sql.specs.declared.file_keeper.Beside.{Beside}
use Rattle.pl_adjust_sql.specs.declared.file_keeper.Beside.TheVariants.{Log, Journal}

-- the end of its path, behind that of the database file
abbrev pub suffix_of : Beside → List ℕ
suffix_of Log = codes "-wal"
suffix_of Journal = codes "-journal"

-- these bytes were read of the file of this path, all of them where it was found
abbrev pub read_as : List ℕ → List ℕ → Bool → Given
read_as path bytes found = record { name = path; bytes = bytes; ended = found }

-- The file of this name was read, its journal and its log. The disks hold what was given of the file, which is
-- not empty, and of the log. The journal is none that is to be played back.
pub record IsCopyOf (before now : List Given) (name : List ℕ) (files : Files Memory) : Type 0 where
  pub journal : List ℕ
  pub has_journal : Bool
  pub has_log : Bool
  pub some : memory_bytes files.db ≢ []
  pub idle : slice_index_or journal 0 0 ≡ 0
  pub given : now ≡ read_as (name ++ suffix_of Log) (memory_bytes files.log) has_log
      ∷ (read_as (name ++ suffix_of Journal) journal has_journal ∷ (read_as name (memory_bytes files.db) true ∷ before))
