-- The work as steps, each with what it reads and its fault, and the first fault.
use Rattle.std.specs.Prelude.{◌≡◌, ◌⊎◌, ℕ, ◌+◌, Bool, if◌then◌else◌, List, [], ◌∷◌, ◌++◌, Option, Some, None, is_none, option_map, option_to_list}
use Rattle.std.specs.Option.{option_or}
use Rattle.pl_spec.specs.declared.RawAdjust.{RawAdjust}
use Rattle.pl_outside.specs.declared.keeper.Table.{Table}
use Rattle.pl_words.specs.declared.request.InputFile.{InputFile}
use Rattle.pl_load.specs.declared.fault.Fault.{Fault}

-- what is read from outside: a file of the shelf, or a table of the keeper
pub data Source : Type 0 where
  Input : (file : InputFile) → Source
  Load : (table : Table) → Source

-- what was read with its contents: the bytes of a file, where there is such a file, or the rows of a table
pub data Reading : Type 0 where
  Bytes : (file : InputFile) (bytes : Option (List ℕ)) → Reading
  Rows : (table : Table) (rows : List RawAdjust) → Reading

abbrev pub source_of : Reading → Source
source_of (Bytes file bytes) = Input file
source_of (Rows table rows) = Load table

-- one step of the work: what it reads, if it reads something, and its fault, if it has one
pub record WorkStep : Type 0 where
  pub reads : Option Reading
  pub fault : Option Fault

abbrev pub first_fault : List WorkStep → Option Fault
first_fault [] = None
first_fault (s ∷ ss) = option_or s.fault (first_fault ss)

-- some step reads it, and no step before that one has a fault
abbrev pub ReachesRead : List WorkStep → Source → Type 0
ReachesRead [] source = ⊥
ReachesRead (s ∷ ss) source = (option_map source_of s.reads ≡ Some source) ⊎ ((s.fault ≡ None) × ReachesRead ss source)

-- what the steps read, each once and in their order, up to the first step that has a fault
abbrev pub reads_in : List WorkStep → List Reading
reads_in [] = []
reads_in (s ∷ ss) = option_to_list s.reads ++ (if is_none s.fault then reads_in ss else [])

-- the names of the files among what was read, by the names of all files
abbrev pub names_read : (InputFile → Option (List ℕ)) → List Reading → List (List ℕ)
names_read name [] = []
names_read name (Bytes file bytes ∷ readings) = option_to_list (name file) ++ names_read name readings
names_read name (Rows table rows ∷ readings) = names_read name readings

-- how many tables are among it
abbrev pub tables_read : List Reading → ℕ
tables_read [] = 0
tables_read (Bytes file bytes ∷ readings) = tables_read readings
tables_read (Rows table rows ∷ readings) = 1 + tables_read readings

-- a step that judges what was read before
abbrev pub rule : Option Fault → WorkStep
rule fault = record { reads = None; fault = fault }

abbrev pub when : Bool → Fault → Option Fault
when fails fault = if fails then Some fault else None
