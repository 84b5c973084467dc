-- What a clause sees of a shelf in memory.
use Rattle.std.specs.Prelude.{ℕ, List, [], ◌∷◌, Some, None, bytes_eq, if◌then◌else◌}
use Rattle.pl_outside.specs.Calls.{Calls}
use Rattle.pl_outside.specs.Files.{Files}
use Rattle.pl_outside.specs.Logs.{Given}

-- files as pairs of name and bytes, what is left of the one that was begun last, what was given, and counts of
-- bytes given and of calls
pub record ShelfState : Type 0 where
  pub files : List (List ℕ × List ℕ)
  pub rest : List ℕ
  pub gave : List Given
  pub given : ℕ
  pub calls : Calls

-- the bytes of the first file of each name
abbrev pub held : List (List ℕ × List ℕ) → Files
held [] name = None
held (file ∷ files) name = if bytes_eq file.0 name then Some file.1 else held files name
