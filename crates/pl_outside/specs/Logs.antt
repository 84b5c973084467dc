-- What was given and what was loaded, in the order of the calls. The newest stands first.
use Rattle.std.specs.Prelude.{ℕ, ◌≡◌, List, [], ◌∷◌, ◌++◌, Bool, false, ◌||◌, ◌==◌, ◌&&◌, nat_lt, length, take, Result, Ok, Err}
use Rattle.pl_spec.specs.declared.RawAdjust.{RawAdjust}
use Rattle.pl_outside.specs.declared.keeper.Table.{Table}

-- a file that was begun: its name, all bytes that were given of it since, and whether its end was seen
pub record Given : Type 0 where
  pub name : List ℕ
  pub bytes : List ℕ
  pub ended : Bool

-- a file is begun, and nothing of it is given yet
abbrev pub begins : List Given → List ℕ → List Given
begins files name = record { name = name; bytes = []; ended = false } ∷ files

-- More bytes of the file that was begun last are given, or its end is seen. Where no file was begun, they are
-- of none.
abbrev pub gives : List Given → List ℕ → Bool → List Given
gives [] bytes ended = []
gives (file ∷ files) bytes ended =
    record { name = file.name; bytes = file.bytes ++ bytes; ended = file.ended || ended } ∷ files

-- A call of `next` gave so many bytes at the front of the buffer, and none for a nonempty one is the end. A
-- call that failed gave nothing.
abbrev pub GivesIn : {E : Type 0} → List Given → List Given → List ℕ → Result ℕ E → Type 0
GivesIn old new buffer (Ok n) = new ≡ gives old (take n buffer) (n == 0 && nat_lt 0 (length buffer))
GivesIn old new buffer (Err e) = new ≡ old

-- the names that were begun, in their order
abbrev pub names_of : List Given → List (List ℕ)
names_of [] = []
names_of (file ∷ files) = names_of files ++ file.name ∷ []

-- a table that was loaded: under which name, and its rows
pub record Loaded : Type 0 where
  pub name : List ℕ
  pub table : Table
  pub rows : List RawAdjust

-- A call of `load` appended these rows. One that failed loaded nothing.
abbrev pub Loads : {T E : Type 0} → List Loaded → List Loaded → List ℕ → Table → List RawAdjust → List RawAdjust → Result T E → Type 0
Loads old new name table before after (Ok x) =
    (rows : List RawAdjust) × (after ≡ before ++ rows) × (new ≡ record { name = name; table = table; rows = rows } ∷ old)
Loads old new name table before after (Err e) = new ≡ old
