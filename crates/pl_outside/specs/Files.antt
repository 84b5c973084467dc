-- Files by name, and the one that was begun last.
use Rattle.std.specs.Prelude.{ℕ, ◌≡◌, List, [], ◌++◌, Option, Some, option_map, Result, Ok, Err}
use Rattle.std.specs.Option.{ForSome}

-- the bytes of each name that is held
abbrev pub Files : Type 0
Files = List ℕ → Option (List ℕ)

-- A file that was begun is to be read from its first byte. Where its beginning failed, no file is begun.
abbrev pub Begins : {T E : Type 0} → Option (List ℕ) → List ℕ → Result T E → Type 0
Begins file rest (Ok x) = file ≡ Some rest
Begins file rest (Err e) = rest ≡ []

-- These names were begun after those that were begun before, as long as the shelf tells.
abbrev pub BeginsAll : Option (List (List ℕ)) → Option (List (List ℕ)) → List (List ℕ) → Type 0
BeginsAll old new names = ForSome new (λ now. option_map (λ before. before ++ names) old ≡ Some now)
