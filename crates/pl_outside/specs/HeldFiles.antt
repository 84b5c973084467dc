-- The files that a shelf in memory keeps.
use Rattle.std.specs.Prelude.{ℕ, ◌<◌, ◌≤◌, Bool, List, [], length, drop, Option, Some, None, option_map, unwrap_or, slice_get, string_bytes, bytes_eq, ⊤}
use Rattle.pl_outside.specs.declared.files.File.{File}

abbrev pub has_name : List ℕ → File → Bool
has_name name file = bytes_eq (string_bytes file.name) name

abbrev pub shown : File → List ℕ × List ℕ
shown file = (string_bytes file.name, file.bytes.items)

abbrev pub bytes_at : List File → ℕ → List ℕ
bytes_at files place = unwrap_or (option_map (λ file. file.bytes.items) (slice_get files place)) []

-- what is left of the file at the place that was begun, of which so many bytes were read
abbrev pub rest_at : List File → Option ℕ → ℕ → List ℕ
rest_at files None read = []
rest_at files (Some place) read = drop read (bytes_at files place)

-- the file that was begun is there, and no more than all of it was read
abbrev pub IsWithin : List File → Option ℕ → ℕ → Type 0
IsWithin files None read = ⊤
IsWithin files (Some place) read = (place < length files) × (read ≤ length (bytes_at files place))
