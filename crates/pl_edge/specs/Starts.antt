-- What is written where the program can't begin.
use Rattle.std.specs.Prelude.{◌≡◌, ◌↔◌, ℕ, List, codes}
use Rattle.pl_edge.specs.declared.command_line.StartError.{StartError}
use Rattle.pl_edge.specs.declared.command_line.StartError.TheVariants.{NotText, Memory}

-- the status with which the program ends
abbrev pub status_of : StartError → ℕ
status_of NotText = 2
status_of Memory = 10

-- the line on standard error
abbrev pub line_of : StartError → List ℕ
line_of NotText = codes "usage\n"
line_of Memory = codes "memory\n"

-- Why there are no words: memory ran out, or one of them is no text.
abbrev pub IsCauseOf : Type 0 → StartError → Type 0
IsCauseOf NoMemory why = why ≡ Memory ↔ NoMemory
