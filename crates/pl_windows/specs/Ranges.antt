-- What windows are asked of, in the words of the code.
use Rattle.std.specs.Prelude.{ℕ, ◌<◌, ◌≤◌, ℤ, pos, if◌then◌else◌, List, [], ◌∷◌, ◌++◌, length, decimal, unwrap_or}
use Rattle.pl_spec.specs.Dates.{date_text}
use Rattle.pl_spec.specs.Decimals.{cell_text}
use Rattle.pl_spec.specs.World.{World, day_of, exists}
use Rattle.pl_world.specs.Worlds.{PartsMakeAWorld, world_of}
use Rattle.pl_windows.specs.declared.asked.Asked.{Asked}
use Rattle.pl_windows.specs.Windows.{lines, row_line, rows_on, window_row, windows_text}

abbrev pub asked_world : Asked → World
asked_world a = world_of a.world

abbrev pub asked_text : Asked → List ℕ
asked_text a = windows_text (asked_world a) a.column a.window a.from a.to

-- the lines of n sessions from one on
abbrev pub asked_lines : Asked → ℕ → ℕ → List ℕ
asked_lines a session n = lines (asked_world a) (rows_on (asked_world a) a.column a.window a.from session n)

-- the line of an asset on a session
abbrev pub asked_line : Asked → ℕ → ℕ → List ℕ
asked_line a session sid = row_line (asked_world a) (window_row (asked_world a) a.column a.window a.from session sid)

-- the same where it exists there, and else nothing
abbrev pub line_there : Asked → ℕ → ℕ → List ℕ
line_there a session sid = if exists (asked_world a) sid (pos session) then asked_line a session sid else []

-- the line up to its first cell
abbrev pub front_text : World → ℕ → ℕ → ℕ → ℤ → List ℕ
front_text w session sid count x =
    date_text (unwrap_or (day_of w (pos session)) (pos 0)) ++ 44 ∷ decimal sid ++ 44 ∷ decimal count ++ 44 ∷ cell_text x

-- one of the sessions of the range
pub record IsSession (a : Asked) (session : ℕ) : Type 0 where
  pub from : a.from ≤ session
  pub to : session ≤ a.to

-- A window has a session at least, the first one begins with no session before the first, and the sessions are
-- those of the world, in their order.
pub record IsRange (days : List ℤ) (window from to : ℕ) : Type 0 where
  pub some : 1 ≤ window
  pub reach : window ≤ from
  pub order : from ≤ to
  pub within : to < length days

-- the parts make a world, and the range is one of its sessions
pub record IsAsked (a : Asked) : Type 0 where
  pub parts : PartsMakeAWorld a.world
  pub range : IsRange a.world.sessions.now a.window a.from a.to
