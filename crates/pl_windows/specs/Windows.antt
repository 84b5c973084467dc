-- The windows of a bar column, asset by asset and session by session, as lines that tell what is new.
use Rattle.std.specs.Prelude.{ℕ, suc, ◌-◌, Bool, false, not, ◌||◌, ◌==◌, if◌then◌else◌, ℤ, pos, List, [], ◌∷◌, ◌++◌, length, map, flat_map, codes, decimal, Option, Some, unwrap_or}
use Rattle.std.specs.List.{list_any, range_with_len}
use Rattle.pl_spec.specs.declared.Column.{Column}
use Rattle.pl_spec.specs.Dates.{date_text}
use Rattle.pl_spec.specs.Decimals.{cell_text}
use Rattle.pl_spec.specs.Window.{bar_window, before, is_between}
use Rattle.pl_spec.specs.World.{World, Event, day_of, events_of, exists, living_sids}

-- ---- which cells are told

-- some event is later than the day of one session and by the day of another
abbrev pub has_between : Option ℤ → Option ℤ → List Event → Bool
has_between (Some low) (Some high) es = list_any (is_between low high) es
has_between low high es = false

-- an adjustment or a revision of asset a became effective since the session before d
unfoldable pub is_changed : World → ℕ → ℤ → Bool
is_changed w a d = has_between (day_of w (before d 1)) (day_of w d) (events_of w a)

-- it did, or the asset did not exist on the session before
abbrev pub is_anew : World → ℕ → ℤ → Bool
is_anew w a d = not (exists w a (before d 1)) || is_changed w a d

-- The whole window is told on the first session of the range, on the first session on which the asset exists,
-- and where an adjustment or a revision of it became effective since the session before.
unfoldable pub is_whole : World → ℕ → ℕ → ℕ → Bool
is_whole w from a d = d == from || is_anew w a (pos d)

-- how many of the newest cells are told: all, or one
abbrev pub told : World → ℕ → ℕ → ℕ → ℕ → ℕ
told w size from a d = if is_whole w from a d then size else 1

-- ---- the rows

-- the newest cells of the window of an asset, the oldest first, as they are seen on the session
pub record WindowRow : Type 0 where
  pub session : ℕ
  pub sid : ℕ
  pub cells : List ℤ

abbrev pub window_row : World → Column → ℕ → ℕ → ℕ → ℕ → WindowRow
window_row w c size from d a =
    record { session = d; sid = a; cells = bar_window w c (told w size from a d) a (pos d) }

-- the rows of the assets that exist on session d, by ascending sid
abbrev pub session_rows : World → Column → ℕ → ℕ → ℕ → List WindowRow
session_rows w c size from d = map (window_row w c size from d) (living_sids w (pos d))

-- the rows of n sessions from session d on, for a range that begins with session from
abbrev pub rows_on : World → Column → ℕ → ℕ → ℕ → ℕ → List WindowRow
rows_on w c size from d n = flat_map (session_rows w c size from) (range_with_len d n)

-- the rows of the sessions from .. to
abbrev pub window_rows : World → Column → ℕ → ℕ → ℕ → List WindowRow
window_rows w c size from to = rows_on w c size from from (suc to - from)

-- ---- the text

-- cells with a semicolon in front of each; a missing one is empty
abbrev pub further_text : List ℤ → List ℕ
further_text xs = flat_map (λ x. 59 ∷ cell_text x) xs

-- the cells with semicolons between them
abbrev pub cells_text : List ℤ → List ℕ
cells_text [] = []
cells_text (x ∷ xs) = cell_text x ++ further_text xs

-- the date, the sid, how many cells there are, and the cells, with commas between them
abbrev pub row_line : World → WindowRow → List ℕ
row_line w r =
    date_text (unwrap_or (day_of w (pos r.session)) (pos 0)) ++ 44 ∷ decimal r.sid ++ 44 ∷ decimal (length r.cells)
    ++ 44 ∷ cells_text r.cells ++ 10 ∷ []

abbrev pub header : List ℕ
header = codes "session,sid,count,cells" ++ 10 ∷ []

-- the lines of rows
abbrev pub lines : World → List WindowRow → List ℕ
lines w rows = flat_map (row_line w) rows

-- the header, and a line for each row of the sessions from .. to
unfoldable pub windows_text : World → Column → ℕ → ℕ → ℕ → List ℕ
windows_text w c size from to = header ++ lines w (window_rows w c size from to)
