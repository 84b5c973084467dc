-- The laws of the rows, each the contract of a function.
use Rattle.std.specs.Prelude.{◌≡◌, ℕ, suc, ◌+◌, ◌-◌, ◌≤◌, ◌<◌, ◌==◌, true, ℤ, pos, List, [], ◌++◌, length, map, filter, fold, drop}
use Rattle.pl_spec.specs.declared.Column.{Column}
use Rattle.pl_spec.specs.Window.{bar_window}
use Rattle.pl_spec.specs.World.{World, IsWorld, exists, living_sids}
use Rattle.pl_windows.specs.Windows.{WindowRow, rows_on, session_rows, window_rows}

-- the cells of a row take the place of as many of the oldest cells that are held
abbrev pub replayed : List ℤ → WindowRow → List ℤ
replayed held row = drop (length row.cells) held ++ row.cells

abbrev pub rows_of : ℕ → List WindowRow → List WindowRow
rows_of a rows = filter (λ r. r.sid == a) rows

-- what is held of an asset after its rows
abbrev pub held_after : ℕ → List WindowRow → List ℤ
held_after a rows = fold replayed [] (rows_of a rows)

-- Who replays the rows of an asset holds on each session of the range on which it exists exactly its window, as
-- the session sees it.
abbrev pub RowsReplayToWindows : Type 0
RowsReplayToWindows = (w : World) → IsWorld w → (c : Column) (size from d a : ℕ) → 1 ≤ size → from ≤ d
    → exists w a (pos d) ≡ true
    → held_after a (window_rows w c size from d) ≡ bar_window w c size a (pos d)

-- the row of the whole window of an asset
abbrev pub whole_row : World → Column → ℕ → ℕ → ℕ → WindowRow
whole_row w c size d a = record { session = d; sid = a; cells = bar_window w c size a (pos d) }

-- A range is divided after session mid: its rows are those of the one part, and then those of the other one,
-- but for the first of these of each asset, which in the part have the whole window.
pub record IsDivided (w : World) (c : Column) (size from mid to : ℕ) : Type 0 where
  pub whole : window_rows w c size from to
      ≡ window_rows w c size from mid ++ session_rows w c size from (suc mid) ++ rows_on w c size from (suc (suc mid)) (to - suc mid)
  pub part : window_rows w c size (suc mid) to
      ≡ map (whole_row w c size (suc mid)) (living_sids w (pos (suc mid))) ++ rows_on w c size from (suc (suc mid)) (to - suc mid)

abbrev pub RangesDivide : Type 0
RangesDivide = (w : World) (c : Column) (size from mid to : ℕ) → from ≤ mid → mid < to → IsDivided w c size from mid to
