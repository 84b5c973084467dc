-- The laws of fed days.
use Rattle.std.specs.Prelude.{◌≡◌, ℕ, ◌<◌, ◌≤◌, ℤ, pos, List, [], ◌∷◌, ◌++◌, length, replicate}
use Rattle.circular_buffer.specs.Buffer.{keep_last}
use Rattle.pl_spec.specs.declared.Column.{Column}
use Rattle.pl_spec.specs.Agree.{Agree}
use Rattle.pl_spec.specs.Rounding.{MISSING}
use Rattle.pl_spec.specs.World.{World, IsWorld, day_of}
use Rattle.pl_spec.specs.Window.{before, bar_window}
use Rattle.pl_daily.specs.Days.{Start, FedDay, fed, IsStart, AreFed, cell_brought, day_back, day_window, last_session}
use Rattle.pl_daily.specs.Rings.{bar_ring, changed_cells}
use Rattle.pl_adjust.specs.Columns.{events_at}

abbrev pub FedIsAWorld : Type 0
FedIsAWorld = (g : Start) (days : List FedDay) → IsStart g → AreFed g days → IsWorld (fed g days)

-- the world of the days so far and that of one day more are the same in all that was known
abbrev pub FedAgrees : Type 0
FedAgrees = (g : Start) (now next : FedDay) (earlier : List FedDay) → IsStart g → AreFed g (next ∷ now ∷ earlier)
    → Agree (fed g (now ∷ earlier)) (fed g (next ∷ now ∷ earlier)) (pos (length earlier)) now.day

-- A day puts its bar's cell after, and its events change the cells, each by the day of its session. Without
-- a day all cells are missing. A ring has the smaller windows at its end.
pub record BarRingsMove : Type 0 where
  pub begins : (g : Start) (c : Column) (size col : ℕ) → bar_ring g [] c size col ≡ replicate size MISSING
  pub moves : (g : Start) (next : FedDay) (days : List FedDay) → IsStart g → AreFed g (next ∷ days) → (c : Column) (size col : ℕ) → col < length g.assets
      → bar_ring g (next ∷ days) c size col
      ≡ changed_cells c (events_at next.events col) (day_window days size) (keep_last size (bar_ring g days c size col ++ cell_brought c next.bars col ∷ []))
  pub windows : (w : World) (c : Column) (small size a : ℕ) (d : ℤ) → small ≤ size → keep_last small (bar_window w c size a d) ≡ bar_window w c small a d

-- the days of the sessions are those that were fed
abbrev pub DaysAreFed : Type 0
DaysAreFed = (g : Start) (days : List FedDay) (n : ℕ) → day_of (fed g days) (before (last_session days) n) ≡ day_back days n
