-- Memory that is taken before the first day.
use Rattle.std.specs.Prelude.{◌≡◌, ℕ, ◌≤◌, true, false, List, length, slice_get, Option, Some, None}
use Rattle.pl_spec.specs.declared.Column.{Column}
use Rattle.pl_spec.specs.Limits.{most_window}
use Rattle.pl_pipeline.specs.Table.{Pipeline}
use Rattle.pl_terms.specs.Uses.{is_used}
use Rattle.pl_values.specs.Arrays.{empty_cell}
use Rattle.pl_daily.specs.declared.ring_starts.Capacities.{Capacities}
use Rattle.pl_daily.specs.Columns.{capacity_for}
use Rattle.pl_daily.specs.declared.term_day.TermCells.{TermCells}
use Rattle.pl_daily.specs.Held.{AreTermCells, BeginsTerm}
use Rattle.pl_daily.specs.declared.room.Room.{Room}
use Rattle.pl_daily.specs.declared.starts.StartCells.{StartCells}
use Rattle.pl_daily.specs.Capacities.{column_window, term_window}
use Rattle.pl_daily.specs.Terms.{IsStartRoom}

-- rows of so many assets, windows of the greatest length, and a session for each term
pub record IsRoom (assets terms : ℕ) (r : Room) : Type 0 where
  pub cross : assets ≤ r.cross
  pub first : most_window ≤ length r.first.items
  pub second : most_window ≤ length r.second.items
  pub third : most_window ≤ length r.third.items
  pub keep : length r.keep.items ≡ assets
  pub out : length r.out.items ≡ assets
  pub sessions : length r.sessions.items ≡ terms

-- each bar column has room for the greatest window over it
abbrev pub HasColumns : Pipeline → Capacities → Type 0
HasColumns p x = (c : Column) → capacity_for x c ≡ column_window p c

-- Term k has room for the greatest window over it; where it is used, it is full of its empty value, and where
-- it isn't, it has no row.
pub record IsBegun (assets : ℕ) (p : Pipeline) (k : ℕ) (t : TermCells) : Type 0 where
  pub capacity : t.rings.capacity ≡ term_window p k
  pub cells : is_used p k ≡ true → AreTermCells assets t
  pub begins : is_used p k ≡ true → BeginsTerm assets (empty_cell p k) t
  pub idle : is_used p k ≡ false → length t.row.items ≡ 0

-- so it is with each of the first terms
pub record AreBegun (assets : ℕ) (p : Pipeline) (count : ℕ) (terms : List TermCells) : Type 0 where
  pub many : length terms ≡ count
  pub each : (k : ℕ) (t : TermCells) → slice_get terms k ≡ Some t → IsBegun assets p k t

-- and with their starts
pub record AreBegunStarts (assets : ℕ) (p : Pipeline) (count : ℕ) (starts : List StartCells) : Type 0 where
  pub many : length starts ≡ count
  pub full : (k : ℕ) (s : StartCells) → slice_get starts k ≡ Some s → IsStartRoom assets p k s

abbrev pub no_session : Option ℕ
no_session = None
