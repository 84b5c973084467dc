-- A buffer in which nothing changes for a while.
use Rattle.std.specs.Prelude.{◌≡◌, ℕ, ◌+◌, ◌<◌, ◌≤◌, ℤ, pos, List, [], filter, get_or, length}
use Rattle.pl_spec.specs.World.{Event, events_of}
use Rattle.pl_spec.specs.Window.{is_between, seen_cell}
use Rattle.pl_adjarray.specs.Buffered.{Buffered, applied_at, col_at, world_of}

-- On n sessions after session d each buffered bar is seen as it is seen on d, and no step is counted.
pub record IsStill (b : Buffered) (d n : ℕ) : Type 0 where
  pub within : d + n ≤ b.first + b.rows
  pub seen : (i j m : ℕ) → i < length b.cols → j < b.rows → m ≤ n
      → seen_cell (world_of b) (col_at b i) b.column (pos (b.first + j)) (pos (d + m)) ≡ seen_cell (world_of b) (col_at b i) b.column (pos (b.first + j)) (pos d)
  pub applied : (m : ℕ) → m ≤ n → applied_at b (d + m) ≡ applied_at b d

abbrev pub day_at : Buffered → ℕ → ℤ
day_at b d = get_or b.days d (pos 0)

-- the adjustments of asset a that become effective on one of the n sessions after session d
abbrev pub effective_within : Buffered → ℕ → ℕ → ℕ → List Event
effective_within b d n a = filter (is_between (day_at b d) (day_at b (d + n))) (events_of (world_of b) a)

-- On n sessions after session d no adjustment of a buffered asset becomes effective, whatever column it is
-- for.
pub record IsQuiet (b : Buffered) (d n : ℕ) : Type 0 where
  pub within : d + n ≤ b.first + b.rows
  pub none : (i : ℕ) → i < length b.cols → effective_within b d n (col_at b i) ≡ []

-- n is the greatest number up to most of which P holds
pub record IsGreatest (P : ℕ → Type 0) (most n : ℕ) : Type 0 where
  pub few : n ≤ most
  pub holds : P n
  pub greatest : (k : ℕ) → k ≤ most → P k → k ≤ n
