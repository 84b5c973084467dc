-- The buffer of a chunk, and where its traversal stands.
use Rattle.std.specs.Prelude.{◌≡◌, ℕ, ◌+◌, ◌-◌, ◌*◌, ◌<◌, ◌≤◌, min, ℤ, List, length}
use Rattle.std.specs.List.{range_with_len}
use Rattle.pl_adjarray.specs.Buffered.{Buffered}
use Rattle.pl_adjarray.specs.Traversals.{Traversal}
use Rattle.pl_windows.specs.declared.asked.Asked.{Asked}
use Rattle.pl_windows.specs.declared.buffers.Buffers.{Buffers}
use Rattle.pl_windows.specs.declared.chunk.Chunk.{Chunk}

-- the greatest number of sessions of a chunk
abbrev pub most_sessions : ℕ
most_sessions = 126

-- the columns of all assets
abbrev pub all_cols : Asked → List ℕ
all_cols a = range_with_len 0 (length a.world.assets.now)

-- how many sessions the buffer of a chunk of n has
abbrev pub rows_for : Asked → ℕ → ℕ
rows_for a n = a.window + (n - 1)

-- there is room for the bars of the largest chunk
abbrev pub HasRoom : Asked → List ℤ → Type 0
HasRoom a bars = rows_for a (min most_sessions (a.to + 1 - a.from)) * length a.world.assets.now ≤ length bars

-- all columns, and room
pub record AreBuffers (a : Asked) (b : Buffers) : Type 0 where
  pub cols : b.cols.items ≡ all_cols a
  pub room : HasRoom a b.bars.items

-- sessions of the range, not too many
pub record IsChunk (a : Asked) (c : Chunk) : Type 0 where
  pub from : a.from ≤ c.first
  pub order : c.first ≤ c.last
  pub to : c.last ≤ a.to
  pub few : c.last < c.first + most_sessions

-- the buffer is of all assets of the world, and is asked for windows of the asked length
pub record IsBufferOf (a : Asked) (b : Buffered) : Type 0 where
  pub days : b.days ≡ a.world.sessions.now
  pub bars : b.bars ≡ a.world.bars.now
  pub adjustments : b.adjustments ≡ a.world.adjustments.now
  pub column : b.column ≡ a.column
  pub cols : b.cols ≡ all_cols a

-- the traversal has come to the session
pub record IsTraversed (a : Asked) (d : ℕ) (t : Traversal) : Type 0 where
  pub buffer : IsBufferOf a t.array
  pub window : t.window ≡ a.window
  pub session : t.session ≡ d
  pub begun : t.array.first + t.window ≤ t.session
