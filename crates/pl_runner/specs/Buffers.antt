-- The memory of a run.
use Rattle.std.specs.Prelude.{◌≡◌, ℕ, ◌<◌, ◌≤◌, length, vec_capacity}
use Rattle.pl_spec.specs.World.{World}
use Rattle.pl_pipeline.specs.Table.{Pipeline}
use Rattle.pl_planner.specs.Plans.{Planned}
use Rattle.pl_workspace.specs.Slots.{Free, slot_at}
use Rattle.pl_exec.specs.declared.chunk.Chunk.{Chunk}
use Rattle.pl_runner.specs.Chunks.{chunk_at, chunk_count}
use Rattle.pl_runner.specs.Room.{HasRoom}
use Rattle.pl_table.specs.Tiles.{tile_len}
use Rattle.pl_runner.specs.declared.buffers.Buffers.{Buffers}

-- there is room for a chunk, and all slots are free
pub record AreBuffersFor (w : World) (p : Pipeline) (plan : Planned) (chunk : Chunk) (b : Buffers) : Type 0 where
  pub room : HasRoom w p plan chunk b.workspace.len
  pub slots : plan.bound ≤ length b.workspace.slots
  pub free : (s : ℕ) → s < length b.workspace.slots → slot_at b.workspace s ≡ Free
  pub cross : length w.assets ≤ b.cross
  pub rows : length w.assets ≤ b.rows
  pub cols : length w.assets ≤ vec_capacity b.cols
  pub tile : tile_len (length w.assets) (length p.columns) ≤ length b.tile.items

-- for each chunk of so many sessions
abbrev pub AreBuffers : World → Pipeline → Planned → ℕ → Buffers → Type 0
AreBuffers w p plan size b = (i : ℕ) → i < chunk_count plan.from plan.to size → AreBuffersFor w p plan (chunk_at plan.from plan.to size i) b

-- They are no larger than that: a slot for each array that is held at once, and cells for the longest of them.
pub record IsNoMore (w : World) (p : Pipeline) (plan : Planned) (size : ℕ) (b : Buffers) : Type 0 where
  pub slots : length b.workspace.slots ≡ plan.bound
  pub cells : (len : ℕ) → ((i : ℕ) → i < chunk_count plan.from plan.to size → HasRoom w p plan (chunk_at plan.from plan.to size i) len) → b.workspace.len ≤ len
  pub tile : length b.tile.items ≡ tile_len (length w.assets) (length p.columns)
