-- How long arrays are at most.
use Rattle.std.specs.Prelude.{◌≡◌, ℕ, ◌+◌, ◌-◌, ◌*◌, ◌<◌, ◌≤◌, ◌⊎◌, true, length, Some, slice_get}
use Rattle.pl_spec.specs.World.{World}
use Rattle.pl_pipeline.specs.Term.{Node}
use Rattle.pl_pipeline.specs.Table.{Pipeline}
use Rattle.pl_planner.specs.Plans.{Planned, is_used, low_at}
use Rattle.pl_exec.specs.declared.chunk.Chunk.{Chunk}
use Rattle.pl_runner.specs.Chunks.{columns_of}

-- A term has at most so many sessions in the chunk, and a bar column of it so many rows: its window, and one
-- for each session after the first one on which the term is computed.
abbrev pub rows_at : Planned → Chunk → ℕ → Node → ℕ
rows_at plan chunk k n = chunk.to - low_at plan k chunk.from + n.window

-- the number is that of a used term below n
abbrev pub IsOfTerm : Pipeline → Planned → Chunk → ℕ → ℕ → Type 0
IsOfTerm p plan chunk n most = (k : ℕ) × (m : Node) × (k < n) × (is_used plan k ≡ true) × (slice_get p.graph k ≡ Some m) × (rows_at plan chunk k m ≡ most)

-- there are so many at most for used terms below n, and for one of them as many
pub record IsMost (p : Pipeline) (plan : Planned) (chunk : Chunk) (n most : ℕ) : Type 0 where
  pub each : (k : ℕ) (m : Node) → k < n → is_used plan k ≡ true → slice_get p.graph k ≡ Some m → rows_at plan chunk k m ≤ most
  pub some : (most ≡ 0) ⊎ IsOfTerm p plan chunk n most

-- and each array of the chunk has at most so many cells
pub record HasRoom (w : World) (p : Pipeline) (plan : Planned) (chunk : Chunk) (len : ℕ) : Type 0 where
  pub each : (k : ℕ) (m : Node) → is_used plan k ≡ true → slice_get p.graph k ≡ Some m → length (columns_of w p plan chunk) * rows_at plan chunk k m ≤ len
