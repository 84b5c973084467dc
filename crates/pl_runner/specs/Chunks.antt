-- The chunks into which a run is cut, and the assets of a chunk.
use Rattle.std.specs.Prelude.{◌≡◌, ℕ, ◌+◌, ◌-◌, ◌*◌, ◌/◌, ◌≤◌, min, true, Bool, pos, List, length, map, filter}
use Rattle.std.specs.List.{range_with_len, list_any}
use Rattle.pl_spec.specs.Parts.{sid_at}
use Rattle.pl_spec.specs.World.{World, exists}
use Rattle.pl_pipeline.specs.Graph.{used_terms}
use Rattle.pl_pipeline.specs.Table.{Pipeline}
use Rattle.pl_terms.specs.Uses.{outputs}
use Rattle.pl_planner.specs.Plans.{Planned, is_used, low_at}
use Rattle.pl_exec.specs.declared.chunk.Chunk.{Chunk}

-- ---- chunks

-- how many chunks of so many sessions, the last one perhaps shorter, there are from a session to another
abbrev pub chunk_count : ℕ → ℕ → ℕ → ℕ
chunk_count from to size = (to - from) / size + 1

abbrev pub chunk_at : ℕ → ℕ → ℕ → ℕ → Chunk
chunk_at from to size i = record { from = from + i * size; to = min to (from + i * size + (size - 1)) }

abbrev pub chunks_of : ℕ → ℕ → ℕ → List Chunk
chunks_of from to size = map (chunk_at from to size) (range_with_len 0 (chunk_count from to size))

-- ---- assets

-- the asset in a column exists on one of the sessions low .. to
unfoldable pub lives_within : World → ℕ → ℕ → ℕ → Bool
lives_within w low to col = list_any (λ s. exists w (sid_at w.assets col) (pos s)) (range_with_len low (to + 1 - low))

-- and on one on which a used term is computed for the chunk
abbrev pub is_met : World → Pipeline → Planned → Chunk → ℕ → Bool
is_met w p plan chunk col = list_any (λ k. lives_within w (low_at plan k chunk.from) chunk.to col) (used_terms p.graph (outputs p))

-- the columns of such assets, ascending
unfoldable pub columns_of : World → Pipeline → Planned → Chunk → List ℕ
columns_of w p plan chunk = filter (is_met w p plan chunk) (range_with_len 0 (length w.assets))

-- the first session on which any used term is computed for the chunk
pub record IsLeast (p : Pipeline) (plan : Planned) (from low : ℕ) : Type 0 where
  pub term : ℕ
  pub used : is_used plan term ≡ true
  pub is : low ≡ low_at plan term from
  pub least : (k : ℕ) → is_used plan k ≡ true → low ≤ low_at plan k from
