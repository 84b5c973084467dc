-- What is known of a world by a session.
use Rattle.std.specs.Prelude.{◌≡◌, ℕ, ℤ, pos, ◌≤ℤ◌, Some, slice_get}
use Rattle.pl_spec.specs.Agree.{Agree}
use Rattle.pl_spec.specs.AsOf.{as_of, sessions_to, labels_by, bars_before, adjustments_by, column_numbers_by}
use Rattle.pl_spec.specs.declared.Format.{Format}
use Rattle.pl_spec.specs.World as spec
use Rattle.pl_pipeline.specs.Table.{Pipeline, table}
use Rattle.pl_pipeline.specs.Text.{text}
use Rattle.pl_world.specs.declared.owned.OwnedWorld.{OwnedWorld}
use Rattle.pl_world.specs.declared.world.World.{World}
use Rattle.pl_world.specs.Worlds.{owned_world, world_of}

-- The owned parts are what is known of the world's by session d. So they are the world as of it, which agrees
-- with the whole up to it.
pub record IsKnown (w : World) (d : ℕ) (v : OwnedWorld) : Type 0 where
  pub day : ℤ
  pub is_day : slice_get w.sessions.now d ≡ Some day
  pub sessions : v.sessions ≡ sessions_to d w.sessions.now
  pub assets : v.assets ≡ w.assets.now
  pub labels : v.labels.rows ≡ labels_by day w.labels.now.rows
  pub texts : v.labels.texts ≡ w.labels.now.texts
  pub bars : v.bars ≡ bars_before d w.bars.now
  pub adjustments : v.adjustments ≡ adjustments_by day w.adjustments.now
  pub numbers : v.numbers.rows ≡ column_numbers_by day w.numbers.now.rows
  pub world : owned_world v ≡ as_of (world_of w) d day
  pub agrees : Agree (owned_world v) (world_of w) (pos d) day

-- two worlds have the same rows of a pipeline from a session to a session, these are written alike, and
-- labels have the same codes
pub record ShowsSame (w v : spec.World) (p : Pipeline) (from to : ℕ) : Type 0 where
  pub rows : table w p from to ≡ table v p from to
  pub written : (format : Format) → text w p format (table w p from to) ≡ text v p format (table v p from to)
  pub codes : w.texts ≡ v.texts

-- the owned world shows up to session d what the whole one does
abbrev pub ShowsSameUpTo : World → ℕ → OwnedWorld → Type 0
ShowsSameUpTo w d v = (p : Pipeline) (from to : ℕ) → pos to ≤ℤ pos d → ShowsSame (owned_world v) (world_of w) p from to
