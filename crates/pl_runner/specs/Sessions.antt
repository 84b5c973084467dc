-- A session of a world that was fed last.
use Rattle.std.specs.Prelude.{◌≡◌, ℕ, ◌+◌, ◌<◌, true, if◌then◌else◌, nat_le, pos, List, [], length, map}
use Rattle.pl_spec.specs.Parts.{sid_at}
use Rattle.pl_spec.specs.World as worlds
use Rattle.pl_pipeline.specs.Table.{Pipeline, Row, session_rows}
use Rattle.pl_cross.specs.Arrays.{sid_in}
use Rattle.pl_table.specs.Asked.{IsAsked, asked_pipeline, asked_world}
use Rattle.pl_runner.specs.declared.session.FedSession.{FedSession}
use Rattle.pl_runner.specs.Days.{IsFed}

abbrev pub world_in : FedSession → worlds.World
world_in f = asked_world f.asked

abbrev pub pipeline_in : FedSession → Pipeline
pipeline_in f = asked_pipeline f.asked

-- the sids of the assets that are kept, and that in a place
abbrev pub sids_in : FedSession → List ℕ
sids_in f = map (sid_at f.asked.world.assets.now) f.daily.now.kept

abbrev pub sid_of : FedSession → ℕ → ℕ
sid_of f i = sid_in (sids_in f) i

-- all sessions up to it were fed, and it has values
pub record IsFedSession (f : FedSession) : Type 0 where
  pub asked : IsAsked f.asked
  pub within : f.session < length f.asked.world.sessions.now
  pub fed : IsFed f.asked.world (pipeline_in f) (f.session + 1) f.daily.now
  pub answered : f.daily.now.answered ≡ true

-- the rows of a session, where it is of a range that begins with session from
abbrev pub rows_in_range : worlds.World → Pipeline → ℕ → ℕ → List Row
rows_in_range w p from s = if nat_le from s then session_rows w p (pos s) else []
