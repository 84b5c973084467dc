-- The work of a chunk, by what the executor is given.
use Rattle.std.specs.Prelude.{ℕ, List}
use Rattle.pl_terms.specs.Checked.{Parts, pipeline_of}
use Rattle.pl_world.specs.declared.world.World.{World}
use Rattle.pl_world.specs.Worlds.{world_of}
use Rattle.pl_planner.specs.Plans.{Planned}
use Rattle.pl_exec.specs.declared.chunk.Chunk.{Chunk}
use Rattle.pl_exec.specs.Tasks.{Task}

abbrev pub task : World → Parts → Planned → Chunk → List ℕ → Task
task w checked plan chunk cols = record { world = world_of w; pipeline = pipeline_of checked; plan = plan; cols = cols; from = chunk.from; to = chunk.to }
