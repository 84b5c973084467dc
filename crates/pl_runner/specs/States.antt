-- What is kept between the sessions.
use Rattle.std.specs.Prelude.{ℕ, ◌≤◌, length, vec_capacity}
use Rattle.pl_pipeline.specs.Table.{Pipeline}
use Rattle.pl_world.specs.declared.world.World.{World}
use Rattle.pl_runner.specs.declared.state.RunState.{RunState}
use Rattle.pl_runner.specs.Days.{IsFed}

-- the sessions below s were fed, each asset has a place, and there is room for what a session brings
pub record IsState (w : World) (p : Pipeline) (s : ℕ) (r : RunState) : Type 0 where
  pub fed : IsFed w p s r.daily
  pub places : length w.assets.now ≤ length r.places.items
  pub bars : length w.assets.now ≤ vec_capacity r.bars
  pub events : length w.adjustments.now ≤ vec_capacity r.events
