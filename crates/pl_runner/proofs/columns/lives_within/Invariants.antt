use Rattle.std.proofs.Common.{◌≡◌, ℕ, ◌≤◌, ◌<◌, false, pos}
use Rattle.pl_spec.specs.Parts.{sid_at}
use Rattle.pl_spec.specs.World.{exists}
use Rattle.pl_world.specs.Worlds.{world_of}
use Rattle.pl_runner.proofs.columns.lives_within.Given as goal

abbrev pub invariant-loop-session : goal.invariant-loop-session
invariant-loop-session l = (s : ℕ) → l.low ≤ s → s < l.session → exists (world_of l.asked.world) (sid_at l.asked.world.assets.now l.col) (pos s) ≡ false
