use Rattle.std.proofs.Common.{◌≡◌, ◌≤◌, ◌*◌, sum_by, take}
use Rattle.pl_spec.specs.Limits.{most_sessions}
use Rattle.pl_world.specs.Present.{known_on}
use Rattle.pl_world.specs.Worlds.{world_of}
use Rattle.pl_world.proofs.present.present_under.Given as goal

abbrev pub invariant-loop-col : goal.invariant-loop-col
invariant-loop-col l = record {
  count : l.count ≡ sum_by (λ x. known_on (world_of l.world) l.figure l.from l.to l.name x.sid) (take l.col l.world.assets.now);
  few : l.count ≤ l.col * most_sessions;
}
