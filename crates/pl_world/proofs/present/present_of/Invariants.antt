use Rattle.std.proofs.Common.{◌≡◌, ◌≤◌, ◌-◌, ◌&&◌, pos}
use Rattle.std.specs.List.{range_with_len, count_by}
use Rattle.pl_spec.specs.Parts.{sid_at}
use Rattle.pl_spec.specs.Rounding.{is_present}
use Rattle.pl_spec.specs.World.{exists, known_number}
use Rattle.pl_world.specs.Worlds.{world_of}
use Rattle.pl_world.proofs.present.present_of.Given as goal

abbrev pub invariant-loop-session : goal.invariant-loop-session
invariant-loop-session l =
    let w = world_of l.world in
    let a = sid_at l.world.assets.now l.col in
    record {
      from : l.from ≤ l.session;
      count : l.count ≡ count_by (λ s. exists w a (pos s) && is_present (known_number w l.figure l.name a (pos s))) (range_with_len l.from (l.session - l.from));
      few : l.count ≤ l.session - l.from;
    }
