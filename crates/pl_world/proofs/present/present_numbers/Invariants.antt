use Rattle.std.proofs.Common.{◌≡◌, ◌≤◌, ◌*◌, sum_by}
use Rattle.std.specs.List.{range_with_len}
use Rattle.pl_spec.specs.Limits.{most_assets, most_sessions}
use Rattle.pl_terms.specs.Checked.{pipeline_of}
use Rattle.pl_world.specs.Present.{present_in}
use Rattle.pl_world.specs.Worlds.{world_of}
use Rattle.pl_world.proofs.present.present_numbers.Given as goal

abbrev pub invariant-loop-t : goal.invariant-loop-t
invariant-loop-t l = record {
  count : l.count ≡ sum_by (present_in (world_of l.world) (pipeline_of l.checked) l.from l.to) (range_with_len 0 l.t);
  few : l.count ≤ l.t * (most_assets * most_sessions);
}
