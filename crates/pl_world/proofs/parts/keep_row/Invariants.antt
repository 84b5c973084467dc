use Rattle.std.proofs.Common.{◌≡◌, ◌<◌, ◌&&◌, pos, length, get_or, option_map, ℕ}
use Rattle.pl_spec.specs.Cells.{is_true}
use Rattle.pl_spec.specs.Parts.{sid_at}
use Rattle.pl_spec.specs.World.{exists}
use Rattle.pl_world.specs.Worlds.{world_of}
use Rattle.pl_world.specs.Evaluations.{lets_pass_at}
use Rattle.pl_world.proofs.parts.keep_row.Given as goal

abbrev pub invariant-loop-col : goal.invariant-loop-col
invariant-loop-col l = record {
  long : length l.keep.items ≡ l.col;
  each : (i : ℕ) → i < l.col → is_true (get_or l.keep.items i (pos 0)) ≡ (exists (world_of l.world) (sid_at l.world.assets.now i) (pos l.session) && lets_pass_at (option_map (λ m. m.items) l.mask) i);
}
