use Rattle.std.proofs.Common.{◌≡◌, take, All}
use Rattle.std.specs.Prelude.{flat_map}
use Rattle.pl_adjust.specs.Events.{PutsCell}
use Rattle.pl_parts.specs.Parts.{world_of}
use Rattle.pl_parts.specs.Spans.{span_of}
use Rattle.pl_parts.specs.Kept.{rows_kept, shown}
use Rattle.pl_parts.proofs.gathering.rows_in.Given as goal

abbrev pub invariant-loop-col : goal.invariant-loop-col
invariant-loop-col l = record {
  gathered : shown l.rows.items ≡ flat_map (rows_kept l.kind (world_of l.world) (span_of l.span)) (take l.col l.world.assets.now);
  cells : All (λ x. PutsCell x.event) (shown l.rows.items);
}
