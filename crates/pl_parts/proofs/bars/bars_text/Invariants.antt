use Rattle.std.proofs.Common.{◌≡◌, ◌++◌, take}
use Rattle.std.specs.Prelude.{flat_map}
use Rattle.pl_spec.specs.Parts.{bar_of}
use Rattle.pl_parts.specs.Parts.{world_of}
use Rattle.pl_parts.specs.Spans.{span_of}
use Rattle.pl_parts.specs.Kept.{if_kept, keeps_bar}
use Rattle.pl_parts.specs.Texts.{bar_line, bars_header}
use Rattle.pl_parts.proofs.bars.bars_text.Given as goal

abbrev pub invariant-loop-i : goal.invariant-loop-i
invariant-loop-i l = l.out.items ≡ bars_header ++ flat_map (λ b. if_kept (keeps_bar (world_of l.world) (span_of l.span)) (bar_line l.world.sessions.now) (bar_of l.world.assets.now b)) (take l.i (l.world.bars.now))
