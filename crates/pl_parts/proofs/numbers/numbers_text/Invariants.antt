use Rattle.std.proofs.Common.{◌≡◌, ◌++◌, take}
use Rattle.std.specs.Prelude.{flat_map}
use Rattle.pl_spec.specs.Parts.{number_of}
use Rattle.pl_parts.specs.Parts.{world_of}
use Rattle.pl_parts.specs.Spans.{span_of}
use Rattle.pl_parts.specs.Kept.{if_kept, keeps_number}
use Rattle.pl_parts.specs.Texts.{number_line, numbers_header}
use Rattle.pl_parts.proofs.numbers.numbers_text.Given as goal

abbrev pub invariant-loop-i : goal.invariant-loop-i
invariant-loop-i l = l.out.items ≡ numbers_header ++ flat_map (λ r. if_kept (keeps_number (world_of l.world) (span_of l.span)) number_line (number_of l.world.assets.now r)) (take l.i (l.world.numbers.now.rows))
