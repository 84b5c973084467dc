use Rattle.std.proofs.Common.{◌≡◌, ◌++◌, take}
use Rattle.std.specs.Prelude.{flat_map}
use Rattle.pl_spec.specs.Parts.{label_of}
use Rattle.pl_parts.specs.Parts.{world_of}
use Rattle.pl_parts.specs.Spans.{span_of}
use Rattle.pl_parts.specs.Kept.{if_kept, keeps_label}
use Rattle.pl_parts.specs.Texts.{label_line, labels_header}
use Rattle.pl_parts.proofs.labels.labels_text.Given as goal

abbrev pub invariant-loop-i : goal.invariant-loop-i
invariant-loop-i l = l.out.items ≡ labels_header ++ flat_map (λ r. if_kept (keeps_label (world_of l.world) (span_of l.span)) label_line (label_of l.world.assets.now r)) (take l.i (l.world.labels.now.rows))
