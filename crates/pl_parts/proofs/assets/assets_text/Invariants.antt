use Rattle.std.proofs.Common.{◌≡◌, ◌++◌, take}
use Rattle.std.specs.Prelude.{flat_map}
use Rattle.pl_cut.specs.Cuts.{lives_in}
use Rattle.pl_parts.specs.Spans.{span_of}
use Rattle.pl_parts.specs.Kept.{if_kept}
use Rattle.pl_parts.specs.Texts.{asset_line, assets_header}
use Rattle.pl_parts.proofs.assets.assets_text.Given as goal

abbrev pub invariant-loop-col : goal.invariant-loop-col
invariant-loop-col l = l.out.items ≡ assets_header ++ flat_map (if_kept (lives_in (span_of l.span)) asset_line) (take l.col (l.world.assets.now))
